-- The calls of a request to run both machines: how many there are, and each call of the network.
use Rattle.std.specs.Prelude.{ℕ, ◌*◌, cond, List, map, eqb, ltb, Result, Ok, Err}
use Rattle.lists.specs.Lists.{below}
use Rattle.reading.specs.Reading.{Read, got, fault, Reader, yield, ◌>>=◌, byte, byte2, byte4, such, many}
use Rattle.reading.specs.Places.{onward, fault_of}
use Rattle.reading.specs.declared.field.Fault.{Fault}
use Rattle.request_parts.specs.Parts.{short_at}
use Rattle.request_parts.specs.declared.calls.Call as declared
use Rattle.request_parts.specs.declared.calls.Call.TheVariants as Cl

pub data Call : Type 0 where
  step : List ℕ → Call
  wait : ℕ → Call

-- the edges of a step
unfoldable pub stepped : Reader Call
stepped = do
  n ← byte2
  ms ← many n byte2
  yield (step ms)

-- the ticks of a wait
unfoldable pub waited : Reader Call
waited = byte4 >>= λ d. yield (wait d)

-- 0 is a step and 1 a wait
unfoldable pub body : ℕ → Reader Call
body k = cond (eqb k 0) stepped waited

unfoldable pub call : Reader Call
call = such byte (λ k. ltb k 2) >>= body

unfoldable pub calls : Reader (List Call)
calls = byte2 >>= λ n. many n call

-- what the code answers: a step's numbers stand in s from a place on
abbrev pub meant : List ℕ → declared.Call → Call
meant s (Cl.Step n from) = step (map (λ i. short_at (onward s from) (2 * i)) (below n))
meant s (Cl.Wait d) = wait d

abbrev pub call_of : List ℕ → Result (declared.Call × ℕ) Fault → Read Call
call_of s (Ok r) = got (meant s r.0) (onward s r.1)
call_of s (Err f) = fault (fault_of f)
