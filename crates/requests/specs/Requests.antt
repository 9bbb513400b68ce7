-- A request: a file, and what is asked of it.
use Rattle.std.specs.Prelude.{ℕ, ◌<◌, List, [], ◌∷◌, leb, ltb, get_or, take, Result, Ok, Err}
use Rattle.reading.specs.Reading.{Read, got, fault, Reader, yield, ◌>>=◌, byte, byte4, such, framed}
use Rattle.reading.specs.Places.{onward, fault_of}
use Rattle.reading.specs.declared.field.Fault.{Fault}
use Rattle.request_parts.specs.Calls.{Call, body, calls, meant}
use Rattle.requests.specs.declared.request.Machine.{Machine}
use Rattle.requests.specs.declared.request.Machine.TheVariants as Mc
use Rattle.requests.specs.declared.request.Operation as declared
use Rattle.requests.specs.declared.request.Operation.TheVariants as Op
use Rattle.requests.specs.declared.request.Request as asking

-- a call of a machine starts from a configuration, given as its bytes; of one the longest wait is asked too. Breaks are counted
-- in a window of so many ticks; the file has the ticks of the breaks
pub data Operation : Type 0 where
  check : Operation
  flatten : ℕ → Operation
  start : Machine → Operation
  call : Machine → List ℕ → Call → Operation
  run_both : List Call → Operation
  longest : Machine → List ℕ → Operation
  breaks : ℕ → Operation

pub data Request : Type 0 where
  asked : List ℕ → Operation → Request

-- how many bytes a configuration has
abbrev pub size : Machine → ℕ
size Mc.Chart = 144
size Mc.Network = 128

-- the length of the buffer that is lent
unfoldable pub lent : Reader Operation
lent = such byte4 (λ n. leb n 65536) >>= λ n. yield (flatten n)

-- so many bytes
unfoldable pub block : ℕ → Reader (List ℕ)
block n = framed (yield n)

-- a configuration and a call
unfoldable pub called : Machine → ℕ → Reader Operation
called m k = do
  given ← block (size m)
  c ← body k
  yield (call m given c)

unfoldable pub run : Reader Operation
run = calls >>= λ cs. yield (run_both cs)

-- a configuration alone
unfoldable pub longest_from : Machine → Reader Operation
longest_from m = block (size m) >>= λ given. yield (longest m given)

-- how many ticks the window has in which breaks are counted
unfoldable pub windowed : Reader Operation
windowed = byte4 >>= λ w. yield (breaks w)

-- what follows the file, by the number of the operation
unfoldable pub operations : List (Reader Operation)
operations =
    yield check
    ∷ lent
    ∷ yield (start Mc.Chart)
    ∷ called Mc.Chart 0
    ∷ called Mc.Chart 1
    ∷ yield (start Mc.Network)
    ∷ called Mc.Network 0
    ∷ called Mc.Network 1
    ∷ run
    ∷ longest_from Mc.Chart
    ∷ longest_from Mc.Network
    ∷ windowed
    ∷ []

unfoldable pub operation : ℕ → Reader Operation
operation k = get_or operations k run

unfoldable pub request : Reader Request
request = do
  k ← such byte (λ k. ltb k 12)
  file ← framed byte4
  o ← operation k
  yield (asked file o)

-- what the code answers: the file as a slice, and what is asked of it at places of s
abbrev pub calls_of : Read (List Call) → List Call
calls_of (got cs t) = cs
calls_of (fault f) = []

abbrev pub wanted : List ℕ → declared.Operation → Operation
wanted s Op.Check = check
wanted s (Op.Flatten n) = flatten n
wanted s (Op.Start m) = start m
wanted s (Op.Call m at c) = call m (take (size m) (onward s at)) (meant s c)
wanted s (Op.RunBoth at) = run_both (calls_of (calls (onward s at)))
wanted s (Op.Longest m at) = longest m (take (size m) (onward s at))
wanted s (Op.Breaks w) = breaks w

abbrev pub operation_of : List ℕ → Result (declared.Operation × ℕ) Fault → Read Operation
operation_of s (Ok r) = got (wanted s r.0) (onward s r.1)
operation_of s (Err f) = fault (fault_of f)

abbrev pub request_of : List ℕ → Result (asking.Request × ℕ) Fault → Read Request
request_of s (Ok r) = got (asked r.0.file.now (wanted s r.0.operation)) (onward s r.1)
request_of s (Err f) = fault (fault_of f)

-- a request that was read ends past the place where it starts
abbrev pub Beyond : ℕ → Result (asking.Request × ℕ) Fault → Type 0
Beyond at (Ok r) = at < r.1
Beyond at (Err f) = Unit
