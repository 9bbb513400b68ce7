-- What the code has of a run, against the definition of runs.
use Rattle.std.specs.Prelude.{◌≡◌, ℕ, List, [], ◌∷◌, ◌++◌, take, ◌≢◌, Ok}
use Rattle.reading.specs.Answer.{Answer, done}
use Rattle.reading.specs.Verdict.{answer_of, verdict_of}
use Rattle.chart_records.specs.Chart.{Chart}
use Rattle.chart_records.specs.Rules.{chart_of}
use Rattle.chart_moves.specs.Machine as chart
use Rattle.network_records.specs.Network.{Network, network_of}
use Rattle.flattening.specs.File.{flatten_of}
use Rattle.agreement.specs.Agreement.{Call, step, wait, on_network, Run, run, Accepts}
use Rattle.paired_run.specs.declared.carry.Transitions.{Transitions}
use Rattle.paired_run.specs.declared.run.Run as code
use Rattle.paired_run.specs.declared.run.Reading.{Reading}
use Rattle.paired_run.specs.declared.run.Reading.TheVariants as Rd
use Rattle.paired_run.specs.declared.run.Followed.{Followed}

abbrev pub list_of : Transitions → List ℕ
list_of x = take x.count x.list

-- the chart of a file, and the network that flattening writes of it
pub record Flattening (file bytes : List ℕ) (c : Chart) (n : Network) : Type 0 where
  pub room : ℕ
  pub chart_is : chart_of file ≡ done c
  pub bytes_are : flatten_of file room ≡ done bytes
  pub network_is : network_of bytes ≡ done n

-- the code's run is that of the definition, but for the chart list read so far
pub record Stands (x : code.Run) (r : Run) : Type 0 where
  pub network : x.network ≡ r.network
  pub chart : x.chart ≡ r.chart
  pub owed : x.owed ≡ r.owed

-- the chart call that was read, if one was
abbrev pub called_by : Reading → Transitions → List Call
called_by Rd.Nothing x = []
called_by Rd.Step x = step (list_of x) ∷ []
called_by (Rd.Wait d) x = wait d ∷ []

-- the verdict on a call that is accepted
abbrev pub passed : Answer (Unit {0})
passed = done tt

-- an accepted call of the network, of which the chart accepts what is read
abbrev pub followed_by : Reading → Transitions → code.Run → Followed
followed_by reading x r = record { verdict = Ok tt; reading = reading; carried = x; answer = Ok tt; run = r }

-- the run r went on to s: the code has s, the chart call that s has read more, which the chart accepted, and the network's
-- verdict
pub record Follows (r s : Run) (v : Answer (Unit {0})) (f : Followed) : Type 0 where
  pub stands : Stands f.run s
  pub reads : s.reading ≡ r.reading ++ called_by f.reading f.carried
  pub accepted : answer_of f.answer ≡ passed
  pub verdict : answer_of f.verdict ≡ v

-- the same by one call of the network after a list of calls
abbrev pub FollowsCall : Chart → Network → List Call → Call → Followed → Type 0
FollowsCall c n calls x f = Follows (run c n calls) (run c n (calls ++ (x ∷ []))) (verdict_of (on_network n (run c n calls).network x)) f

-- transitions that are carried while nothing is owed, and that the chart accepts
abbrev pub Safe : Chart → Run → List ℕ → Type 0
Safe c r ts = (ts ≢ []) → (r.owed ≡ 0) × Accepts (chart.step c r.chart ts)
