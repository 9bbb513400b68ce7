-- The run after a line of the script, against the definition of runs.
use Rattle.std.specs.Prelude.{ℕ, ◌≡◌, List, [], ◌∷◌, ◌++◌}
use Rattle.chart_records.specs.Chart.{Chart}
use Rattle.network_records.specs.Network.{Network}
use Rattle.agreement.specs.Agreement as agreed
use Rattle.console.specs.Script.{numbers_of}
use Rattle.console.specs.declared.script.Call.{Call}
use Rattle.console.specs.declared.script.Call.TheVariants as Ca
use Rattle.console.specs.declared.script.Line.{Line}
use Rattle.paired_run.specs.Paired.{Flattening, Stands}
use Rattle.paired_run.specs.declared.run.Run.{Run}

-- by the call: a start begins the run anew, a step and a wait make it longer by one call of the network, and where the longest
-- wait is asked for, or there is no call, it stays
abbrev pub AfterBy : Chart → Network → Run → Call → List ℕ → Run → Type 0
AfterBy c n r Ca.Nothing ms s = s ≡ r
AfterBy c n r Ca.Start ms s = Stands s (agreed.run c n [])
AfterBy c n r Ca.Step ms s = (calls : List agreed.Call) → Stands r (agreed.run c n calls) → Stands s (agreed.run c n (calls ++ (agreed.step ms ∷ [])))
AfterBy c n r (Ca.Wait d) ms s = (calls : List agreed.Call) → Stands r (agreed.run c n calls) → Stands s (agreed.run c n (calls ++ (agreed.wait d ∷ [])))
AfterBy c n r Ca.Longest ms s = s ≡ r
AfterBy c n r Ca.Unknown ms s = s ≡ r
AfterBy c n r Ca.Number ms s = s ≡ r

-- of a chart and the network that flattening writes of it
abbrev pub AfterLine : List ℕ → List ℕ → Run → Line → Run → Type 0
AfterLine file bytes r l s = (c : Chart) (n : Network) → Flattening file bytes c n → AfterBy c n r l.call (numbers_of l) s
