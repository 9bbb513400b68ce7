-- Lines without a call.
use mathlib.Core.Path.{◌≡◌, refl}
use mathlib.Core.Bool.{false}
use mathlib.Core.List.{List}
use Prim.Native.Nat.{ℕ}
use Rattle.lists.proofs.Bools.{clash}
use Rattle.chart_records.specs.Chart.{Chart}
use Rattle.network_records.specs.Network.{Network}
use Rattle.console.specs.Script.{is_call}
use Rattle.console.specs.declared.script.Call.{Call}
use Rattle.console.specs.declared.script.Call.TheVariants as Ca
use Rattle.paired_run.specs.declared.run.Run.{Run}
use Rattle.side_by_side.specs.Lines.{AfterBy}

-- a line without a call leaves the run
pub after_none : (c : Chart) (n : Network) (r : Run) (k : Call) (ms : List ℕ) → is_call k ≡ false → AfterBy c n r k ms r
after_none c n r Ca.Nothing ms h = refl
after_none c n r Ca.Start ms h = clash refl h
after_none c n r Ca.Step ms h = clash refl h
after_none c n r (Ca.Wait d) ms h = clash refl h
after_none c n r Ca.Longest ms h = refl
after_none c n r Ca.Unknown ms h = refl
after_none c n r Ca.Number ms h = refl
