use Prim.Native.Nat.{◌≤◌}
use lib.ListN.{length, drop}
use Rattle.lists.specs.Lists.{keep}
use Rattle.chart_records.specs.Chart.{Chart, states, sequential}
use Rattle.chart_records.specs.Tree.{sequentials}
use Rattle.chart_tree.specs.Table.{Tabled}
use Rattle.flatten_places.specs.Filling.{AutomatedTo}
use Rattle.flatten_places.proofs.automaton.automata_of.Given as goal

abbrev pub invariant-loop-s : goal.invariant-loop-s
invariant-loop-s l = (k : Chart) → Tabled k l.tree → length (sequentials k) ≤ 16 → AutomatedTo k (keep (sequential k) (drop l.s (states k))) l.automata
