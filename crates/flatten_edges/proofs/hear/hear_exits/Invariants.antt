use Prim.Native.Nat.{ℕ}
use lib.ListN.{take}
use Rattle.lists.specs.Lists.{concat}
use Rattle.chart_records.specs.Chart.{Chart}
use Rattle.flattening.specs.Flatten.{exit_pairs}
use Rattle.flatten_edges.specs.Adding.{Adds}
use Rattle.flatten_edges.specs.Hearing.{HearsExits}
use Rattle.flatten_edges.proofs.Hears.{exit_edge}
use Rattle.flatten_edges.proofs.hear.hear_exits.Given as goal

abbrev pub invariant-loop-k : goal.invariant-loop-k
invariant-loop-k l = (c : Chart) (s : ℕ) → HearsExits c s l.e l.parents l.below l.q l.states l.marks l.pairs l.before → Adds l.initial.heads l.count l.heads l.n (concat (exit_edge c l.q s) (take l.k (exit_pairs c)))
