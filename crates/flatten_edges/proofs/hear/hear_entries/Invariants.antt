use lib.ListN.{take}
use Rattle.lists.specs.Lists.{concat}
use Rattle.chart_records.specs.Chart.{Chart}
use Rattle.flattening.specs.Flatten.{enter_pairs}
use Rattle.flatten_edges.specs.Adding.{Adds}
use Rattle.flatten_edges.specs.Hearing.{HearsEntries}
use Rattle.flatten_edges.proofs.Hears.{entry_edge}
use Rattle.flatten_edges.proofs.hear.hear_entries.Given as goal

abbrev pub invariant-loop-k : goal.invariant-loop-k
invariant-loop-k l = (c : Chart) → HearsEntries c l.e l.parents l.entries l.q l.s l.states l.marks l.pairs l.before → Adds l.initial.heads l.count l.heads l.n (concat (entry_edge c l.q l.s) (take l.k (enter_pairs c)))
