use Rattle.flattening.specs.Flatten.{Place}
use Rattle.flatten_edges.specs.Bearing.{BearsEach}
use Rattle.flatten_edges.specs.Adding.{Adds}
use Rattle.flatten_edges.proofs.Bears.{set_edge}
use Rattle.chart_records.specs.Chart.{Chart}
use Rattle.labels.specs.Label.{Label}
use Rattle.lists.specs.Lists.{concat}
use lib.ListN.{take}
use Prim.Native.Nat.{ℕ}
use mathlib.Core.List.{List}
use Rattle.flatten_edges.proofs.bear.bear_each.Given as goal

abbrev pub invariant-loop-tested : goal.invariant-loop-tested
invariant-loop-tested v = (c : Chart) (p q : Place) (l : Label) (xs : List ℕ) → BearsEach c p q l xs v.e v.s v.exit v.off v.sets v.size → Adds v.initial.heads v.count v.heads v.n (concat (set_edge c p q l v.transition v.exit) (take v.tested-index xs))
