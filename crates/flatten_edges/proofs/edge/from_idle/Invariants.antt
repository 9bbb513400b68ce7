use Rattle.flattening.specs.Flatten.{idle, all_places, number}
use Rattle.flatten_places.specs.Walking.{Tabulated, Spread}
use Rattle.flatten_edges.specs.Adding.{Adds}
use Rattle.flatten_edges.proofs.Walks.{idle_edges}
use Rattle.chart_records.specs.Chart.{Chart, states}
use Rattle.lists.specs.Lists.{concat}
use lib.ListN.{take}
use mathlib.Core.List.{Memᴰ as Mem}
use mathlib.Core.Path.{◌≡◌}
use Rattle.flatten_edges.proofs.edge.from_idle.Given as goal

abbrev pub invariant-loop-s : goal.invariant-loop-s
invariant-loop-s l = (c : Chart) → Tabulated c l.t → Spread c l.exits l.homes → Mem (idle l.q) (all_places c) → l.i ≡ number c (idle l.q) → Adds l.initial.heads l.count l.heads l.n (concat (idle_edges c l.q) (take l.s (states c)))
