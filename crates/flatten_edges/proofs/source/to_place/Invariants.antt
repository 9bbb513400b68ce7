use Rattle.flattening.specs.Flatten.{Place, child, all_places, number}
use Rattle.flatten_places.specs.Walking.{Tabulated, Spread}
use Rattle.flatten_edges.specs.Sourcing.{from_state, Sourced}
use Rattle.flatten_edges.specs.Adding.{Adds}
use Rattle.flatten_edges.specs.Bearing.{Recalled}
use Rattle.flatten_edges.proofs.Departs.{to_edges}
use Rattle.chart_records.specs.declared.header.Counts.{Counts}
use Rattle.chart_records.specs.Laid.{Laid}
use Rattle.chart_records.specs.Chart.{Chart}
use Rattle.lists.specs.Lists.{concat}
use lib.ListN.{take}
use Prim.Native.Nat.{ℕ}
use mathlib.Core.List.{Memᴰ as Mem}
use mathlib.Core.Path.{◌≡◌}
use Rattle.flatten_edges.proofs.source.to_place.Given as goal

abbrev pub invariant-loop-k : goal.invariant-loop-k
invariant-loop-k l = (c : Chart) (counts : Counts) (s : ℕ) (p : Place) (T : Tabulated c l.t) → Spread c l.exits l.homes → Laid l.rest counts l.offsets c
    → (S : Sourced c s l.items l.size) → l.i ≡ number c (child s) → l.j ≡ number c p → Mem p (all_places c) → Recalled c s l.initial.sets l.initial.listed
    → Adds l.initial.heads l.count l.heads l.n (concat (to_edges c l.t T s l.items l.size S p) (take l.k (from_state c s))) × Recalled c s l.sets l.listed
