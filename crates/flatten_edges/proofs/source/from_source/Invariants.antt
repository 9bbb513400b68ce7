use Rattle.flattening.specs.Flatten.{child, all_places, number, bearing_all}
use Rattle.flatten_places.specs.Walking.{Tabulated, Spread}
use Rattle.flatten_edges.specs.Adding.{Adds}
use Rattle.flatten_edges.specs.Bearing.{Recalled}
use Rattle.chart_records.specs.declared.header.Counts.{Counts}
use Rattle.chart_records.specs.Laid.{Laid}
use Rattle.chart_records.specs.Chart.{Chart}
use Rattle.lists.specs.Lists.{concat}
use lib.ListN.{length, take}
use Prim.Native.Nat.{◌-◌}
use mathlib.Core.Path.{◌≡◌}
use Rattle.flatten_edges.proofs.source.from_source.Given as goal

abbrev pub invariant-loop-j : goal.invariant-loop-j
invariant-loop-j l = (c : Chart) (counts : Counts) → Tabulated c l.t → Spread c l.exits l.homes → Laid l.rest counts l.offsets c → l.places ≡ length (all_places c)
    → l.i ≡ number c (child l.s) → Adds l.initial.heads l.count l.heads l.n (concat (bearing_all c l.s) (take l.j (all_places c))) × Recalled c l.s l.sets l.listed

abbrev pub decreases-loop-j : goal.decreases-loop-j
decreases-loop-j l = l.places - l.j
