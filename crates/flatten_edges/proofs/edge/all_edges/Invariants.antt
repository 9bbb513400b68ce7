use Rattle.flattening.specs.Flatten.{all_places, from_place}
use Rattle.flatten_places.specs.Walking.{Tabulated}
use Rattle.flatten_places.specs.Tables.{Listed}
use Rattle.flatten_edges.specs.Adding.{Adds}
use Rattle.chart_records.specs.declared.header.Counts.{Counts}
use Rattle.chart_records.specs.Laid.{Laid}
use Rattle.chart_records.specs.Chart.{Chart}
use Rattle.lists.specs.Lists.{concat}
use lib.ListN.{take}
use Rattle.flatten_edges.proofs.edge.all_edges.Given as goal

abbrev pub invariant-loop-i : goal.invariant-loop-i
invariant-loop-i l = (c : Chart) (r : Counts) → Tabulated c l.t → Listed c (all_places c) l.places → Laid l.rest r l.offsets c → Adds l.initial.heads 0 l.heads l.n (concat (from_place c) (take l.i (all_places c)))
