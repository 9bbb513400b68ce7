use Rattle.chart_records.specs.Chart.{Chart}
use Rattle.flattening.specs.Flatten.{all_places}
use Rattle.flatten_places.specs.Tables.{Chartered, Listed}
use Rattle.flatten_tables.proofs.Slots.{Inverse, keys_of}
use Rattle.flatten_tables.proofs.number.numbers_of.Given as goal

abbrev pub invariant-loop-i : goal.invariant-loop-i
invariant-loop-i l = (k : Chart) → Chartered k → Listed k (all_places k) l.places → Inverse 1024 (keys_of k) l.numbers l.i
