use mathlib.Core.Path.{ap, ◌∙◌}
use Prim.Native.Nat.{ℕ}
use Rattle.reading.specs.Places.{onward}
use Rattle.reading.proofs.Reading.{no_answer, got_value}
use Rattle.clocks.specs.Clocks.{row}
use Rattle.clocks.proofs.Rows.{row_few}
use Rattle.network_records.proofs.Records.{few_clocks, bounds_row}
use Rattle.network_records.proofs.location.bounds_of.Goals as goal

pub returns-in-Ok : goal.returns-in-Ok
returns-in-Ok c = λ n L l. got_value (c.in-Ok.ensures ∙ row_few _ _ (few_clocks L) ∙ ap (λ (p : ℕ). row c.args.counts.clocks (onward c.args.rest.now p)) c.location_place-place.ensures ∙ bounds_row L l)

pub returns-in-Err : goal.returns-in-Err
returns-in-Err c = λ n L l. no_answer (c.in-Err.ensures ∙ row_few _ _ (few_clocks L) ∙ ap (λ (p : ℕ). row c.args.counts.clocks (onward c.args.rest.now p)) c.location_place-place.ensures ∙ bounds_row L l)
