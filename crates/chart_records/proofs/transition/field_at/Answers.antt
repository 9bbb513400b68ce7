use Rattle.chart_records.proofs.transition.field_at.Goals as goal

pub returns : goal.returns
returns c = rw (← c.offset_at-place.ensures) c.byte_at.ensures
