use mathlib.Core.Path.{sym, ◌∙◌}
use Rattle.reading.specs.Answer.{unless}
use Rattle.chart_records.specs.Chart.{counts_of}
use Rattle.chart_records.proofs.Ranges.{headed_long}
use Rattle.chart_records.proofs.header.read_header.Goals as goal

pub returns-then-not-is_headed-clause-means : goal.returns-then-not-is_headed-clause-means
unfolding counts_of unless
returns-then-not-is_headed-clause-means c = rw (sym c.is_headed.ensures ∙ c.if-not-is_headed.true)

pub returns-then-not-in_range-clause-means : goal.returns-then-not-in_range-clause-means
unfolding counts_of unless
returns-then-not-in_range-clause-means c = rw (sym c.is_headed.ensures ∙ c.if-not-is_headed.false, ← c.counts_at-counts.ensures, sym c.in_range.ensures ∙ c.if-not-in_range.true)

pub returns-clause-means : goal.returns-clause-means
unfolding counts_of unless
returns-clause-means c = let h = sym c.is_headed.ensures ∙ c.if-not-is_headed.false in
    rw (h, ← c.counts_at-counts.ensures, sym c.in_range.ensures ∙ c.if-not-in_range.false)

pub returns-clause-within : goal.returns-clause-within
returns-clause-within c = headed_long _ (sym c.is_headed.ensures ∙ c.if-not-is_headed.false)
