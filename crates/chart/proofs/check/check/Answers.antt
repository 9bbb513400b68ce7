use mathlib.Core.Path.{ap, ◌∙◌}
use Rattle.reading.specs.Verdict.{answer_of}
use Rattle.reading.proofs.Places.{handed_on}
use Rattle.chart.proofs.check.check.Goals as goal

pub returns-in_err-checked : goal.returns-in_err-checked
returns-in_err-checked c = ap answer_of (handed_on _ c.from_residual.ensures.1) ∙ c.in_err-checked.ensures.means

pub returns : goal.returns
returns c = c.in_ok-checked.ensures.means
