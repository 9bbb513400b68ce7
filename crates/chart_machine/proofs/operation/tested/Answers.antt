use mathlib.Core.Path.{sym, ◌∙◌}
use Rattle.chart_machine.proofs.Refusals.{tested_broken, tested_kept}
use Rattle.chart_machine.proofs.operation.tested.Goals as goal

pub returns-then-not-bounds_kept : goal.returns-then-not-bounds_kept
returns-then-not-bounds_kept c = λ k S. sym (tested_broken k _ (sym (c.bounds_kept.ensures k S) ∙ c.if-not-bounds_kept.true))

pub returns : goal.returns
returns c = λ k S. sym (tested_kept k _ (sym (c.bounds_kept.ensures k S) ∙ c.if-not-bounds_kept.false))
