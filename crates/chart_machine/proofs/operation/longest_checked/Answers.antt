use mathlib.Core.Path.{ap, ◌∙◌}
use Rattle.reading.specs.Verdict.{answer_of}
use Rattle.chart_machine.proofs.Refusals.{longest_by}
use Rattle.chart_machine.proofs.operation.longest_checked.Goals as goal

pub returns : goal.returns
returns c = λ k G. ap answer_of c.ok_or.ensures.value ∙ longest_by k c.args.given (c.ticks_left.ensures k G)
