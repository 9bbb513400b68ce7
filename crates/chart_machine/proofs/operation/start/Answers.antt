use mathlib.Core.Path.{sym, ap, ◌∙◌}
use Rattle.reading.specs.Answer.{done}
use Rattle.reading.specs.Verdict.{answer_of}
use Rattle.reading.proofs.Places.{handed_on}
use Rattle.reading.proofs.Verdicts.{verdict_done_at, verdict_refused_at}
use Rattle.chart_records.specs.Rules.{chart_of}
use Rattle.chart_machine.proofs.Waits.{start_refused, start_passed}
use Rattle.chart_machine.proofs.operation.start.Goals as goal

pub returns-in_err-checked : goal.returns-in_err-checked
returns-in_err-checked c = ap answer_of (handed_on _ c.from_residual.ensures.1) ∙ sym (start_refused _ (verdict_refused_at (chart_of _) (sym c.in_err-checked.ensures.means)))

pub returns : goal.returns
returns c = let d = verdict_done_at (chart_of _) (sym c.in_ok-checked.ensures.means) in
    ap done (c.start.ensures _ d.0 (c.in_ok-checked.ensures.ready d.0 d.1)) ∙ sym (start_passed _ d.1)
