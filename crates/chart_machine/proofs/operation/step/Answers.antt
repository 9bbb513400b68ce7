use mathlib.Core.Path.{sym, ap, ◌∙◌}
use native.Mathlib.Omega.{arith}
use Rattle.reading.specs.Verdict.{answer_of}
use Rattle.reading.proofs.Places.{handed_on}
use Rattle.reading.proofs.Verdicts.{verdict_done_at, verdict_refused_at}
use Rattle.chart_records.specs.Rules.{chart_of}
use Rattle.chart.proofs.Files.{chart_long}
use Rattle.chart_machine.proofs.Refusals.{ready_part}
use Rattle.chart_machine.proofs.Waits.{step_refused, step_passed}
use Rattle.chart_machine.proofs.operation.step.Goals as goal

pub returns-in_err-counts : goal.returns-in_err-counts
returns-in_err-counts c = ap answer_of (handed_on _ c.from_residual.ensures.1) ∙ sym (step_refused _ _ _ (verdict_refused_at (chart_of _) (sym c.in_err-counts.ensures.means)))

pub slice_bounds-step_checked-start : goal.slice_bounds-step_checked-start
slice_bounds-step_checked-start c = omega (arith, chart_long _ (verdict_done_at (chart_of _) (sym c.in_ok-counts.ensures.means)).1)

pub slice_bounds-step_checked-count : goal.slice_bounds-step_checked-count
slice_bounds-step_checked-count c = omega (arith, chart_long _ (verdict_done_at (chart_of _) (sym c.in_ok-counts.ensures.means)).1)

pub returns : goal.returns
returns c = let d = verdict_done_at (chart_of _) (sym c.in_ok-counts.ensures.means) in
    let R = ready_part _ (c.in_ok-counts.ensures.ready d.0 d.1) in
    c.step_checked.ensures d.0 R ∙ sym (step_passed _ _ _ d.1)
