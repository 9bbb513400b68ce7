use mathlib.Core.Path.{sym, ap, ◌∙◌}
use Rattle.chart_records.specs.Rules.{state_rules}
use Rattle.reading.specs.Verdict.{answer_of}
use Rattle.reading.proofs.Places.{handed_on}
use Rattle.reading.proofs.Verdicts.{verdict_done_at, verdict_refused_at}
use Rattle.chart.proofs.Files.{states_refused, states_passed, parents_passed}
use Rattle.chart.proofs.check.rules_checked.Goals as goal

pub returns-in_err-states_checked : goal.returns-in_err-states_checked
returns-in_err-states_checked c = λ k L T e.
    ap answer_of (handed_on _ c.from_residual.ensures.1)
    ∙ sym (states_refused k (verdict_refused_at (state_rules k) (sym (c.in_err-states_checked.ensures k L.stated))))

pub returns : goal.returns
returns c = λ k L T e.
    let h = (verdict_done_at (state_rules k) (sym (c.in_ok-states_checked.ensures k L.stated))).1 in
    states_passed k h (c.transitions_checked.ensures k L T (parents_passed k h) e)
