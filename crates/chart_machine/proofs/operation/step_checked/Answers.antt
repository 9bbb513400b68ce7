use mathlib.Core.Path.{refl, sym, ap, ◌∙◌}
use mathlib.Core.Path.{◌≡◌}
use Rattle.reading.specs.Answer.{Answer}
use Rattle.reading.specs.Verdict.{answer_of}
use Rattle.reading.proofs.Places.{handed_on}
use Rattle.steps.specs.Last.{last_tests, answer_by}
use Rattle.steps.proofs.Last.{last_tests_are}
use Rattle.chart_moves.specs.Machine.{bounds_kept, tested, step}
use Rattle.chart_machine.proofs.Refusals.{grown_of, prepared, step_elsewhere, step_unknown, step_inactive, step_last}
use Rattle.chart_machine.proofs.operation.step_checked.Goals as goal
use Rattle.chart_machine.proofs.operation.step_checked.Goals.{After-last_tests}
use Rattle.chart_records.specs.Chart.{Chart}
use Rattle.chart.specs.Ready.{Ready}

pub returns-then-not-is_configuration : goal.returns-then-not-is_configuration
returns-then-not-is_configuration c = λ k R. sym (step_elsewhere k _ _ (sym (c.is_configuration.ensures k (grown_of R)) ∙ c.if-not-is_configuration.true))

pub returns-then-not-known : goal.returns-then-not-known
returns-then-not-known c =
    λ k R. sym (step_unknown k _ _ R.laid.transitions (sym (c.is_configuration.ensures k (grown_of R)) ∙ c.if-not-is_configuration.false) (sym c.known.ensures ∙ c.if-not-known.true))

pub returns-then-not-all_active : goal.returns-then-not-all_active
returns-then-not-all_active c =
    λ k R. let stands = sym (c.is_configuration.ensures k (grown_of R)) ∙ c.if-not-is_configuration.false in
    let few = sym c.known.ensures ∙ c.if-not-known.false in
    sym (step_inactive k _ _ R.laid.transitions stands few
    (sym (c.all_active.ensures k (prepared k R stands (c.complete_exits-complete.ensures k c.args.given R.tabled R.parents refl)) few) ∙ c.if-not-all_active.true))

-- what the last tests leave of the step
whole : (c : After-last_tests) (k : Chart) → Ready c.args.rest.now c.args.counts c.args.offsets.now c.args.tree k
    → answer_by (last_tests c.is_allowed-allowed.result c.after-after.result.within c.bounds_kept-kept.result) c.after-after.result.configuration ≡ step k c.args.given c.args.list.now
unfolding tested
whole c k R =
    let few = sym c.known.ensures ∙ c.if-not-known.false in
    let stands = sym (c.is_configuration.ensures k (grown_of R)) ∙ c.if-not-is_configuration.false in
    let P = prepared k R stands (c.complete_exits-complete.ensures k c.args.given R.tabled R.parents refl) in
    let next = c.after-after.ensures.configuration k R few in
    last_tests_are (c.is_allowed-allowed.ensures k P few) (c.after-after.ensures.within k R few) (c.bounds_kept-kept.ensures k R.laid.stated ∙ ap (bounds_kept k) next) next
    ∙ sym (step_last k _ _ R.laid.transitions stands few (sym (c.all_active.ensures k P few) ∙ c.if-not-all_active.false) refl)

pub returns-in_err-last_tests : goal.returns-in_err-last_tests
returns-in_err-last_tests c =
    λ k R. ap answer_of (handed_on _ c.from_residual.ensures.1) ∙ ap (λ (a : Answer (Unit {0})). answer_by a c.after-after.result.configuration) c.in_err-last_tests.ensures
    ∙ whole (goal.at.returns-in_err-last_tests c).After-last_tests k R

pub returns : goal.returns
returns c = λ k R. ap (λ (a : Answer (Unit {0})). answer_by a c.after-after.result.configuration) c.in_ok-last_tests.ensures ∙ whole (goal.at.returns c).After-last_tests k R
