use mathlib.Core.Path.{◌≡◌, sym, ap, ◌∙◌}
use mathlib.Core.Bool.{true}
use Rattle.reading.specs.Answer.{Answer}
use Rattle.reading.specs.Verdict.{answer_of}
use Rattle.reading.proofs.Places.{handed_on}
use Rattle.steps.specs.Moves.{known}
use Rattle.steps.specs.Last.{answer_by}
use Rattle.steps.proofs.Last.{last_tests_are}
use Rattle.network_records.specs.Network.{Network}
use Rattle.network_records.specs.Layout.{Laid}
use Rattle.network_moves.specs.Machine.{is_configuration, bounds_kept, tested, step}
use Rattle.network_moves.proofs.Stepping.{known_below, known_few, inactive, urgency, past_urgency}
use Rattle.network_machine.proofs.step.step_along.Goals as goal
use Rattle.network_machine.proofs.step.step_along.Goals.{After-last_tests}

-- what the answer of the last tests says of the step
by_tests : (c : After-last_tests) (n : Network) → Laid c.args.rest.now c.args.counts c.args.offsets.now n → is_configuration n c.args.c ≡ true → known c.args.counts.edges c.args.list.now ≡ true
    → answer_by (answer_of c.last_tests.result) c.configuration_after-after.result.configuration ≡ step n c.args.c c.args.list.now
unfolding tested
by_tests c n L h g =
    let active = sym (c.all_active.ensures n L (known_below _ _ g)) ∙ c.if-not-all_active.false in
    let kept = sym (c.urgency_kept.ensures n L (known_below _ _ g)) ∙ c.if-not-urgency_kept.false in
    let after = c.configuration_after-after.ensures.configuration n L (known_below _ _ g) in
    ap (λ (a : Answer (Unit {0})). answer_by a c.configuration_after-after.result.configuration) c.last_tests.ensures
    ∙ last_tests_are (c.is_allowed-allowed.ensures n L (known_below _ _ g) (known_few _ _ g)) (c.configuration_after-after.ensures.within n L (known_below _ _ g))
    (c.bounds_kept-kept.ensures n L.located ∙ ap (bounds_kept n) after) after
    ∙ sym (past_urgency n c.args.c _ h L.edges g active kept L.located.rendezvous)

pub returns-then-not-all_active : goal.returns-then-not-all_active
returns-then-not-all_active c = λ n L h g. sym (inactive n c.args.c _ h L.edges g (sym (c.all_active.ensures n L (known_below _ _ g)) ∙ c.if-not-all_active.true))

pub returns-then-not-urgency_kept : goal.returns-then-not-urgency_kept
returns-then-not-urgency_kept c = λ n L h g. let active = sym (c.all_active.ensures n L (known_below _ _ g)) ∙ c.if-not-all_active.false in
    sym (urgency n c.args.c _ h L.edges g active (sym (c.urgency_kept.ensures n L (known_below _ _ g)) ∙ c.if-not-urgency_kept.true))

pub returns-in_err-last_tests : goal.returns-in_err-last_tests
returns-in_err-last_tests c = λ n L h g.
    ap answer_of (handed_on _ c.from_residual.ensures.1)
    ∙ sym (ap (λ r. answer_by (answer_of r) c.configuration_after-after.result.configuration) c.in_err-last_tests.was)
    ∙ by_tests (goal.at.returns-in_err-last_tests c).After-last_tests n L h g

pub returns : goal.returns
returns c = λ n L h g.
    sym (ap (λ r. answer_by (answer_of r) c.configuration_after-after.result.configuration) c.in_ok-last_tests.was)
    ∙ by_tests (goal.at.returns c).After-last_tests n L h g
