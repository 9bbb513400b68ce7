use mathlib.Core.Path.{refl, sym, ap, ◌∙◌}
use mathlib.Core.List.{[]}
use Rattle.lists.proofs.Bools.{both}
use Rattle.lists.specs.Lists.{all}
use Rattle.labels.specs.Guard.{holds}
use Rattle.reading.proofs.Reading.{no_answer, got_value, mapped_at, fault_at}
use Rattle.lists.proofs.Lists.{all_more, not_all}
use Rattle.reading.proofs.Many.{going_none, going_more, going_stop, going_all, going_has}
use Rattle.labels.proofs.label.all_hold.Goals as goal

pub loop-init : goal.loop-init
unfolding all
loop-init c = ([], going_none _ _ _, refl)

pub returns-in_default : goal.returns-in_default
returns-in_default c = λ gs t e.
    no_answer (sym (going_stop _ _ _ c.loop.invariant.1 c.loop-test.true (fault_at _ _ (sym c.in_default.ensures))) ∙ e)

pub returns-then-not-holds : goal.returns-then-not-holds
returns-then-not-holds c = λ gs t e.
    let m = mapped_at _ _ (sym c.in-Ok.ensures) in
    sym (not_all _ (going_has _ _ _ c.loop.invariant.1 c.loop-test.true m.1 e) (m.2 ∙ c.if-not-holds.true))

pub loop-preserved : goal.loop-preserved
loop-preserved c =
    let m = mapped_at _ _ (sym c.in-Ok.ensures) in (
      _,
      going_more _ _ _ c.loop.invariant.1 c.loop-test.true m.1,
      all_more _ c.loop.invariant.0 m.0 ∙ both c.loop.invariant.2 (m.2 ∙ c.if-not-holds.false),
    )

pub returns : goal.returns
returns c = λ gs t e.
    sym (ap (all (holds _ _)) (got_value (sym e ∙ (going_all _ _ _ c.loop.invariant.1 c.loop-test.false).0)) ∙ c.loop.invariant.2)
