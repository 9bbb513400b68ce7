use mathlib.Core.Path.{refl, sym, ap, ap₂, ◌∙◌}
use mathlib.Core.Bool.{◌&&◌}
use mathlib.Core.List.{List, []}
use lib.IntN.{ℤ}
use Rattle.lists.specs.Lists.{all}
use Rattle.lists.proofs.Lists.{all_more}
use Rattle.updates.specs.Update.{Update, stays, updated, assign}
use Rattle.updates.specs.declared.update.NewValues.{NewValues}
use Rattle.reading.proofs.Reading.{no_answer, got_value, mapped_at, fault_at}
use Rattle.updates.proofs.Updates.{assign_more}
use Rattle.reading.proofs.Many.{going_none, going_more, going_stop, going_all}
use Rattle.labels.proofs.label.all_assigned.Goals as goal

pub loop-init : goal.loop-init
unfolding all assign
loop-init c = ([], going_none _ _ _, refl, refl)

pub returns-in_default : goal.returns-in_default
returns-in_default c =
    let stops = going_stop _ _ _ c.loop.invariant.1 c.loop-test.true (fault_at _ _ (sym c.in_default.ensures)) in
    record { within = λ us t e. no_answer (sym stops ∙ e); values = λ us t e. no_answer (sym stops ∙ e) }

pub loop-preserved : goal.loop-preserved
loop-preserved c =
    let u = mapped_at _ _ (sym c.in-Ok.ensures) in (
      _,
      going_more _ _ _ c.loop.invariant.1 c.loop-test.true u.1,
      ap₂ ◌&&◌ c.loop.invariant.2 (ap (λ (n : NewValues). n.within) (sym u.2)) ∙ sym (all_more (stays c.args.old) c.loop.invariant.0 u.0),
      ap (λ (n : NewValues). n.values) (sym u.2) ∙ ap (λ (vs : List ℤ). updated c.args.old u.0 vs) c.loop.invariant.3 ∙ sym (assign_more c.args.old c.loop.invariant.0 u.0 c.args.new),
    )

pub returns : goal.returns
returns c =
    let read = (going_all _ _ _ c.loop.invariant.1 c.loop-test.false).0 in record {
      within = λ us t e. c.loop.invariant.2 ∙ ap (λ (us : List Update). all (stays c.args.old) us) (sym (got_value (sym e ∙ read)));
      values = λ us t e. c.loop.invariant.3 ∙ ap (λ (us : List Update). assign c.args.old us c.args.new) (sym (got_value (sym e ∙ read)));
    }
