use mathlib.Core.Path.{sym}
use mathlib.Core.List.{[]}
use Rattle.lists.specs.Lists.{concat}
use Rattle.updates.specs.Update.{targets}
use Rattle.reading.proofs.Places.{read_err}
use Rattle.reading.proofs.Reading.{mapped_got, mapped_fault, mapped_at, fault_at}
use Rattle.reading.proofs.Many.{going_none, going_more, going_stop, going_all}
use Rattle.updates.proofs.Updates.{noted_none, noted_update}
use Rattle.labels.proofs.label.read_updates.Goals as goal

pub loop-init : goal.loop-init
unfolding concat
loop-init c = ([], going_none _ _ _, noted_none)

pub returns-in_err-form : goal.returns-in_err-form
returns-in_err-form c =
    read_err _ _ _ c.from_residual.ensures.1
    (mapped_fault _ (going_stop _ _ _ c.loop.invariant.1 c.loop-test.true (fault_at _ _ (sym c.in_err-form.ensures))))

pub loop-preserved : goal.loop-preserved
loop-preserved c =
    let r = mapped_at _ _ (sym c.in_ok-form.ensures) in (
      _,
      going_more _ _ _ c.loop.invariant.1 c.loop-test.true r.1,
      noted_update c.loop.invariant.0 r.0 r.2 (c.note-once.ensures (targets c.loop.invariant.0) c.loop.invariant.2),
    )

pub returns : goal.returns
returns c = rw c.loop.invariant.2.first (sym (mapped_got _ (going_all _ _ _ c.loop.invariant.1 c.loop-test.false).0))
