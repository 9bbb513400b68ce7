use Rattle.std.proofs.Common.{ap, ℕ, take}
use Rattle.side_by_side.proofs.Followed.{stepped, waited}
use Rattle.side_by_side.proofs.follow.after_call.Goals as goal

pub returns-in-Step : goal.returns-in-Step
returns-in-Step g c = stepped _ _ _ c.args.line _ _ _ c.shown.ensures c.after_step.ensures c.in-Step.is (ap (λ (k : ℕ). take k c.args.line.list) c.min-count.ensures)

pub returns-in-Wait : goal.returns-in-Wait
returns-in-Wait g c = waited _ _ _ c.args.line _ _ _ c.shown-in-Wait.ensures c.after_wait.ensures c.in-Wait.is
