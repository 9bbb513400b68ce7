use Rattle.std.proofs.Common.{◌≡◌, length, refl, rules}
use Rattle.paired_run.proofs.Following.{follows_none, follows_some}
use Rattle.paired_run.proofs.run.after_move.Goals as goal

pub returns-then-carried-eq0 : goal.returns-then-carried-eq0
returns-then-carried-eq0 c = λ d x h S safe. follows_none d x _ S _ c.if-carried-eq0.true c.saturating_sub-owed.ensures (c.answered.ensures _ refl)

pub returns : goal.returns
returns c =
    let long : length c.args.carried.list ≡ 16 = search rules in
    λ d x h S safe.
    follows_some d x _ S c.args.carried c.args.file.now h long c.requires c.if-carried-eq0.false safe
    c.step-answer.ensures (c.named.ensures d h) refl c.answered-2.ensures
