use mathlib.Core.Path.{sym, ap, ◌∙◌}
use Prim.Native.Nat.{ℕ}
use native.Mathlib.Omega.{arith}
use lib.ListN.{take}
use Rattle.lists.proofs.Below.{length_below, get_d_below}
use Rattle.lists.proofs.Images.{imaged_none, imaged_more, imaged_all}
use Rattle.chart_steps.proofs.Choices.{transitions_few}
use borrow.Author.Rules.{rules}
use Rattle.chart_steps.proofs.allowed.receiver_homes.Goals as goal

pub loop-t-init : goal.loop-t-init
loop-t-init c = λ k R. imaged_none _ _ 64 _ (search rules)

pub loop-t-preserved : goal.loop-t-preserved
loop-t-preserved c = λ k R.
    imaged_more _ _ 64 _ _ (c.loop-t.invariant k R) 0 (omega (arith, length_below c.args.counts.transitions, c.min-t-end.ensures, c.loop-t-test.true)) (omega (arith, c.min-t-end.ensures, c.loop-t-test.true))
    (rw (get_d_below c.args.counts.transitions c.loop-t.t 0 (omega (arith, c.min-t-end.ensures, c.loop-t-test.true))) (c.receiver_home.ensures k R (omega (arith, c.min-t-end.ensures, c.loop-t-test.true))))

pub returns : goal.returns
returns c = λ k R. ap (λ (m : ℕ). take m c.loop-t.homes) (sym (length_below _)) ∙ imaged_all _ _ 64 _ _ (c.loop-t.invariant k R) (omega (arith, length_below c.args.counts.transitions, c.min-t-end.ensures, c.loop-t-test.false, transitions_few R.ready.laid))
