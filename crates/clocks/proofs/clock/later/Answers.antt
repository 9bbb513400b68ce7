use native.Mathlib.Omega.{arith}
use borrow.Author.Rules.{rules}
use mathlib.Core.Path.{◌≡◌, refl, sym, ap, ◌∙◌}
use Prim.Native.Nat.{◌+◌, min}
use borrow.Author.Count.{below_none, below_more}
use lib.ListN.{get_or}
use Rattle.std.specs.Prelude.{Some}
use Rattle.lists.proofs.Bools.{cond_yes, cond_no}
use Rattle.clocks.specs.Clocks.{later}
use Rattle.clocks.proofs.Clocks.{limit_later, limit_later_not, later_more, later_min}
use Rattle.clocks.proofs.clock.later.Goals as goal

pub loop-i-init : goal.loop-i-init
unfolding later
loop-i-init c = (search rules, below_none _, refl)

pub returns-then-clock-gt-CLOCK_LIMIT : goal.returns-then-clock-gt-CLOCK_LIMIT
returns-then-clock-gt-CLOCK_LIMIT c = sym (cond_no _ _ (limit_later_not _ _ _ c.loop-i.i (omega arith) (omega arith) (omega arith)))

pub loop-i-preserved : goal.loop-i-preserved
loop-i-preserved c =
    let e : c.saturating_add-clock.result ≡ get_or c.args.clocks c.loop-i.i 0 + c.args.ticks = omega arith in (
      c.loop-i.invariant.0,
      below_more _ _ c.loop-i.invariant.1 (omega arith),
      rw (e, c.loop-i.invariant.2) (later_more _ _ _ (omega arith)),
    )

pub returns : goal.returns
returns c =
    let e : c.loop-i.i ≡ min c.args.count 8 = omega arith in
    ap Some (c.loop-i.invariant.2 ∙ rw e (later_min _ _ _ c.loop-i.invariant.0))
    ∙ sym (cond_yes _ _ (limit_later _ _ _ (λ k l h. c.loop-i.invariant.1 k (omega arith))))
