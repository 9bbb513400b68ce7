use Rattle.std.proofs.Common.{◌≡◌, ℕ, drop, subst, arith}
use Rattle.lists.specs.Lists.{keep}
use Rattle.flatten_alternatives.specs.Choosing.{Kept}
use Rattle.paired_run.proofs.Carrying.{is_number, kept_first, kept_before}
use Rattle.paired_run.proofs.carry.tabled.Goals as goal

pub loop-i-init : goal.loop-i-init
loop-i-init c = (omega arith, λ e h. kept_first c.args.transitions.now c.args.items.now e h)

pub loop-i-preserved : goal.loop-i-preserved
loop-i-preserved c = (omega arith, λ e h. kept_before c.args.transitions.now c.loop-i.i (omega arith) (omega arith) (c.with_transition-count.ensures _ (c.loop-i.invariant.1 e h)))

pub returns : goal.returns
returns c = λ e h. subst (λ (j : ℕ). Kept c.loop-i.items c.loop-i.count (keep is_number (drop j c.args.transitions.now))) (let z : c.loop-i.i ≡ 0 = omega arith in z) (c.loop-i.invariant.1 e h)
