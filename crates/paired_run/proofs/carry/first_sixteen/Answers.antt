use Rattle.std.proofs.Common.{◌-◌, sym, refl, arith, length-take-le, get_or-take}
use Rattle.lists.proofs.Loops.{filled_none, filled_more, filled_all}
use Rattle.paired_run.proofs.carry.first_sixteen.Goals as goal

pub loop-i-init : goal.loop-i-init
loop-i-init c = λ e. filled_none 16 _ _ (length-take-le 16 c.args.items.now (omega arith)) refl

pub loop-i-preserved : goal.loop-i-preserved
loop-i-preserved c = λ e. filled_more 16 _ _ _ (c.loop-i.invariant e) 0 _ c.loop-i-test.true (sym (get_or-take 16 c.args.items.now c.loop-i.i 0 c.loop-i-test.true))

pub returns : goal.returns
returns c = λ e. filled_all 16 _ _ _ (c.loop-i.invariant e) c.loop-i-test.false
