use mathlib.Core.Path.{refl, sym, ◌∙◌}
use mathlib.Core.List.{map}
use native.Mathlib.Omega.{arith}
use lib.ListN.{length-map, length-set}
use Rattle.steps.specs.Cases.{member}
use Rattle.lists.proofs.Lists.{get_d_map, each_below}
use Rattle.lists.proofs.Loops.{front_more, front_all}
use Rattle.network_moves.specs.Choices.{label_at, owner_at}
use Rattle.network_moves.proofs.choice.members_of.Goals as goal

pub loop-i-init : goal.loop-i-init
loop-i-init c = (refl, λ n L h. refl)

pub loop-i-preserved : goal.loop-i-preserved
loop-i-preserved c = (
  length-set c.loop-i.members _ _ ∙ c.loop-i.invariant.0,
  λ n L h. front_more (map (member (label_at n) (owner_at n)) c.args.list.now) c.loop-i.members c.loop-i.i _ _ (c.loop-i.invariant.1 n L h) (omega (arith, c.loop-i.invariant.0)) (omega (arith, length-map c.args.list.now (member (label_at n) (owner_at n))))
      (c.member_of.ensures n L (each_below _ _ h (omega arith)) ∙ sym (get_d_map (member (label_at n) (owner_at n)) c.args.list.now c.loop-i.i 0 (record { signal = 0; channel = 0; owner = 0 }) (omega arith))),
)

pub returns : goal.returns
returns c = λ n L h l. front_all (map (member (label_at n) (owner_at n)) c.args.list.now) _ _ _ (c.loop-i.invariant.1 n L h) (length-map c.args.list.now _) (omega arith) (omega arith)
