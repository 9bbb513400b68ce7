use mathlib.Core.Path.{◌≡◌, sym, ap, ◌∙◌}
use mathlib.Core.List.{List, map}
use Prim.Native.Nat.{◌+◌, ◌-◌}
use native.Mathlib.Omega.{arith}
use lib.ListN.{length, get_or, drop, drop_of_length-le, length-drop}
use lib.Seq.{take_all}
use Rattle.lists.specs.Lists.{elem, distinct}
use Rattle.steps.specs.Cases.{owner_of}
use Rattle.steps.specs.declared.step.Member.{Member}
use Rattle.lists.proofs.Parts.{drop_next}
use Rattle.lists.proofs.Once.{distinct_next, distinct_stop}
use Rattle.steps.proofs.step.owners_distinct.Goals as goal
use Rattle.steps.proofs.step.owners_distinct.Goals.{After-owned}

abbrev nobody : Member
nobody = record { signal = 0; channel = 0; owner = 0 }

-- the members behind the place, as the callee has them
behind : (c : After-owned) → c.owned.result ≡ elem (get_or c.args.members.now c.loop-i.i nobody).owner (map owner_of (drop (c.loop-i.i + 1) c.args.members.now))
behind c = c.owned.ensures ∙ ap (λ (ms : List Member). elem (get_or c.args.members.now c.loop-i.i nobody).owner (map owner_of ms)) (take_all (length c.args.members.now - (c.loop-i.i + 1)) (drop (c.loop-i.i + 1) c.args.members.now) (omega (arith, length-drop (c.loop-i.i + 1) c.args.members.now)))

pub returns-then-owned : goal.returns-then-owned
returns-then-owned c = sym (c.loop-i.invariant ∙ distinct_stop (ap (map owner_of) (drop_next _ _ _ c.loop-i-test.true)) (sym (behind (goal.at.returns-then-owned c).After-owned) ∙ c.if-owned.true))

pub loop-i-preserved : goal.loop-i-preserved
loop-i-preserved c = c.loop-i.invariant ∙ distinct_next (ap (map owner_of) (drop_next _ _ _ c.loop-i-test.true)) (sym (behind (goal.at.loop-i-preserved c).After-owned) ∙ c.if-owned.false)

pub returns : goal.returns
unfolding distinct
returns c = sym (c.loop-i.invariant ∙ ap distinct (ap (map owner_of) (drop_of_length-le _ c.loop-i-test.false)))
