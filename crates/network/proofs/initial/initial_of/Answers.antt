use mathlib.Core.Path.{refl, sym, ap, ◌∙◌}
use mathlib.Core.List.{List}
use Prim.Native.Nat.{ℕ}
use lib.ListN.{get_or}
use Rattle.lists.proofs.Below.{below_next, below_end}
use Rattle.lists.proofs.Lists.{keep_next, keep_left}
use Rattle.lists.specs.Lists.{keep}
use Rattle.network_records.specs.Network.{initials}
use Rattle.network.proofs.initial.initial_of.Goals as goal

pub loop-i-init : goal.loop-i-init
unfolding initials
loop-i-init c = λ n L. refl

pub returns-then-is_initial_of : goal.returns-then-is_initial_of
returns-then-is_initial_of c = λ n L. sym (ap (λ (k : List ℕ). get_or k 0 0) (c.loop-i.invariant n L ∙ keep_next _ (below_next L.locations _ c.loop-i-test.true) (sym (c.is_initial_of.ensures n L) ∙ c.if-is_initial_of.true)))

pub loop-i-preserved : goal.loop-i-preserved
loop-i-preserved c = λ n L. c.loop-i.invariant n L ∙ keep_left _ (below_next L.locations _ c.loop-i-test.true) (sym (c.is_initial_of.ensures n L) ∙ c.if-is_initial_of.false)

pub returns : goal.returns
unfolding keep
returns c = λ n L. sym (ap (λ (k : List ℕ). get_or k 0 0) (c.loop-i.invariant n L ∙ ap (keep _) (below_end L.locations _ c.loop-i-test.false)))
