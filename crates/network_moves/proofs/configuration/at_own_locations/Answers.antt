use mathlib.Core.Path.{refl, sym, ap, ◌∙◌}
use Prim.Native.Nat.{ℕ}
use Rattle.lists.specs.Lists.{all}
use Rattle.lists.proofs.Lists.{all_next, all_stop}
use Rattle.lists.proofs.Below.{below_next, below_end}
use Rattle.network_moves.proofs.configuration.at_own_locations.Goals as goal
use Rattle.network_moves.proofs.configuration.at_own_locations.Invariants.{is_of}

pub loop-a-init : goal.loop-a-init
loop-a-init c = λ n L. refl

pub returns-then-not-is_location_of : goal.returns-then-not-is_location_of
returns-then-not-is_location_of c = λ n L. let here = ap (λ (x : ℕ). is_of n x c.loop-a.a) (sym c.place-l.ensures) ∙ sym (c.is_location_of.ensures n L) in
    sym (c.loop-a.invariant n L ∙ all_stop _ (below_next L.automata _ c.loop-a-test.true) (here ∙ c.if-not-is_location_of.true))

pub loop-a-preserved : goal.loop-a-preserved
loop-a-preserved c = λ n L. let here = ap (λ (x : ℕ). is_of n x c.loop-a.a) (sym c.place-l.ensures) ∙ sym (c.is_location_of.ensures n L) in
    c.loop-a.invariant n L ∙ all_next _ (below_next L.automata _ c.loop-a-test.true) (here ∙ c.if-not-is_location_of.false)

pub returns : goal.returns
unfolding all
returns c = λ n L. sym (c.loop-a.invariant n L ∙ ap (all _) (below_end L.automata _ c.loop-a-test.false))
