use mathlib.Core.Path.{refl, sym, ap, ◌∙◌}
use Prim.Native.Nat.{ℕ}
use borrow.Author.Tests.{eq-eqb, ne_eqb}
use Rattle.lists.specs.Lists.{all}
use Rattle.lists.proofs.Lists.{all_next, all_stop}
use Rattle.lists.proofs.Below.{below_next, below_end}
use lib.Dec.{eqb}
use Rattle.network.proofs.initial.one_initial_each.Goals as goal

pub loop-a-init : goal.loop-a-init
loop-a-init c = λ n L. refl

pub returns-then-count_initials-ne1 : goal.returns-then-count_initials-ne1
returns-then-count_initials-ne1 c = λ n L. sym (c.loop-a.invariant n L ∙ all_stop _ (below_next L.automata _ c.loop-a-test.true) (ap (λ (x : ℕ). eqb x 1) (sym (c.count_initials.ensures n L)) ∙ ne_eqb _ 1 c.if-count_initials-ne1.true))

pub loop-a-preserved : goal.loop-a-preserved
loop-a-preserved c = λ n L. c.loop-a.invariant n L ∙ all_next _ (below_next L.automata _ c.loop-a-test.true) (ap (λ (x : ℕ). eqb x 1) (sym (c.count_initials.ensures n L)) ∙ eq-eqb _ 1 c.if-count_initials-ne1.false)

pub returns : goal.returns
unfolding all
returns c = λ n L. sym (c.loop-a.invariant n L ∙ ap (all _) (below_end L.automata _ c.loop-a-test.false))
