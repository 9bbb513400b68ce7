use mathlib.Core.Path.{sym, ◌∙◌}
use Rattle.lists.proofs.Lists.{counted_next, counted_left, counted_all}
use Rattle.lists.proofs.Below.{below_next, below_end}
use Rattle.network_records.specs.Network.{initials}
use native.Mathlib.Omega.{arith}
use Rattle.network.proofs.initial.count_initials.Goals as goal
use Rattle.network.proofs.initial.count_initials.Goals.{then-is_initial_of, else-is_initial_of}

pub loop-i-init : goal.loop-i-init
unfolding initials
loop-i-init c = (omega arith, λ n L. omega arith)

pub loop-i-preserved : goal.loop-i-preserved
loop-i-preserved c =
    elim c.if-is_initial_of.branch [
      | then-is_initial_of w ↦ (omega (arith, w.count-is), λ n L. counted_next _ (below_next L.locations _ c.loop-i-test.true) _ (c.loop-i.invariant.1 n L) (sym (c.is_initial_of.ensures n L) ∙ w.if-is_initial_of.true) w.count-is)
      | else-is_initial_of w ↦ (omega (arith, w.count-is), λ n L. counted_left _ (below_next L.locations _ c.loop-i-test.true) _ (c.loop-i.invariant.1 n L) (sym (c.is_initial_of.ensures n L) ∙ w.if-is_initial_of.false) w.count-is)
    ]

pub returns : goal.returns
returns c = λ n L. counted_all _ _ (c.loop-i.invariant.1 n L) (below_end L.locations _ c.loop-i-test.false)
