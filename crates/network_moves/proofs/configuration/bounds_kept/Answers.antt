use mathlib.Core.Path.{refl, sym, ap, ◌∙◌}
use Prim.Native.Nat.{ℕ}
use Rattle.lists.specs.Lists.{all}
use Rattle.lists.proofs.Lists.{all_next, all_stop}
use Rattle.lists.proofs.Below.{below_next, below_end}
use Rattle.clocks.specs.Clocks.{keeps}
use Rattle.network_records.specs.Network.{location_at}
use Rattle.network_moves.specs.Machine.{bounds_kept}
use Rattle.network_moves.proofs.configuration.bounds_kept.Goals as goal

pub loop-a-init : goal.loop-a-init
unfolding bounds_kept
loop-a-init c = λ n L. refl

pub returns-then-not-keeps_bounds : goal.returns-then-not-keeps_bounds
returns-then-not-keeps_bounds c = λ n L. let here = ap (λ (x : ℕ). keeps (location_at n x).bounds c.args.c.clocks) (sym c.place-l.ensures) ∙ sym (c.keeps_bounds.ensures n L) in
    sym (c.loop-a.invariant n L ∙ all_stop _ (below_next L.automata _ c.loop-a-test.true) (here ∙ c.if-not-keeps_bounds.true))

pub loop-a-preserved : goal.loop-a-preserved
loop-a-preserved c = λ n L. let here = ap (λ (x : ℕ). keeps (location_at n x).bounds c.args.c.clocks) (sym c.place-l.ensures) ∙ sym (c.keeps_bounds.ensures n L) in
    c.loop-a.invariant n L ∙ all_next _ (below_next L.automata _ c.loop-a-test.true) (here ∙ c.if-not-keeps_bounds.false)

pub returns : goal.returns
unfolding all
returns c = λ n L. sym (c.loop-a.invariant n L ∙ ap (all _) (below_end L.automata _ c.loop-a-test.false))
