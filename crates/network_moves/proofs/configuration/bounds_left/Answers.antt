use mathlib.Core.Path.{◌≡◌, refl, sym, ap, ◌∙◌}
use mathlib.Core.List.{List, ◌∷◌}
use Prim.Native.Nat.{ℕ}
use Rattle.lists.specs.Lists.{all, below}
use Rattle.lists.proofs.Lists.{all_next, all_stop}
use Rattle.lists.proofs.Below.{below_next, below_end}
use Rattle.clocks.specs.Clocks.{left_where, keeps, limit_left, row_left}
use Rattle.clocks.proofs.Ticks.{where_kept, where_broken, was_kept, was_broken}
use Rattle.std.specs.Prelude.{Option, Some}
use Rattle.network_records.specs.Network.{Network, location_at}
use Rattle.network_moves.specs.Machine.{place, bounds_kept, ticks_under}
use Rattle.network_moves.specs.declared.configuration.Configuration.{Configuration}
use Rattle.network_moves.proofs.configuration.bounds_left.Goals as goal
use Rattle.network_moves.proofs.configuration.bounds_left.Invariants.{kept}

-- one automaton more
under_next : (n : Network) (c : Configuration) (m : ℕ) {others rest : List ℕ} {a t : ℕ} → others ≡ a ∷ rest
    → t ≡ row_left n.clocks (location_at n (place c a)).bounds c.clocks m → ticks_under n c others m ≡ ticks_under n c rest t
unfolding ticks_under
under_next n c m e h = rw (e, h)

-- what is told of the automaton at hand
here : (n : Network) (c : Configuration) (a ticks l : ℕ) (v : Option ℕ) → l ≡ place c a
    → v ≡ left_where (keeps (location_at n l).bounds c.clocks) (row_left n.clocks (location_at n l).bounds c.clocks ticks)
    → v ≡ left_where (kept n c a) (row_left n.clocks (location_at n (place c a)).bounds c.clocks ticks)
here n c a ticks l v e h =
    h ∙ ap (λ (k : ℕ). left_where (keeps (location_at n k).bounds c.clocks) (row_left n.clocks (location_at n k).bounds c.clocks ticks)) e

pub loop-a-init : goal.loop-a-init
unfolding bounds_kept
loop-a-init c = λ n L. (
  refl,
  ap (ticks_under n c.args.c (below n.automata)) (ap (λ (k : ℕ). limit_left k c.args.c.clocks) L.clocks ∙ sym c.limit_left-ticks.ensures),
)

pub returns-in_err-ticks : goal.returns-in_err-ticks
returns-in_err-ticks c = λ n L. let broken = was_broken _ _ (here n c.args.c c.loop-a.a c.loop-a.ticks _ _ c.place-l.ensures (c.in_err-ticks.ensures n L)) in
    c.from_residual.ensures ∙ sym (where_broken _ ((c.loop-a.invariant n L).0 ∙ all_stop _ (below_next L.automata _ c.loop-a-test.true) broken))

pub loop-a-preserved : goal.loop-a-preserved
loop-a-preserved c = λ n L. let w = was_kept _ _ (here n c.args.c c.loop-a.a c.loop-a.ticks _ _ c.place-l.ensures (c.in_ok-ticks.ensures n L)) in
    let next = below_next L.automata _ c.loop-a-test.true in
    let g = c.loop-a.invariant n L in
    (g.0 ∙ all_next _ next w.0, g.1 ∙ under_next n _ _ next w.1)

pub returns : goal.returns
unfolding ticks_under all
returns c = λ n L. let g = c.loop-a.invariant n L in
    let e = below_end L.automata _ c.loop-a-test.false in
    sym (where_kept _ (g.0 ∙ ap (all (kept n c.args.c)) e) ∙ ap Some (g.1 ∙ ap (λ (rest : List ℕ). ticks_under n c.args.c rest c.loop-a.ticks) e))
