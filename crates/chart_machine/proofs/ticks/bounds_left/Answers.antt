use mathlib.Core.Path.{◌≡◌, refl, sym, ap, ◌∙◌}
use mathlib.Core.Bool.{cond}
use mathlib.Core.List.{List, ◌∷◌}
use Prim.Native.Nat.{ℕ}
use Rattle.std.specs.Prelude.{Some}
use Rattle.lists.specs.Lists.{all}
use Rattle.lists.proofs.Lists.{all_next, all_stop}
use Rattle.clocks.specs.Clocks.{row_left}
use Rattle.clocks.proofs.Ticks.{where_kept, where_broken, was_kept, was_broken}
use Rattle.chart_records.specs.Chart.{Chart, states, state_at}
use Rattle.chart_moves.specs.Machine.{is_active, bounds_kept, ticks_under}
use Rattle.chart_moves.specs.declared.configuration.Configuration.{Configuration}
use Rattle.chart_machine.specs.Configured.{bound_kept}
use Rattle.chart_rules.proofs.Checks.{states_next, states_end}
use Rattle.chart_machine.proofs.ticks.bounds_left.Goals as goal

-- one state more
under_next : (c : Chart) (σ : Configuration) (m : ℕ) {others rest : List ℕ} {s t : ℕ} → others ≡ s ∷ rest
    → t ≡ cond (is_active σ s) (row_left c.clocks (state_at c s).bounds σ.clocks m) m → ticks_under c σ others m ≡ ticks_under c σ rest t
unfolding ticks_under
under_next c σ m e h = rw (e, h)

pub loop-s-init : goal.loop-s-init
loop-s-init c = λ k S. (refl, ap (ticks_under k c.args.given (states k)) (rw S.clocks (sym c.limit_left-ticks.ensures)))

pub returns-in_err-ticks : goal.returns-in_err-ticks
unfolding bounds_kept
returns-in_err-ticks c =
    λ k S.
    let broken = was_broken _ _ (c.in_err-ticks.ensures k S c.loop-s-test.true) in
    c.from_residual.ensures ∙ sym (where_broken _ ((c.loop-s.invariant k S).0 ∙ all_stop (bound_kept k c.args.given) (states_next S _ c.loop-s-test.true) broken))

pub loop-s-preserved : goal.loop-s-preserved
loop-s-preserved c =
    λ k S.
    let w = was_kept _ _ (c.in_ok-ticks.ensures k S c.loop-s-test.true) in
    let next = states_next S _ c.loop-s-test.true in
    let g = c.loop-s.invariant k S in
    (g.0 ∙ all_next (bound_kept k c.args.given) next w.0, g.1 ∙ under_next k c.args.given _ next w.1)

pub returns : goal.returns
unfolding bounds_kept ticks_under all
returns c =
    λ k S.
    let g = c.loop-s.invariant k S in
    let end = states_end S _ c.loop-s-test.false in
    sym (where_kept _ (g.0 ∙ ap (all (bound_kept k c.args.given)) end) ∙ ap Some (g.1 ∙ ap (λ (rest : List ℕ). ticks_under k c.args.given rest c.loop-s.ticks) end))
