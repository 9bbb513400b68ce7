use mathlib.Core.Path.{sym, ap, ap₂, ◌∙◌}
use mathlib.Core.Bool.{◌&&◌}
use Prim.Native.Nat.{ℕ}
use Rattle.clocks.specs.Clocks.{in_limit, zero_past, zeros_past}
use Rattle.network_moves.specs.Stands.{stands}
use Rattle.network_moves.proofs.configuration.stands.Goals as goal

pub returns : goal.returns
unfolding stands zero_past zeros_past
returns c = λ n L. ap₂ ◌&&◌ (c.at_own_locations-at_locations.ensures n L)
    (ap₂ ◌&&◌ (c.zero_past-locations_zero.ensures ∙ ap (λ (m : ℕ). zero_past m c.args.c.locations) (sym L.automata))
    (ap₂ ◌&&◌ (c.zero_past-flags_zero.ensures ∙ ap (λ (m : ℕ). zero_past m c.args.c.flags) (sym L.automata))
    (ap₂ ◌&&◌ (c.zero_past-variables_zero.ensures ∙ ap (λ (m : ℕ). zeros_past m c.args.c.variables) (sym L.variables))
    (ap₂ ◌&&◌ (c.in_limit-within.ensures ∙ ap (λ (m : ℕ). in_limit m c.args.c.clocks) (sym L.clocks))
    (c.zero_past-clocks_zero.ensures ∙ ap (λ (m : ℕ). zero_past m c.args.c.clocks) (sym L.clocks))))))
