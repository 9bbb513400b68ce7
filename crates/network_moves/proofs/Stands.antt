-- A configuration is what stands in the network and keeps its bounds.
use mathlib.Core.Path.{◌≡◌, refl, sym, ap, ◌∙◌}
use mathlib.Core.Bool.{Bool, true, false, ◌&&◌}
use Rattle.clocks.specs.Clocks.{in_limit, zero_past, zeros_past}
use lib.Dec.{ltb, eqb}
use lib.ListN.{length}
use Rattle.lists.specs.Lists.{all, below}
use Rattle.network_records.specs.Network.{Network, location_at}
use Rattle.network_moves.specs.Machine.{place, bounds_kept, is_configuration}
use Rattle.network_moves.specs.Stands.{stands}
use Rattle.network_moves.specs.declared.configuration.Configuration.{Configuration}

-- the last of seven tests, apart from the others
last : (a b c d e f k : Bool) → ((a && (b && (c && (d && (e && f))))) && k) ≡ (a && (b && (c && (d && (e && (f && k))))))
last false b c d e f k = refl
last true false c d e f k = refl
last true true false d e f k = refl
last true true true false e f k = refl
last true true true true false f k = refl
last true true true true true f k = refl

pub configuration_is : (n : Network) (c : Configuration) → (stands n c && bounds_kept n c) ≡ is_configuration n c
unfolding stands is_configuration
configuration_is n c =
    last (all (λ a. ltb (place c a) (length n.locations) && eqb (location_at n (place c a)).automaton a) (below n.automata))
    (zero_past n.automata c.locations) (zero_past n.automata c.flags) (zeros_past n.variables c.variables)
    (in_limit n.clocks c.clocks) (zero_past n.clocks c.clocks) (bounds_kept n c)

pub stands_not : (n : Network) (c : Configuration) → stands n c ≡ false → is_configuration n c ≡ false
stands_not n c h = sym (configuration_is n c) ∙ ap (λ (b : Bool). b && bounds_kept n c) h

pub stands_bounds : (n : Network) (c : Configuration) → stands n c ≡ true → bounds_kept n c ≡ is_configuration n c
stands_bounds n c h = sym (ap (λ (b : Bool). b && bounds_kept n c) h) ∙ configuration_is n c
