-- A configuration but for its bounds, which the code tests apart.
use Rattle.std.specs.Prelude.{Bool, ◌&&◌, ltb, eqb, length}
use Rattle.lists.specs.Lists.{all, below}
use Rattle.clocks.specs.Clocks.{in_limit, zero_past, zeros_past}
use Rattle.network_records.specs.Network.{Network, location_at}
use Rattle.network_moves.specs.Machine.{place}
use Rattle.network_moves.specs.declared.configuration.Configuration.{Configuration}

unfoldable pub stands : Network → Configuration → Bool
stands n c =
    all (λ a. ltb (place c a) (length n.locations) && eqb (location_at n (place c a)).automaton a) (below n.automata)
    && (zero_past n.automata c.locations
    && (zero_past n.automata c.flags
    && (zeros_past n.variables c.variables
    && (in_limit n.clocks c.clocks
    && zero_past n.clocks c.clocks))))
