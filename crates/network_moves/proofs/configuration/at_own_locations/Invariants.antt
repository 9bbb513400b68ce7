use mathlib.Core.Path.{◌≡◌}
use Prim.Native.Nat.{ℕ}
use lib.Dec.{ltb, eqb}
use lib.ListN.{length, drop}
use Rattle.lists.specs.Lists.{below, all}
use Rattle.network_records.specs.Layout.{Located}
use mathlib.Core.Bool.{Bool, ◌&&◌}
use Rattle.network_records.specs.Network.{Network, location_at}
use Rattle.network_moves.specs.Machine.{place}
use Rattle.network_moves.specs.declared.configuration.Configuration.{Configuration}
use Rattle.network_moves.proofs.configuration.at_own_locations.Given as goal

abbrev pub is_of : Network → ℕ → ℕ → Bool
is_of n l b = ltb l (length n.locations) && eqb (location_at n l).automaton b

-- an automaton is at a location of its own
abbrev pub own : Network → Configuration → ℕ → Bool
own n c b = is_of n (place c b) b

abbrev pub invariant-loop-a : goal.invariant-loop-a
invariant-loop-a l = (n : Network) → Located l.rest l.counts n → all (own n l.c) (below n.automata) ≡ all (own n l.c) (drop l.a (below n.automata))
