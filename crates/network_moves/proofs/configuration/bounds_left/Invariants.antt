use mathlib.Core.Path.{◌≡◌}
use mathlib.Core.Bool.{Bool}
use Prim.Native.Nat.{ℕ}
use lib.ListN.{drop}
use Rattle.lists.specs.Lists.{all, below}
use Rattle.clocks.specs.Clocks.{keeps, limit_left}
use Rattle.network_records.specs.Layout.{Located}
use Rattle.network_records.specs.Network.{Network, location_at}
use Rattle.network_moves.specs.Machine.{place, bounds_kept, ticks_under}
use Rattle.network_moves.specs.declared.configuration.Configuration.{Configuration}
use Rattle.network_moves.proofs.configuration.bounds_left.Given as goal

-- the bounds of an automaton's location are kept
abbrev pub kept : Network → Configuration → ℕ → Bool
kept n c a = keeps (location_at n (place c a)).bounds c.clocks

abbrev pub invariant-loop-a : goal.invariant-loop-a
invariant-loop-a l = (n : Network) → Located l.rest l.counts n
    → (bounds_kept n l.c ≡ all (kept n l.c) (drop l.a (below n.automata)))
    × (ticks_under n l.c (below n.automata) (limit_left n.clocks l.c.clocks) ≡ ticks_under n l.c (drop l.a (below n.automata)) l.ticks)
