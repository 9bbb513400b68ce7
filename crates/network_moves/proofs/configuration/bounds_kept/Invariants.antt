use mathlib.Core.Path.{◌≡◌}
use lib.ListN.{drop}
use Rattle.lists.specs.Lists.{below, all}
use Rattle.network_records.specs.Layout.{Located}
use Rattle.clocks.specs.Clocks.{keeps}
use Rattle.network_records.specs.Network.{Network, location_at}
use Rattle.network_moves.specs.Machine.{place, bounds_kept}
use Rattle.network_moves.proofs.configuration.bounds_kept.Given as goal

abbrev pub invariant-loop-a : goal.invariant-loop-a
invariant-loop-a l = (n : Network) → Located l.rest l.counts n → bounds_kept n l.c ≡ all (λ b. keeps (location_at n (place l.c b)).bounds l.c.clocks) (drop l.a (below n.automata))
