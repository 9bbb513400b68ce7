use mathlib.Core.Path.{◌≡◌}
use lib.ListN.{drop}
use Rattle.lists.specs.Lists.{below, any}
use Rattle.network_records.specs.Layout.{Located}
use Rattle.network_records.specs.Network.{Network, urgent_at}
use Rattle.network_moves.specs.Machine.{place, urgent}
use Rattle.network_moves.proofs.configuration.urgent.Given as goal

abbrev pub invariant-loop-a : goal.invariant-loop-a
invariant-loop-a l = (n : Network) → Located l.rest l.counts n → urgent n l.c ≡ any (λ b. urgent_at n (place l.c b)) (drop l.a (below n.automata))
