use mathlib.Core.Path.{◌≡◌}
use lib.ListN.{drop}
use Rattle.lists.specs.Lists.{any}
use Rattle.network_records.specs.Network.{Network, urgent_at, edge_at}
use Rattle.network_records.specs.Layout.{Laid}
use Rattle.network_moves.specs.Choices.{Known}
use Rattle.network_moves.proofs.active.any_urgent.Given as goal

abbrev pub invariant-loop-m : goal.invariant-loop-m
invariant-loop-m l = (n : Network) → Laid l.rest l.counts l.offsets n → Known l.counts l.list → any (λ m. urgent_at n (edge_at n m).source) l.list ≡ any (λ m. urgent_at n (edge_at n m).source) (drop l.m-index l.list)
