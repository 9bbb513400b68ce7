use mathlib.Core.Path.{◌≡◌}
use lib.ListN.{drop}
use Rattle.lists.specs.Lists.{all}
use Rattle.network_records.specs.Network.{Network, edge_at}
use Rattle.network_moves.specs.Machine.{active_edge}
use Rattle.network_records.specs.Layout.{Laid}
use Rattle.network_moves.specs.Choices.{Known}
use Rattle.network_moves.proofs.active.all_active.Given as goal

abbrev pub invariant-loop-m : goal.invariant-loop-m
invariant-loop-m l = (n : Network) → Laid l.rest l.counts l.offsets n → Known l.counts l.list → all (λ m. active_edge n l.c (edge_at n m)) l.list ≡ all (λ m. active_edge n l.c (edge_at n m)) (drop l.m-index l.list)
