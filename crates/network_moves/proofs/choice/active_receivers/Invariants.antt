use mathlib.Core.Path.{◌≡◌}
use mathlib.Core.List.{map}
use lib.ListN.{length, take}
use Rattle.lists.specs.Lists.{below}
use Rattle.network_records.specs.Network.{Network}
use Rattle.network_records.specs.Layout.{Laid}
use Rattle.network_moves.specs.Choices.{receiver_at}
use Rattle.network_moves.proofs.choice.active_receivers.Given as goal

abbrev pub invariant-loop-m : goal.invariant-loop-m
invariant-loop-m l = (length l.receivers ≡ 1024) × ((n : Network) → Laid l.rest l.counts l.offsets n → take l.m l.receivers ≡ take l.m (map (receiver_at n l.c l.channel) (below l.counts.edges)))
