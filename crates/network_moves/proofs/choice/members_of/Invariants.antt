use mathlib.Core.Path.{◌≡◌}
use mathlib.Core.List.{map}
use lib.ListN.{length, take}
use Rattle.steps.specs.Cases.{member}
use Rattle.network_records.specs.Network.{Network}
use Rattle.network_records.specs.Layout.{Laid}
use Rattle.network_moves.specs.Choices.{label_at, owner_at, Known}
use Rattle.network_moves.proofs.choice.members_of.Given as goal

abbrev pub invariant-loop-i : goal.invariant-loop-i
invariant-loop-i l = (length l.members ≡ 16) × ((n : Network) → Laid l.rest l.counts l.offsets n → Known l.counts l.list → take l.i l.members ≡ take l.i (map (member (label_at n) (owner_at n)) l.list))
