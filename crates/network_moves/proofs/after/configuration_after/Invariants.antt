use mathlib.Core.Path.{◌≡◌}
use mathlib.Core.Bool.{◌&&◌}
use mathlib.Core.List.{map}
use lib.ListN.{drop}
use Rattle.lists.specs.Lists.{all, concat}
use Rattle.updates.specs.Update.{stays}
use Rattle.network_records.specs.Network.{Network, edge_at}
use Rattle.network_records.specs.Layout.{Laid}
use Rattle.network_moves.specs.Choices.{Known}
use Rattle.network_moves.specs.Turns.{taken_all}
use Rattle.network_moves.proofs.after.configuration_after.Given as goal

abbrev pub invariant-loop-m : goal.invariant-loop-m
invariant-loop-m l = (n : Network) → Laid l.rest l.counts l.offsets n → Known l.counts l.list →
    (all (stays l.fn.c.variables) (concat (λ l. l.body.updates) (map (λ m. (edge_at n m).label) l.list))
    ≡ (l.after.within && all (stays l.fn.c.variables) (concat (λ l. l.body.updates) (map (λ m. (edge_at n m).label) (drop l.m-index l.list)))))
    × (taken_all n (map (edge_at n) l.list) l.fn.c.variables l.initial.after.configuration ≡ taken_all n (map (edge_at n) (drop l.m-index l.list)) l.fn.c.variables l.after.configuration)
