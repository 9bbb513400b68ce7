use mathlib.Core.Path.{◌≡◌}
use lib.ListN.{length, drop}
use Rattle.lists.specs.Lists.{below, all}
use Rattle.network_records.specs.Layout.{Located}
use lib.Dec.{eqb}
use Rattle.network_records.specs.Network.{Network, initials}
use Rattle.network.proofs.initial.one_initial_each.Given as goal

abbrev pub invariant-loop-a : goal.invariant-loop-a
invariant-loop-a l = (n : Network) → Located l.rest l.counts n → all (λ b. eqb (length (initials n b)) 1) (below n.automata) ≡ all (λ b. eqb (length (initials n b)) 1) (drop l.a (below n.automata))
