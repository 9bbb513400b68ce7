use mathlib.Core.Path.{◌≡◌}
use lib.ListN.{drop}
use Rattle.lists.specs.Lists.{elem}
use Rattle.steps.specs.Moves.{none_fits}
use Rattle.steps.proofs.step.maximal.Given as goal

abbrev pub invariant-receivers : goal.invariant-receivers
invariant-receivers l = none_fits l.receivers l.owners ≡ none_fits (drop l.receiver-index l.receivers) l.owners

abbrev pub invariant-loop-owner : goal.invariant-loop-owner
invariant-loop-owner l = elem l.receiver l.owners ≡ elem l.receiver (drop l.owner-index l.owners)
