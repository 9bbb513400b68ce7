use mathlib.Core.Path.{ap}
use mathlib.Core.Bool.{Bool, ◌&&◌}
use Rattle.network_moves.proofs.Taken.{taken_kept}
use Rattle.network_moves.proofs.after.taken.Goals as goal

pub returns : goal.returns
returns c =
    record {
      within = λ d K. ap (λ (b : Bool). c.args.before.within && b) (c.assigned_by-assigned.ensures.within d K);
      configuration = λ n d L K. taken_kept K n (c.automaton_of-owner.ensures n L) c.args.old c.args.before.configuration c.with_location.ensures
          c.with_flags.ensures (c.assigned_by-assigned.ensures.values d K) c.reset.ensures;
    }
