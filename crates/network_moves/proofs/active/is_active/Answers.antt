use Rattle.network_moves.proofs.Activity.{active_kept}
use Rattle.network_moves.proofs.active.is_active.Goals as goal

pub returns : goal.returns
returns c = λ n d L K. active_kept K n c.args.c (c.automaton_of-owner.ensures n L) c.place.ensures (c.guards_hold-holds.ensures _ d.label.body K.body.0 K.body.1) (c.flags_agree-agree.ensures _ _ d K)
