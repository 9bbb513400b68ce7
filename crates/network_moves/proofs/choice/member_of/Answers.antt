use Rattle.network_moves.proofs.Taken.{owner_kept}
use Rattle.network_moves.proofs.choice.member_of.Goals as goal

pub returns : goal.returns
returns c = λ n L h. let K = c.edge_of-e.ensures _ n L h in
    let o = owner_kept K n (c.automaton_of-owner.ensures n L.located) in
    λ j. record { signal = K.signal j; channel = K.channel j; owner = o j }
