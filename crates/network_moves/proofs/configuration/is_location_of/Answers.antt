use Rattle.network_moves.proofs.configuration.is_location_of.Goals as goal

pub returns : goal.returns
returns c = λ n L. rw (L.locations, c.automaton_of.ensures n L)
