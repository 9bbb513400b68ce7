use Rattle.network.proofs.initial.is_initial_of.Goals as goal

pub returns : goal.returns
returns c = λ n L. rw (c.automaton_of.ensures n L, c.is_initial.ensures n L)
