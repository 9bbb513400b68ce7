use mathlib.Core.Path.{sym, ap, ◌∙◌}
use lib.Dec.{ltb}
use borrow.Author.Tests.{lt-ltb, le-ltb}
use Rattle.lists.proofs.Bools.{cond_yes, cond_no}
use Rattle.network.proofs.initial.start_of.Goals as goal

pub returns-then-automaton-counts : goal.returns-then-automaton-counts
returns-then-automaton-counts c = λ n L. c.initial_of.ensures n L ∙ sym (cond_yes _ _ (ap (ltb _) L.automata ∙ lt-ltb _ _ c.if-automaton-counts.true))

pub returns-else-automaton-counts : goal.returns-else-automaton-counts
returns-else-automaton-counts c = λ n L. sym (cond_no _ _ (ap (ltb _) L.automata ∙ le-ltb _ _ c.if-automaton-counts.false))
