use mathlib.Core.Path.{ap₂}
use lib.Dec.{eqb}
use Rattle.network.proofs.laid.joins.Goals as goal

pub returns : goal.returns
returns c = λ n L. ap₂ eqb (c.automaton_of-from.ensures n L) (c.automaton_of.ensures n L)
