use mathlib.Core.Path.{refl}
use Rattle.flatten_places.proofs.Filling.{automated_none}
use Rattle.flatten_places.proofs.automaton.no_automata.Goals as goal

pub returns : goal.returns
returns c = λ k. automated_none k _ refl
