use mathlib.Core.Path.{◌≡◌, refl, sym}
use native.Mathlib.Omega.{arith}
use lib.ListN.{length, get_or-eq_default}
use Rattle.network_moves.specs.Machine.{place}
use borrow.Author.Rules.{rules}
use Rattle.network_moves.proofs.configuration.place.Goals as goal

pub returns-then-i-lt-AUTOMATA : goal.returns-then-i-lt-AUTOMATA
unfolding place
returns-then-i-lt-AUTOMATA c = refl

pub returns-else-i-lt-AUTOMATA : goal.returns-else-i-lt-AUTOMATA
unfolding place
returns-else-i-lt-AUTOMATA c = let e : length c.args.c.locations ≡ 16 = search rules in sym (get_or-eq_default c.args.c.locations 0 {n = c.args.automaton} (omega arith))
