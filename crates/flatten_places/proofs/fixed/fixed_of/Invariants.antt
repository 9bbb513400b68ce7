use mathlib.Core.Bool.{cond}
use lib.Bits.{bit_xor}
use lib.ListN.{get_or}
use Rattle.lists.specs.Lists.{has}
use Rattle.lists.proofs.Loops.{FilledAmong}
use Rattle.flatten_places.proofs.fixed.fixed_of.Given as goal

abbrev pub invariant-loop-s : goal.invariant-loop-s
invariant-loop-s l = FilledAmong 48 48 (λ x. cond (has (get_or l.inner x 0) 0) (get_or l.tree.kinds x 0) 0) l.kinds l.s × FilledAmong 48 48 (λ x. bit_xor (get_or l.barred x 0) 255) l.exits l.s
