use native.Mathlib.Omega.{arith}
use Rattle.flattening.proofs.Counts.{exit_pairs_few}
use Rattle.flatten_places.proofs.Naming.{exit_named}
use Rattle.flatten_places.proofs.pair.exit_pairs.Goals as goal

pub returns : goal.returns
returns c = λ k C n f w g.
    c.pairs_with.ensures _ (exit_named k _ C _ _ _ f (omega (arith, g)) c.marks_named-named.ensures n w) (omega (arith, exit_pairs_few k, C.few))
