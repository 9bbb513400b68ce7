use native.Mathlib.Omega.{arith}
use Rattle.flattening.proofs.Counts.{enter_pairs_few}
use Rattle.flatten_places.proofs.Naming.{enter_named}
use Rattle.flatten_places.proofs.pair.enter_pairs.Goals as goal

pub returns : goal.returns
returns c = λ k C n f w g.
    c.pairs_with.ensures _ (enter_named k _ C _ _ _ f g c.marks_named-named.ensures n w) (omega (arith, enter_pairs_few k, C.few))
