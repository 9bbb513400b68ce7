use mathlib.Core.List.{[], ◌∷◌}
use native.Mathlib.Omega.{arith}
use Rattle.flatten_alternatives.proofs.Keeping.{kept_none}
use Rattle.flatten_alternatives.proofs.Chosen.{kept_empty, clear_empty, kept_given, or_none}
use Rattle.flatten_alternatives.proofs.alternative.chosen.Goals as goal

pub returns-then-s-ge-STATES : goal.returns-then-s-ge-STATES
returns-then-s-ge-STATES c d C e n = absurd (omega (arith, c.if-s-ge-STATES.true, C.known, C.few))

pub returns : goal.returns
returns c d C e n = kept_given d _ _ _ _ _ C _ (c.choose.ensures d (0 ∷ []) [] C e (clear_empty d _) (λ y _. or_none y) kept_empty (kept_none _ n))
