use mathlib.Core.Path.{◌≡◌, refl, ◌∙◌}
use mathlib.Core.Bool.{Bool, true, false}
use mathlib.Core.List.{List, [], ◌∷◌}
use Prim.Native.Nat.{ℕ, ◌<◌}
use native.Mathlib.Omega.{arith}
use borrow.Author.Tests.{lt-ltb, le-ltb, eq-eqb, ne_eqb}
use Rattle.std.specs.Prelude.{Option, Some, None}
use Rattle.std.proofs.Common.{Ordering, Less, Equal, Greater}
use Rattle.std.specs.Ordering.{nat_cmp, partial_ordering_then, is_some_and, is_lt}
use Rattle.std.proofs.lemmas.Cmp.{ranked, by_ranked}
use Rattle.network_records.specs.Network.{lex_less}
use Rattle.network.proofs.laid.precedes.Goals as goal

-- whether one list comes before another, by what the numbers in front of them said
before : Option Ordering → List ℕ → List ℕ → Bool
before (Some Less) xs ys = true
before (Some Equal) xs ys = lex_less xs ys
before (Some Greater) xs ys = false
before None xs ys = false

first : (x y : ℕ) (xs ys : List ℕ) → before (Some (nat_cmp x y)) xs ys ≡ lex_less (x ∷ xs) (y ∷ ys)
unfolding before lex_less
first x y xs ys = by_ranked (x < y) (x ≡ y) (y < x) (nat_cmp x y) (ranked x y (nat_cmp x y) refl)
    (λ e l. rw (e, lt-ltb x y l) refl)
    (λ e l. rw (e, le-ltb x y (omega arith), eq-eqb x y l) refl)
    (λ e l. rw (e, le-ltb x y (omega arith), ne_eqb x y (λ q. omega arith)) refl)

next : (p : Option Ordering) (x y : ℕ) (xs ys : List ℕ) → before (partial_ordering_then p (Some (nat_cmp x y))) xs ys ≡ before p (x ∷ xs) (y ∷ ys)
unfolding before
next (Some Less) x y xs ys = refl
next (Some Equal) x y xs ys = first x y xs ys
next (Some Greater) x y xs ys = refl
next None x y xs ys = refl

last : (p : Option Ordering) → is_some_and is_lt p ≡ before p [] []
unfolding before lex_less
last (Some Less) = refl
last (Some Equal) = refl
last (Some Greater) = refl
last None = refl

pub returns : goal.returns
returns c = c.lt.ensures ∙ last _ ∙ next _ _ _ _ _ ∙ next _ _ _ _ _ ∙ next _ _ _ _ _ ∙ next _ _ _ _ _ ∙ first _ _ _ _
