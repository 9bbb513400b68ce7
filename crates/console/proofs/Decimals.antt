-- The number that a word is, digit by digit. The code's value stays once it is past 32 bits, and so does whether it is.
use mathlib.Core.Path.{◌≡◌, refl, sym, ap, ◌∙◌}
use mathlib.Core.Bool.{Bool, true, false, cond, ◌&&◌, and-false}
use mathlib.Core.Logic.{◌⊎◌, inl, inr, ⊎_elim}
use mathlib.Core.List.{List, [], ◌∷◌, ◌++◌}
use Prim.Native.Nat.{ℕ, ◌+◌, ◌*◌, ◌-◌, ◌≤◌, ◌<◌}
use native.Mathlib.Omega.{arith}
use lib.Dec.{leb, ltb}
use Rattle.std.specs.Prelude.{Some, None, Result, Ok, Err}
use Rattle.std.specs.Result.{OkIff, result_ok}
use lib.ListN.{length, get_or, drop, drop_of_length-le}
use borrow.Author.Tests.{ltb-true, ltb-false, lt-ltb, le-ltb, le-leb, lt-leb}
use Rattle.lists.specs.Lists.{all}
use Rattle.lists.proofs.Bools.{decided}
use Rattle.lists.proofs.Parts.{drop_next}
use Rattle.console.specs.Script.{is_digit, decimal_after, decimal, is_number, number_of}
use Rattle.console.specs.Places.{with_digit}

-- more digits write no smaller number
decimal_grows : (n : ℕ) (w : List ℕ) → n ≤ decimal_after n w
unfolding decimal_after
decimal_grows n [] = omega arith
decimal_grows n (b ∷ w) = omega (arith, decimal_grows (n * 10 + (b - 48)) w)

-- one digit more at the end
pub decimal_more : (n : ℕ) (w : List ℕ) (b : ℕ) → decimal_after n (w ++ (b ∷ [])) ≡ decimal_after n w * 10 + (b - 48)
unfolding decimal_after
decimal_more n [] b = refl
decimal_more n (a ∷ w) b = decimal_more (n * 10 + (a - 48)) w b

-- a value that goes on to the whole number over the digits that are left, or is past 32 bits as that is
abbrev pub Counted : ℕ → List ℕ → ℕ → Type 0
Counted value rest whole = (decimal_after value rest ≡ whole) ⊎ ((4294967295 < value) × (4294967295 < whole))

digit_high : (n d : ℕ) → 4294967295 < n → with_digit n d ≡ n
unfolding with_digit
digit_high n d h = rw (lt-ltb 4294967295 n h)

pub digit_low : (n d : ℕ) → n ≤ 4294967295 → with_digit n d ≡ n * 10 + d
unfolding with_digit
digit_low n d h = rw (le-ltb 4294967295 n h)

counted_more : (value b : ℕ) (rest : List ℕ) (whole : ℕ) → Counted value (b ∷ rest) whole → Counted (with_digit value (b - 48)) rest whole
unfolding decimal_after
counted_more value b rest whole (inl e) = ⊎_elim high low (decided (ltb 4294967295 value))
  where
    high : ltb 4294967295 value ≡ true → Counted (with_digit value (b - 48)) rest whole
    high t = let h : 4294967295 < value = ltb-true 4294967295 value t in rw (digit_high value (b - 48) h) (inr (h, omega (arith, decimal_grows (value * 10 + (b - 48)) rest)))

    low : ltb 4294967295 value ≡ false → Counted (with_digit value (b - 48)) rest whole
    low t = rw (digit_low value (b - 48) (ltb-false 4294967295 value t)) (inl e)
counted_more value b rest whole (inr (h, k)) = rw (digit_high value (b - 48) h) (inr (h, k))

-- the same where no digit is known to be left, and there is one more
pub counted_digit : (value whole d : ℕ) → Counted value [] whole → Counted (with_digit value d) [] (whole * 10 + d)
unfolding decimal_after
counted_digit value whole d (inl e) = ⊎_elim
    (λ t. let h = ltb-true 4294967295 value t in rw (digit_high value d h) (inr (h, omega arith)))
    (λ t. rw (digit_low value d (ltb-false 4294967295 value t)) (inl (omega arith)))
    (decided (ltb 4294967295 value))
counted_digit value whole d (inr (h, k)) = rw (digit_high value d h) (inr (h, omega arith))

-- the digits of a word before a place are read
pub record Digits (w : List ℕ) (value i : ℕ) : Type 0 where
  pub digits : all is_digit w ≡ all is_digit (drop i w)
  pub counted : Counted value (drop i w) (decimal w)

pub digits_none : (w : List ℕ) → Digits w 0 0
unfolding decimal
digits_none w = record { digits = refl; counted = inl refl }

module _ (w : List ℕ) (value i : ℕ) (D : Digits w value i) where
  here : i < length w → all is_digit (drop i w) ≡ (is_digit (get_or w i 0) && all is_digit (drop (i + 1) w))
  unfolding all
  here h = rw (drop_next w i 0 h)

  pub digits_more : {d v : ℕ} → i < length w → is_digit (get_or w i 0) ≡ true → d ≡ get_or w i 0 - 48 → v ≡ with_digit value d → Digits w v (i + 1)
  digits_more h e f g =
      record {
        digits = D.digits ∙ here h ∙ rw e;
        counted = rw (g, f) (counted_more value (get_or w i 0) (drop (i + 1) w) (decimal w) (rw (drop_next w i 0 h) at D.counted));
      }

  pub digits_stop : i < length w → is_digit (get_or w i 0) ≡ false → None ≡ number_of w
  unfolding number_of is_number
  digits_stop h e =
      let z : all is_digit w ≡ false = D.digits ∙ here h ∙ rw e in
      sym (rw (z, le-leb 1 (length w) (omega arith)))

  end : length w ≤ i → (all is_digit w ≡ true) × Counted value [] (decimal w)
  unfolding all
  end h = (rw (drop_of_length-le w {i = i} h) at D.digits, rw (drop_of_length-le w {i = i} h) at D.counted)

  pub digits_large : length w ≤ i → 4294967295 < value → None ≡ number_of w
  unfolding number_of is_number decimal_after
  digits_large h k = sym (rw ((end h).0, lt-leb (decimal w) 4294967295 (⊎_elim (λ e. omega arith) (λ e. e.1) (end h).1)) (cut (leb 1 (length w))))
    where
      cut : (b : Bool) → cond (b && false) (Some (decimal w)) None ≡ None
      cut true = refl
      cut false = refl

  pub digits_all : 1 ≤ length w → length w ≤ i → value ≤ 4294967295 → Some value ≡ number_of w
  unfolding number_of is_number decimal_after
  digits_all l h k =
      let z : value ≡ decimal w = ⊎_elim (λ e. e) (λ e. absurd (omega (arith, e.0))) (end h).1 in
      sym (rw (le-leb 1 (length w) l, (end h).0, le-leb (decimal w) 4294967295 (omega arith)) (ap Some (sym z)))

-- what is answered after the last digit
pub digits_told : {E : Type 0} (w : List ℕ) (value i : ℕ) → Digits w value i → 1 ≤ length w → length w ≤ i → (r : Result ℕ E) → OkIff r (value < 4294967296) value → result_ok r ≡ number_of w
digits_told w value i D l h (Ok v) (k, e) = ap Some e ∙ digits_all w value i D l h (omega arith)
digits_told w value i D l h (Err f) k = digits_large w value i D h (⊎_elim (λ t. absurd (k (omega (arith, ltb-true value 4294967296 t)))) (λ t. omega (arith, ltb-false value 4294967296 t)) (decided (ltb value 4294967296)))

pub not_digits : (w : List ℕ) → all is_digit w ≡ false → is_number w ≡ false
unfolding is_number
not_digits w h = rw h (and-false (leb 1 (length w)))

pub number_empty : (w : List ℕ) → length w ≡ 0 → None ≡ number_of w
unfolding number_of is_number
number_empty w h = sym (rw (lt-leb 1 (length w) (omega arith)))

-- what an answer says of the word
pub number_value : (w : List ℕ) {v : ℕ} → number_of w ≡ Some v → (is_number w ≡ true) × (v ≡ decimal w)
unfolding number_of
number_value w {v} e = go (is_number w) e
  where
    go : (b : Bool) → cond b (Some (decimal w)) None ≡ Some v → (b ≡ true) × (v ≡ decimal w)
    go true h = (refl, cc)
    go false h = cc

pub number_bad : (w : List ℕ) → number_of w ≡ None → is_number w ≡ false
unfolding number_of
number_bad w e = go (is_number w) e
  where
    go : (b : Bool) → cond b (Some (decimal w)) None ≡ None → b ≡ false
    go true h = cc
    go false h = refl
