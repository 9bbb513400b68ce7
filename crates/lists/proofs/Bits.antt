-- Laws of sets of small numbers, kept as the bits of a number: each for any width.
use mathlib.Core.Path.{◌≡◌, refl, sym, ap, ap₂, ◌∙◌}
use mathlib.Core.Bool.{Bool, true, false, cond, not, ◌&&◌, ◌||◌, xor}
use mathlib.Core.Logic.{◌≢◌}
use Prim.Native.Nat.{ℕ, zero, suc, ◌+◌, ◌*◌, ◌-◌, ◌/◌, ◌%◌, ◌^◌, ◌≤◌, ◌<◌}
use native.Mathlib.Omega.{arith}
use lib.Pow.{pow_pos, pow_mono}
use native.Mathlib.Nat.{mod-lt, one-mul, div-lt_iff_lt-mul, div-eq_of_lt, pow-zero, pow-suc, div-one, div-div-eq-div-mul, mul_comm, zero-div, le_of_eq, lt_of_le_of_lt, lt_of_lt_of_le}
use borrow.Author.Tests.{eqb-true, eq-eqb, ne_eqb, lt-ltb, le-ltb, ltb-true, not-true}
use native.Mathlib.Decide.{dec_lt}
use lib.Bits as Words
use lib.Dec.{ltb, eqb, lit<, eqb-zero-suc, eqb-suc-zero, eqb-suc-suc, leb-suc-suc}
use Rattle.lists.specs.Lists.{has, bits_from, bits_of, implies, subset}
use Rattle.lists.proofs.Bools.{parts, clash, and_l, and_r, both, same, implies_at, implies_by}
use Rattle.lists.proofs.Lists.{all_at, all_by}
use Rattle.lists.proofs.Below.{below_by, below_all}

-- the lowest bit, and the others
pub has_low : (m : ℕ) → has m 0 ≡ eqb (m % 2) 1
unfolding has
has_low m = ap (λ (n : ℕ). eqb (n % 2) 1) (ap (λ (n : ℕ). m / n) (pow-zero 2) ∙ div-one m)

pub has_suc : (m i : ℕ) → has m (suc i) ≡ has (m / 2) i
unfolding has
has_suc m i = ap (λ (n : ℕ). eqb (n % 2) 1) (ap (λ (n : ℕ). m / n) (pow-suc 2 i ∙ mul_comm (2 ^ i) 2) ∙ sym (div-div-eq-div-mul m 2 (2 ^ i)))

pub has_zero : (i : ℕ) → has 0 i ≡ false
unfolding has
has_zero i = ap (λ (n : ℕ). eqb (n % 2) 1) (zero-div (2 ^ i))

-- a number below 2 is 0 or 1
digit : (m : ℕ) → m % 2 ≡ cond (has m 0) 1 0
digit m = go (m % 2) refl (mod-lt m (lit< tt))
  where
    go : (d : ℕ) → m % 2 ≡ d → d < 2 → m % 2 ≡ cond (has m 0) 1 0
    go zero e h = rw (has_low m, e)
    go (suc zero) e h = rw (has_low m, e)
    go (suc (suc d)) e h = absurd (omega arith)

-- two numbers with the same bits are one
ext_below : (k x y : ℕ) → x ≤ k → y ≤ k → ((i : ℕ) → has x i ≡ has y i) → x ≡ y
ext_below zero x y h l f = omega arith
ext_below (suc k) x y h l f =
    let half : x / 2 ≡ y / 2 = ext_below k (x / 2) (y / 2) (omega arith) (omega arith) (λ i. sym (has_suc x i) ∙ f (suc i) ∙ has_suc y i) in
    let odd : x % 2 ≡ y % 2 = digit x ∙ ap (λ (b : Bool). cond b 1 0) (f 0) ∙ sym (digit y) in
    omega arith

pub has_ext : (x y : ℕ) → ((i : ℕ) → has x i ≡ has y i) → x ≡ y
has_ext x y f = ext_below (x + y) x y (omega arith) (omega arith) f

-- one bit before the others
half_of : (b : Bool) (x : ℕ) → (cond b 1 0 + 2 * x) / 2 ≡ x
half_of true x = omega arith
half_of false x = omega arith

low_of : (b : Bool) (x : ℕ) → has (cond b 1 0 + 2 * x) 0 ≡ b
low_of true x = has_low _ ∙ eq-eqb ((1 + 2 * x) % 2) 1 (omega arith)
low_of false x = has_low _ ∙ ne_eqb ((0 + 2 * x) % 2) 1 (omega arith)

module _ (p : ℕ → Bool) where
  has_from : (from n i : ℕ) → has (bits_from p from n) i ≡ (ltb i n && p (from + i))
  unfolding bits_from
  has_from from zero i = has_zero i ∙ sym (ap (λ (b : Bool). b && p (from + i)) (le-ltb i 0 (omega arith)))
  has_from from (suc n) zero = low_of (p from) _ ∙ ap p (omega arith) ∙ sym (ap (λ (b : Bool). b && p (from + 0)) (lt-ltb 0 (suc n) (omega arith)))
  has_from from (suc n) (suc i) =
      has_suc _ i ∙ ap (λ (m : ℕ). has m i) (half_of (p from) _) ∙ has_from (suc from) n i
      ∙ ap (λ (j : ℕ). ltb i n && p j) (omega arith) ∙ sym (ap (λ (b : Bool). b && p (from + suc i)) (leb-suc-suc (suc i) n))

  -- a set that is made by a test has what passes it, below its width
  pub has_bits : (n i : ℕ) → has (bits_of p n) i ≡ (ltb i n && p i)
  unfolding bits_of
  has_bits n i = has_from 0 n i ∙ ap (λ (j : ℕ). ltb i n && p j) (omega arith)

  pub has_bits_of : (n i : ℕ) → i < n → has (bits_of p n) i ≡ p i
  has_bits_of n i h = has_bits n i ∙ ap (λ (b : Bool). b && p i) (lt-ltb i n h)

-- the greatest number of n bits has each of them
pub has_full : (n i : ℕ) → i < n → has (2 ^ n - 1) i ≡ true
has_full zero i h = absurd (omega arith)
has_full (suc n) zero h = has_low (2 ^ suc n - 1) ∙ eq-eqb ((2 ^ suc n - 1) % 2) 1 (omega (arith, pow-suc 2 n, pow_pos n))
has_full (suc n) (suc i) h =
    has_suc (2 ^ suc n - 1) i ∙ ap (λ (m : ℕ). has m i) (let z : (2 ^ suc n - 1) / 2 ≡ 2 ^ n - 1 = omega (arith, pow-suc 2 n, pow_pos n) in z)
    ∙ has_full n i (omega arith)

digit_and : (x y : ℕ) → x < 2 → y < 2 → eqb (Words.bit_and x y) 1 ≡ (eqb x 1 && eqb y 1)
digit_and zero zero h k = refl
digit_and zero (suc zero) h k = refl
digit_and zero (suc (suc y)) h k = absurd (omega arith)
digit_and (suc zero) zero h k = refl
digit_and (suc zero) (suc zero) h k = refl
digit_and (suc zero) (suc (suc y)) h k = absurd (omega arith)
digit_and (suc (suc x)) y h k = absurd (omega arith)

digit_or : (x y : ℕ) → x < 2 → y < 2 → eqb (Words.bit_or x y) 1 ≡ (eqb x 1 || eqb y 1)
digit_or zero zero h k = refl
digit_or zero (suc zero) h k = refl
digit_or zero (suc (suc y)) h k = absurd (omega arith)
digit_or (suc zero) zero h k = refl
digit_or (suc zero) (suc zero) h k = refl
digit_or (suc zero) (suc (suc y)) h k = absurd (omega arith)
digit_or (suc (suc x)) y h k = absurd (omega arith)

-- a set of one
pub has_one : (k i : ℕ) → has (2 ^ k) i ≡ eqb k i
unfolding has
has_one zero zero = refl
has_one zero (suc i) = has_suc 1 i ∙ has_zero i ∙ sym (eqb-zero-suc i)
has_one (suc k) zero = has_low (2 ^ suc k) ∙ ne_eqb (2 ^ suc k % 2) 1 (omega arith) ∙ sym (eqb-suc-zero k)
has_one (suc k) (suc i) = has_suc (2 ^ suc k) i ∙ ap (λ (m : ℕ). has m i) (omega arith) ∙ has_one k i ∙ sym (eqb-suc-suc k i)

-- two sets that share nothing
abbrev pub Apart : ℕ → ℕ → Type 0
Apart x y = (i : ℕ) → has x i ≡ true → has y i ≡ true → ⊥

-- their sum is their union
pub has_sum : (x y : ℕ) → Apart x y → (i : ℕ) → has (x + y) i ≡ (has x i || has y i)
has_sum x y a zero = go (has x 0) (has y 0) refl refl
  where
    go : (p q : Bool) → has x 0 ≡ p → has y 0 ≡ q → has (x + y) 0 ≡ (p || q)
    go true true e f = absurd (a 0 e f)
    go true false e f = has_low (x + y) ∙ eq-eqb ((x + y) % 2) 1 (omega (arith, digit x ∙ ap (λ (b : Bool). cond b 1 0) e, digit y ∙ ap (λ (b : Bool). cond b 1 0) f))
    go false true e f = has_low (x + y) ∙ eq-eqb ((x + y) % 2) 1 (omega (arith, digit x ∙ ap (λ (b : Bool). cond b 1 0) e, digit y ∙ ap (λ (b : Bool). cond b 1 0) f))
    go false false e f = has_low (x + y) ∙ ne_eqb ((x + y) % 2) 1 (omega (arith, digit x ∙ ap (λ (b : Bool). cond b 1 0) e, digit y ∙ ap (λ (b : Bool). cond b 1 0) f))
has_sum x y a (suc i) =
    has_suc (x + y) i ∙ ap (λ (m : ℕ). has m i) (halved (has x 0) (has y 0) refl refl)
    ∙ has_sum (x / 2) (y / 2) (λ j p q. a (suc j) (has_suc x j ∙ p) (has_suc y j ∙ q)) i
    ∙ sym (ap (λ (b : Bool). b || has y (suc i)) (has_suc x i) ∙ ap (λ (b : Bool). has (x / 2) i || b) (has_suc y i))
  where
    halved : (p q : Bool) → has x 0 ≡ p → has y 0 ≡ q → (x + y) / 2 ≡ x / 2 + y / 2
    halved true true e f = absurd (a 0 e f)
    halved true false e f = omega (arith, digit x ∙ ap (λ (b : Bool). cond b 1 0) e, digit y ∙ ap (λ (b : Bool). cond b 1 0) f)
    halved false true e f = omega (arith, digit x ∙ ap (λ (b : Bool). cond b 1 0) e, digit y ∙ ap (λ (b : Bool). cond b 1 0) f)
    halved false false e f = omega (arith, digit x ∙ ap (λ (b : Bool). cond b 1 0) e, digit y ∙ ap (λ (b : Bool). cond b 1 0) f)

-- a set made by a test is the set with those elements, whatever its width
pub bits_is : (p : ℕ → Bool) (n x : ℕ) → ((i : ℕ) → has x i ≡ true → (i < n) × (p i ≡ true)) → ((i : ℕ) → i < n → p i ≡ true → has x i ≡ true) → x ≡ bits_of p n
bits_is p n x f g =
    has_ext x (bits_of p n) (λ i.
    same (has x i) (has (bits_of p n) i) (λ h. has_bits_of p n i (f i h).0 ∙ (f i h).1) (λ h.
    g i (ltb-true i n (and_l (ltb i n) (p i) (sym (has_bits p n i) ∙ h)))
    (and_r (ltb i n) (p i) (sym (has_bits p n i) ∙ h))))

-- a number below 2 ^ n has no bit from n on, and is made of its bits below
pub has_high : (n m i : ℕ) → m < 2 ^ n → n ≤ i → has m i ≡ false
has_high zero m i h l = ap (λ (x : ℕ). has x i) (let z : m ≡ 0 = omega (arith, pow-zero 2) in z) ∙ has_zero i
has_high (suc n) m zero h l = absurd (omega arith)
has_high (suc n) m (suc i) h l = has_suc m i ∙ has_high n (m / 2) i (omega (arith, pow-suc 2 n)) (omega arith)

pub bits_of_has : (n m : ℕ) → m < 2 ^ n → bits_of (has m) n ≡ m
bits_of_has n m h = sym (bits_is (has m) n m (λ i e. elim (dec_lt i n) [ yes l ↦ (l, e) | no l ↦ clash e (has_high n m i h (omega arith)) ]) (λ i l e. e))

bits_from_lt : (p : ℕ → Bool) (from n : ℕ) → bits_from p from n < 2 ^ n
unfolding bits_from
bits_from_lt p from zero = omega (arith, pow-zero 2)
bits_from_lt p from (suc n) = go (p from) (bits_from_lt p (suc from) n)
  where
    go : (b : Bool) → bits_from p (suc from) n < 2 ^ n → cond b 1 0 + 2 * bits_from p (suc from) n < 2 ^ suc n
    go true h = omega (arith, pow-suc 2 n)
    go false h = omega (arith, pow-suc 2 n)

pub bits_lt : (p : ℕ → Bool) (n : ℕ) → bits_of p n < 2 ^ n
unfolding bits_of
bits_lt p n = bits_from_lt p 0 n

-- a number whose bits are all below n is below 2 ^ n
pub has_low_lt : (n x : ℕ) → ((i : ℕ) → has x i ≡ true → i < n) → x < 2 ^ n
has_low_lt n x f = lt_of_le_of_lt (le_of_eq (bits_is (has x) n x (λ i e. (f i e, e)) (λ i l e. e))) (bits_lt (has x) n)

-- a set is part of another, if each of its numbers is in that
pub subset_by : (w a b : ℕ) → ((i : ℕ) → i < w → has a i ≡ true → has b i ≡ true) → subset w a b ≡ true
unfolding subset
subset_by w a b f = below_all _ w (λ i l. implies_by (has a i) (has b i) (f i l))

-- tests that agree below the width make one set
pub bits_same : (p q : ℕ → Bool) (n : ℕ) → ((i : ℕ) → i < n → p i ≡ q i) → bits_of p n ≡ bits_of q n
bits_same p q n f =
    bits_is q n (bits_of p n) (λ i h.
    let k = sym (has_bits p n i) ∙ h in
    let l = ltb-true i n (search parts) in (l, sym (f i l) ∙ and_r (ltb i n) (p i) k))
    (λ i l h. has_bits_of p n i l ∙ f i l ∙ h)

-- what is in both, and in either
pub has_and : (x y i : ℕ) → has (Words.bit_and x y) i ≡ (has x i && has y i)
unfolding has
has_and x y i =
    ap (λ (n : ℕ). eqb n 1) (ap (λ (n : ℕ). n % 2) (Words.and_shr x y i) ∙ Words.and_mod (x / 2 ^ i) (y / 2 ^ i) 1)
    ∙ digit_and (x / 2 ^ i % 2) (y / 2 ^ i % 2) (mod-lt _ (lit< tt)) (mod-lt _ (lit< tt))

pub has_or : (x y i : ℕ) → has (Words.bit_or x y) i ≡ (has x i || has y i)
unfolding has
has_or x y i =
    ap (λ (n : ℕ). eqb n 1) (ap (λ (n : ℕ). n % 2) (Words.or_shr x y i) ∙ Words.or_mod (x / 2 ^ i) (y / 2 ^ i) 1)
    ∙ digit_or (x / 2 ^ i % 2) (y / 2 ^ i % 2) (mod-lt _ (lit< tt)) (mod-lt _ (lit< tt))

-- a set that is not empty has an element
some_below : (k x : ℕ) → x ≤ k → x ≢ 0 → (i : ℕ) × (has x i ≡ true)
some_below zero x h d = absurd (d (omega arith))
some_below (suc k) x h d = go (has x 0) refl (λ e. some_below k (x / 2) (omega arith) e)
  where
    go : (b : Bool) → has x 0 ≡ b → (x / 2 ≢ 0 → (i : ℕ) × (has (x / 2) i ≡ true)) → (i : ℕ) × (has x i ≡ true)
    go true e f = (0, e)
    go false e f =
        let even : x % 2 ≢ 1 = λ o. clash (has_low x ∙ eq-eqb (x % 2) 1 o) e in
        let r = f (λ z. d (omega (arith, z, even))) in
        (suc r.0, has_suc x r.0 ∙ r.1)

pub has_element : (x : ℕ) → x ≢ 0 → (i : ℕ) × (has x i ≡ true)
has_element x d = some_below x x (omega arith) d

-- sets that have nothing in common, by one operation
pub and_apart : (x y : ℕ) → Words.bit_and x y ≡ 0 → Apart x y
and_apart x y z i h k = clash (sym (ap (λ (m : ℕ). has m i) z) ∙ has_and x y i ∙ both h k) (has_zero i)

pub and_shared : (x y : ℕ) → Words.bit_and x y ≢ 0 → (i : ℕ) × (has x i ≡ true) × (has y i ≡ true)
and_shared x y d =
    let r = has_element (Words.bit_and x y) d in
    let k = sym (has_and x y r.0) ∙ r.1 in
    (r.0, and_l (has x r.0) (has y r.0) k, and_r (has x r.0) (has y r.0) k)

-- 1 for a test that holds
abbrev pub tally : Bool → ℕ
tally b = cond b 1 0

-- an element counts once in sets that have nothing in common
pub or_apart : (x y i : ℕ) → Apart x y → tally (has (Words.bit_or x y) i) ≡ tally (has x i) + tally (has y i)
or_apart x y i a = ap tally (has_or x y i) ∙ go (has x i) (has y i) refl refl
  where
    go : (p q : Bool) → has x i ≡ p → has y i ≡ q → tally (p || q) ≡ tally p + tally q
    go true true e f = absurd (a i e f)
    go true false e f = refl
    go false true e f = refl
    go false false e f = refl

-- a number has no more than n bits, if nothing is left past them
pub bits_fit : (x n : ℕ) → eqb (x / 2 ^ n) 0 ≡ ltb x (2 ^ n)
bits_fit x n = same (eqb (x / 2 ^ n) 0) (ltb x (2 ^ n))
    (λ h. lt-ltb x (2 ^ n) (omega (arith, one-mul (2 ^ n), (div-lt_iff_lt-mul {k = 2 ^ n} {x = x} {y = 1} (pow_pos n)).0 (omega (arith, eqb-true (x / 2 ^ n) 0 h)))))
    (λ h. eq-eqb (x / 2 ^ n) 0 (div-eq_of_lt (ltb-true x (2 ^ n) h)))

-- a subset is what it shares with the other: one operation, whatever the width
pub subset_and : (w a b : ℕ) → a < 2 ^ w → subset w a b ≡ eqb (Words.bit_and a b) a
unfolding subset
subset_and w a b h = same (subset w a b) (eqb (Words.bit_and a b) a)
    (λ s. eq-eqb (Words.bit_and a b) a (has_ext (Words.bit_and a b) a (λ i. has_and a b i ∙ shared s i (has a i) refl)))
    (λ e. all_by _ _ (λ i m. implies_by (has a i) (has b i) (λ k. and_r (has a i) (has b i) (sym (has_and a b i) ∙ ap (λ (n : ℕ). has n i) (eqb-true (Words.bit_and a b) a e) ∙ k))))
  where
    shared : subset w a b ≡ true → (i : ℕ) (x : Bool) → has a i ≡ x → (x && has b i) ≡ x
    shared s i true e = elim (dec_lt i w) [
      | yes l ↦ implies_at (has a i) (has b i) (all_at (λ j. implies (has a j) (has b j)) _ s (below_by l)) e
      | no l ↦ clash e (has_high w a i h (omega arith))
    ]
    shared s i false e = refl

pub subset_width : (v w a b : ℕ) → a < 2 ^ v → a < 2 ^ w → subset v a b ≡ subset w a b
subset_width v w a b h k = subset_and v a b h ∙ sym (subset_and w a b k)

-- the numbers of x that are not in w, as a difference
module _ (n x w : ℕ) (l : x < 2 ^ n) where
  within : (i : ℕ) → has x i ≡ true → ltb i n ≡ true
  within i e = elim (dec_lt i n) [
    | yes k ↦ lt-ltb i n k
    | no k ↦ clash e (has_high n x i l (omega arith))
  ]

  left_bits : (i : ℕ) → has (bits_of (λ j. has x j && not (has w j)) n) i ≡ (has x i && not (has w i))
  left_bits i = has_bits _ n i ∙ go (ltb i n) (has x i) (within i)
    where
      go : (a b : Bool) → (b ≡ true → a ≡ true) → (a && (b && not (has w i))) ≡ (b && not (has w i))
      go true b h = refl
      go false true h = clash (h refl) refl
      go false false h = refl

  left_sum : bits_of (λ j. has x j && not (has w j)) n + Words.bit_and x w ≡ x
  left_sum =
      let apart : Apart (bits_of (λ j. has x j && not (has w j)) n) (Words.bit_and x w) = λ i p q.
      clash (and_r (has x i) (has w i) (sym (has_and x w i) ∙ q))
      (not-true (has w i) (and_r (has x i) (not (has w i)) (sym (left_bits i) ∙ p))) in
      has_ext _ x (λ i. has_sum _ _ apart i ∙ ap₂ ◌||◌ (left_bits i) (has_and x w i) ∙ go (has x i) (has w i))
    where
      go : (a b : Bool) → ((a && not b) || (a && b)) ≡ a
      go true true = refl
      go true false = refl
      go false b = refl

  pub has_without : (i : ℕ) → has (x - Words.bit_and x w) i ≡ (has x i && not (has w i))
  has_without i = ap (λ (m : ℕ). has m i) (let z : x - Words.bit_and x w ≡ bits_of (λ j. has x j && not (has w j)) n = omega (arith, left_sum) in z) ∙ left_bits i

-- the numbers of x, with those of w as in y
pub bits_over : (n x w y : ℕ) → x < 2 ^ n → y < 2 ^ n → Words.bit_or (x - Words.bit_and x w) (Words.bit_and y w) ≡ bits_of (λ i. cond (has w i) (has y i) (has x i)) n
bits_over n x w y l k =
    let within : Words.bit_or (x - Words.bit_and x w) (Words.bit_and y w) < 2 ^ n = Words.or_lt n (x - Words.bit_and x w) (Words.bit_and y w) (omega arith) (omega (arith, Words.and_le_l y w)) in
    sym (bits_of_has n _ within) ∙ bits_same _ _ n (λ i h. has_or _ _ i ∙ ap₂ ◌||◌ (has_without n x w l i) (has_and y w i) ∙ go (has x i) (has w i) (has y i))
  where
    go : (a b d : Bool) → ((a && not b) || (d && b)) ≡ cond b d a
    go true true true = refl
    go true true false = refl
    go true false true = refl
    go true false false = refl
    go false true true = refl
    go false true false = refl
    go false false true = refl
    go false false false = refl

digit_xor : (x y : ℕ) → x < 2 → y < 2 → eqb (Words.bit_xor x y) 1 ≡ xor (eqb x 1) (eqb y 1)
unfolding xor
digit_xor zero zero h k = refl
digit_xor zero (suc zero) h k = refl
digit_xor zero (suc (suc y)) h k = absurd (omega arith)
digit_xor (suc zero) zero h k = refl
digit_xor (suc zero) (suc zero) h k = refl
digit_xor (suc zero) (suc (suc y)) h k = absurd (omega arith)
digit_xor (suc (suc x)) y h k = absurd (omega arith)

-- what is in one of two sets, and not in both
pub has_xor : (x y i : ℕ) → has (Words.bit_xor x y) i ≡ xor (has x i) (has y i)
unfolding has
has_xor x y i =
    ap (λ (n : ℕ). eqb n 1) (ap (λ (n : ℕ). n % 2) (Words.xor_shr x y i) ∙ Words.xor_mod (x / 2 ^ i) (y / 2 ^ i) 1)
    ∙ digit_xor (x / 2 ^ i % 2) (y / 2 ^ i % 2) (mod-lt _ (lit< tt)) (mod-lt _ (lit< tt))

-- the numbers below n that are not in a set
pub has_not : (n x i : ℕ) → i < n → has (Words.bit_xor x (2 ^ n - 1)) i ≡ not (has x i)
unfolding xor
has_not n x i h = has_xor x (2 ^ n - 1) i ∙ ap (xor (has x i)) (has_full n i h) ∙ go (has x i)
  where
    go : (b : Bool) → xor b true ≡ not b
    go true = refl
    go false = refl

-- sets made by tests
module _ (p q : ℕ → Bool) (n : ℕ) where
  pub xor_bits : Words.bit_xor (bits_of p n) (bits_of q n) ≡ bits_of (λ i. xor (p i) (q i)) n
  xor_bits = has_ext _ _ (λ i. has_xor (bits_of p n) (bits_of q n) i ∙ ap₂ xor (has_bits p n i) (has_bits q n i) ∙ go (ltb i n) (p i) (q i) ∙ sym (has_bits (λ i. xor (p i) (q i)) n i))
    where
      go : (b x y : Bool) → xor (b && x) (b && y) ≡ (b && xor x y)
      go true x y = refl
      go false x y = unfold xor in refl

  pub and_bits : Words.bit_and (bits_of p n) (bits_of q n) ≡ bits_of (λ i. p i && q i) n
  and_bits = has_ext _ _ (λ i. has_and (bits_of p n) (bits_of q n) i ∙ ap₂ ◌&&◌ (has_bits p n i) (has_bits q n i) ∙ go (ltb i n) (p i) (q i) ∙ sym (has_bits (λ i. p i && q i) n i))
    where
      go : (b x y : Bool) → ((b && x) && (b && y)) ≡ (b && (x && y))
      go true x y = refl
      go false x y = refl

-- a number made of its bits from the last one on
pub bits_none : (p : ℕ → Bool) (n : ℕ) → bits_from p n (n - n) ≡ 0
unfolding bits_from
bits_none p n = ap (bits_from p n) (let z : n - n ≡ 0 = omega arith in z)

pub bits_step : (p : ℕ → Bool) (n a x : ℕ) → 0 < a → a ≤ n → x ≡ bits_from p a (n - a) → cond (p (a - 1)) 1 0 + 2 * x ≡ bits_from p (a - 1) (n - (a - 1))
unfolding bits_from
bits_step p n a x h l e =
    ap (λ (y : ℕ). cond (p (a - 1)) 1 0 + 2 * y) (e ∙ ap (λ (i : ℕ). bits_from p i (n - a)) (let z : a ≡ suc (a - 1) = omega arith in z))
    ∙ ap (bits_from p (a - 1)) (let z : suc (n - a) ≡ n - (a - 1) = omega arith in z)

pub bits_all : (p : ℕ → Bool) (n a : ℕ) → a ≤ 0 → bits_from p a (n - a) ≡ bits_of p n
unfolding bits_of
bits_all p n a h = ap (λ (i : ℕ). bits_from p i (n - i)) (let z : a ≡ 0 = omega arith in z) ∙ ap (bits_from p 0) (let z : n - 0 ≡ n = omega arith in z)

pub low_lt : (b : Bool) (x k m : ℕ) → x < 2 ^ k → m ≡ suc k → cond b 1 0 + 2 * x < 2 ^ m
low_lt true x k m h e = omega (arith, pow-suc 2 k, ap (λ (i : ℕ). 2 ^ i) e)
low_lt false x k m h e = omega (arith, pow-suc 2 k, ap (λ (i : ℕ). 2 ^ i) e)

-- a number of k bits has no more than n
pub few_bits : (x k n : ℕ) → x < 2 ^ k → k ≤ n → x < 2 ^ n
few_bits x k n h l = lt_of_lt_of_le h (pow_mono l)
