-- How the reader of expressions answers, by the code and by what it answers on the arguments. What is read is taken as
-- some f has it, so that the same laws serve where only the end is looked at and where the value is.
use mathlib.Core.Path.{◌≡◌, refl, sym, ap, ◌∙◌}
use mathlib.Core.Bool.{true}
use mathlib.Core.List.{List}
use mathlib.Core.Logic.{◌≢◌}
use Prim.Native.Nat.{ℕ, zero, suc, ◌+◌, ◌-◌, ◌≤◌, ◌<◌}
use native.Mathlib.Omega.{arith}
use native.Mathlib.Numerals.{sub-one}
use borrow.Author.Tests.{lt-ltb, le-ltb}
use lib.Dec.{ltb}
use lib.IntN.{ℤ}
use lib.ListN.{length, get_or, take, drop}
use Rattle.reading.specs.Reading.{Fault, length_fault, range_fault, Read, got, fault, Reader, yield, next, ◌>>=◌, byte, byte4, such, mapped}
use Rattle.numbers.specs.Integer.{signed, is_divisor}
use Rattle.numbers.specs.Value.{combined, divided}
use Rattle.expr.specs.Expression.{Expr, constant, variable, sum, difference, product, quotient, remainder, Code, constant_code}
use Rattle.expr.specs.Expression.{variable-code, sum-code, difference-code, product-code, quotient-code, remainder-code, codes}
use Rattle.expr.specs.Expression.{divisor, two, by, after, expression, value}
use Rattle.reading.specs.Places.{onward}
use Rattle.reading.proofs.Reading.{such_at, mapped_fault, mapped_yield}
use Rattle.reading.proofs.InFront.{InFront, yield_front, fault_front, bind_front, such_front, byte_front, byte4_front}
use Rattle.reading.proofs.Places.{onward_all, part_got, part_fault, byte_some, byte_none, bind_got, bind_fault, such_got, such_not, such_fault}

-- codes 2, 3 and 4, and codes 5 and 6
abbrev pub operator : ℕ → Expr → Expr → Expr
operator zero = sum
operator (suc zero) = sum
operator (suc (suc zero)) = sum
operator (suc (suc (suc zero))) = difference
operator (suc (suc (suc (suc n)))) = product

abbrev pub division : ℕ → Expr → ℕ → Expr
division zero = quotient
division (suc zero) = quotient
division (suc (suc zero)) = quotient
division (suc (suc (suc zero))) = quotient
division (suc (suc (suc (suc zero)))) = quotient
division (suc (suc (suc (suc (suc zero))))) = quotient
division (suc (suc (suc (suc (suc (suc n)))))) = remainder

module _ (v : ℕ) (r : Reader Expr) where
  after_two : (c : ℕ) → c ≢ 0 → c ≢ 1 → c < 5 → after v r (get_or codes c constant_code) ≡ two (operator c) r
  unfolding after codes
  after_two zero h k l = absurd (h refl)
  after_two (suc zero) h k l = absurd (k refl)
  after_two (suc (suc zero)) h k l = refl
  after_two (suc (suc (suc zero))) h k l = refl
  after_two (suc (suc (suc (suc zero)))) h k l = refl
  after_two (suc (suc (suc (suc (suc n))))) h k l = absurd (omega arith)

  after_by : (c : ℕ) → 5 ≤ c → c < 7 → after v r (get_or codes c constant_code) ≡ by (division c) r
  unfolding after codes
  after_by zero h l = absurd (omega arith)
  after_by (suc zero) h l = absurd (omega arith)
  after_by (suc (suc zero)) h l = absurd (omega arith)
  after_by (suc (suc (suc zero))) h l = absurd (omega arith)
  after_by (suc (suc (suc (suc zero)))) h l = absurd (omega arith)
  after_by (suc (suc (suc (suc (suc zero))))) h l = refl
  after_by (suc (suc (suc (suc (suc (suc zero)))))) h l = refl
  after_by (suc (suc (suc (suc (suc (suc (suc n))))))) h l = absurd (omega arith)

-- the value of an operator's expression, from those of its arguments
pub operator_value : (vars : List ℤ) (c : ℕ) → c ≢ 0 → c ≢ 1 → c < 5 → (a b : Expr) →
    value vars (operator c a b) ≡ combined c (value vars a) (value vars b)
unfolding value combined
operator_value vars zero h k l a b = absurd (h refl)
operator_value vars (suc zero) h k l a b = absurd (k refl)
operator_value vars (suc (suc zero)) h k l a b = refl
operator_value vars (suc (suc (suc zero))) h k l a b = refl
operator_value vars (suc (suc (suc (suc zero)))) h k l a b = refl
operator_value vars (suc (suc (suc (suc (suc n))))) h k l a b = absurd (omega arith)

pub division_value : (vars : List ℤ) (c : ℕ) → 5 ≤ c → c < 7 → (a : Expr) (d : ℕ) → value vars (division c a d) ≡ divided c (value vars a) d
unfolding value divided
division_value vars zero h l a d = absurd (omega arith)
division_value vars (suc zero) h l a d = absurd (omega arith)
division_value vars (suc (suc zero)) h l a d = absurd (omega arith)
division_value vars (suc (suc (suc zero))) h l a d = absurd (omega arith)
division_value vars (suc (suc (suc (suc zero)))) h l a d = absurd (omega arith)
division_value vars (suc (suc (suc (suc (suc zero))))) h l a d = refl
division_value vars (suc (suc (suc (suc (suc (suc zero)))))) h l a d = refl
division_value vars (suc (suc (suc (suc (suc (suc (suc n))))))) h l a d = absurd (omega arith)

-- a divisor that is read is one
pub divisor_in : (s : List ℕ) {d : ℕ} {t : List ℕ} → divisor s ≡ got d t → is_divisor d ≡ true
unfolding divisor
divisor_in s h = (such_at byte4 _ s h).0

-- an operator's two arguments, one read after the other, and an argument with its divisor
module _ {A : Type 0} (f : Expr → A) (r : Reader Expr) (s : List ℕ) where
  two_mapped : (g : Expr → Expr → Expr) (h : A → A → A) → ((a b : Expr) → f (g a b) ≡ h (f a) (f b)) →
      mapped f (two g r s) ≡ ((λ t. mapped f (r t)) >>= λ x. (λ t. mapped f (r t)) >>= λ y. yield (h x y)) s
  unfolding two ◌>>=◌ next yield mapped
  two_mapped g h e = go (r s)
    where
      inner : (a : Expr) (q : Read Expr) → mapped f (next q (λ b. yield (g a b))) ≡ next (mapped f q) (λ y. yield (h (f a) y))
      inner a (got b u) = ap (λ x. got x u) (e a b)
      inner a (fault x) = refl

      go : (q : Read Expr) →
          mapped f (next q (λ a t. next (r t) (λ b. yield (g a b))))
          ≡ next (mapped f q) (λ x t. next (mapped f (r t)) (λ y. yield (h x y)))
      go (got a t) = inner a (r t)
      go (fault x) = refl

  by_mapped : (g : Expr → ℕ → Expr) (h : A → ℕ → A) → ((a : Expr) (d : ℕ) → f (g a d) ≡ h (f a) d) →
      mapped f (by g r s) ≡ ((λ t. mapped f (r t)) >>= λ x t. mapped (h x) (divisor t)) s
  unfolding by ◌>>=◌ next yield mapped
  by_mapped g h e = go (r s)
    where
      inner : (a : Expr) (q : Read ℕ) → mapped f (next q (λ d. yield (g a d))) ≡ mapped (h (f a)) q
      inner a (got d u) = ap (λ x. got x u) (e a d)
      inner a (fault x) = refl

      go : (q : Read Expr) → mapped f (next q (λ a t. next (divisor t) (λ d. yield (g a d)))) ≡ next (mapped f q) (λ x t. mapped (h x) (divisor t))
      go (got a t) = inner a (divisor t)
      go (fault x) = refl

-- An operator's arguments, each read of the part of the slice where it starts: the first, and after it the second.
abbrev part : List ℕ → ℕ → List ℕ
part s a = take (length s - a) (drop a s)

module _ {A B : Type 0} (r : Reader A) (s : List ℕ) (k : A → Reader B) where
  pub first_fault : {f : Fault} → r (part s 1) ≡ fault f → (r >>= k) (onward s 1) ≡ fault f
  first_fault h = bind_fault r k _ (part_fault r s 1 h)

  pub first_got : {x : A} (n : ℕ) → r (part s 1) ≡ got x (onward (part s 1) n) → (r >>= k) (onward s 1) ≡ k x (onward s (1 + n))
  first_got n h = bind_got r k _ (part_got r s 1 n h)

-- what follows the first, a divisor or the second argument
module _ {A B : Type 0} (r : Reader A) (s : List ℕ) (k : A → Reader B) {x : A} (n : ℕ) (first : r (part s 1) ≡ got x (onward (part s 1) n)) where
  pub rest_fault : {f : Fault} → k x (part s (1 + n)) ≡ fault f → (r >>= k) (onward s 1) ≡ fault f
  rest_fault e = first_got r s k n first ∙ part_fault (k x) s (1 + n) e

  pub rest_got : {y : B} (m : ℕ) → k x (part s (1 + n)) ≡ got y (onward (part s (1 + n)) m) → (r >>= k) (onward s 1) ≡ got y (onward s (1 + n + m))
  rest_got m e = first_got r s k n first ∙ part_got (k x) s (1 + n) m e

module _ {A : Type 0} (r : Reader A) (s : List ℕ) (h : A → A → A) {x : A} (n : ℕ) (first : r (part s 1) ≡ got x (onward (part s 1) n)) where
  pub second_fault : {f : Fault} → r (part s (1 + n)) ≡ fault f → (r >>= λ x. r >>= λ y. yield (h x y)) (onward s 1) ≡ fault f
  second_fault e = rest_fault r s _ n first (bind_fault r _ _ e)

  pub both_got : {y : A} (m : ℕ) → r (part s (1 + n)) ≡ got y (onward (part s (1 + n)) m) →
      (r >>= λ x. r >>= λ y. yield (h x y)) (onward s 1) ≡ got (h x y) (onward s (1 + n + m))
  unfolding yield
  both_got m e = rest_got r s _ n first m (bind_got r _ _ e)

-- an expression by its first byte
module _ (s : List ℕ) where
  no_byte : length s ≡ 0 → byte s ≡ fault length_fault
  no_byte h = ap byte (sym (onward_all s)) ∙ byte_none s 0 (omega arith)

  first_byte : length s ≢ 0 → byte s ≡ got (get_or s 0 0) (onward s 1)
  first_byte h = ap byte (sym (onward_all s)) ∙ byte_some s 0 (omega arith)

module _ (v : ℕ) (s : List ℕ) where
  expression_empty : (k : ℕ) → length s ≡ 0 → expression v k s ≡ fault length_fault
  unfolding expression
  expression_empty zero h = bind_fault _ _ s (no_byte s h)
  expression_empty (suc k) h = bind_fault _ _ s (such_fault _ _ s (no_byte s h))

  expression_deep : (k : ℕ) → length s ≢ 0 → k ≡ 0 → expression v k s ≡ fault range_fault
  unfolding expression
  expression_deep zero h e = bind_got _ _ s (first_byte s h)
  expression_deep (suc k) h e = absurd (omega arith)

  expression_unknown : (k : ℕ) → length s ≢ 0 → 7 ≤ get_or s 0 0 → expression v k s ≡ fault range_fault
  unfolding expression
  expression_unknown zero h l = expression_deep zero h refl
  expression_unknown (suc k) h l = bind_fault _ _ s (such_not _ _ s (first_byte s h) (le-ltb _ _ l))

  expression_after : (k : ℕ) → length s ≢ 0 → k ≢ 0 → get_or s 0 0 < 7 →
      expression v k s ≡ after v (expression v (k - 1)) (get_or codes (get_or s 0 0) constant_code) (onward s 1)
  unfolding expression
  expression_after zero h n l = absurd (n refl)
  expression_after (suc k) h n l = bind_got _ _ s (such_got _ _ s (first_byte s h) (lt-ltb _ _ l)) ∙ rw sub-one

module _ {A : Type 0} (f : Expr → A) (v k : ℕ) (s : List ℕ) where
  pub read_empty : length s ≡ 0 → mapped f (expression v k s) ≡ fault length_fault
  read_empty h = mapped_fault f (expression_empty v s k h)

module _ {A : Type 0} (f : Expr → A) (v k : ℕ) (s : List ℕ) (some : length s ≢ 0) where
  pub read_deep : k ≡ 0 → mapped f (expression v k s) ≡ fault range_fault
  read_deep h = mapped_fault f (expression_deep v s k some h)

  pub read_unknown : 7 ≤ get_or s 0 0 → mapped f (expression v k s) ≡ fault range_fault
  read_unknown h = mapped_fault f (expression_unknown v s k some h)

-- an argument, as f has it
abbrev each : {A : Type 0} → (Expr → A) → ℕ → ℕ → Reader A
each f v k s = mapped f (expression v k s)

-- where a level is left and the code is known
module _ {A : Type 0} (f : Expr → A) (v k : ℕ) (s : List ℕ) (some : length s ≢ 0) (left : k ≢ 0) where
  pub read_constant : get_or s 0 0 ≡ 0 → mapped f (expression v k s) ≡ mapped (λ x. f (constant (signed x))) (byte4 (onward s 1))
  unfolding after codes
  read_constant h = ap (mapped f) (expression_after v s k some left (omega arith) ∙ rw h) ∙ mapped_yield f _ byte4 (onward s 1)

  pub read_variable : get_or s 0 0 ≡ 1 → mapped f (expression v k s) ≡ mapped (λ i. f (variable i)) (such byte (λ i. ltb i v) (onward s 1))
  unfolding after codes
  read_variable h = ap (mapped f) (expression_after v s k some left (omega arith) ∙ rw h) ∙ mapped_yield f variable (such byte (λ i. ltb i v)) (onward s 1)

  pub read_two : (h : A → A → A) → ((a b : Expr) → f (operator (get_or s 0 0) a b) ≡ h (f a) (f b)) →
      get_or s 0 0 ≢ 0 → get_or s 0 0 ≢ 1 → get_or s 0 0 < 5 →
      each f v k s ≡ (each f v (k - 1) >>= λ x. each f v (k - 1) >>= λ y. yield (h x y)) (onward s 1)
  read_two h e n m l =
      let known = after_two v (expression v (k - 1)) _ n m l in
      ap (mapped f) (expression_after v s k some left (omega arith) ∙ ap (λ (r : Reader Expr). r (onward s 1)) known)
      ∙ two_mapped f _ _ _ h e

  pub read_by : (h : A → ℕ → A) → ((a : Expr) (d : ℕ) → f (division (get_or s 0 0) a d) ≡ h (f a) d) →
      5 ≤ get_or s 0 0 → get_or s 0 0 < 7 →
      each f v k s ≡ (each f v (k - 1) >>= λ x t. mapped (h x) (divisor t)) (onward s 1)
  read_by h e n l =
      let known = after_by v (expression v (k - 1)) _ n l in
      ap (mapped f) (expression_after v s k some left l ∙ ap (λ (r : Reader Expr). r (onward s 1)) known)
      ∙ by_mapped f _ _ _ h e

-- an expression is read in front, whatever follows it
divisor_front : InFront divisor
unfolding divisor
divisor_front = such_front byte4 _ byte4_front

module _ (r : Reader Expr) (p : InFront r) where
  two_front : (f : Expr → Expr → Expr) → InFront (two f r)
  unfolding two
  two_front f = bind_front _ _ p λ a. bind_front _ _ p λ b. yield_front _

  by_front : (f : Expr → ℕ → Expr) → InFront (by f r)
  unfolding by
  by_front f = bind_front _ _ p λ a. bind_front _ _ divisor_front λ d. yield_front _

  after_front : (v : ℕ) (c : Code) → InFront (after v r c)
  unfolding after
  after_front v constant_code = bind_front _ _ byte4_front λ x. yield_front _
  after_front v variable-code = bind_front _ _ (such_front byte _ byte_front) λ i. yield_front _
  after_front v sum-code = two_front _
  after_front v difference-code = two_front _
  after_front v product-code = two_front _
  after_front v quotient-code = by_front _
  after_front v remainder-code = by_front _

pub expression_front : (v k : ℕ) → InFront (expression v k)
unfolding expression
expression_front v zero = bind_front _ _ byte_front λ c. fault_front _
expression_front v (suc k) = bind_front _ _ (such_front byte _ byte_front)
    λ c. after_front (expression v k) (expression_front v k) v (get_or codes c constant_code)
