-- Laws of advances: what their two variables hold after one more, after n of them from zero, and after some updates.
use mathlib.Core.Path.{◌≡◌, refl, sym, ap, ◌∙◌, subst}
use mathlib.Core.Bool.{true, false}
use mathlib.Core.Logic.{◌≢◌, ⊎_elim}
use mathlib.Core.List.Memᴰ.{head as here}
use mathlib.Core.List.Memᴰ.{tail as there}
use mathlib.Core.List.{List, [], ◌∷◌, Memᴰ as Mem}
use Prim.Native.Nat.{ℕ, zero, suc, ◌+◌, ◌*◌, ◌/◌, ◌%◌, ◌^◌, ◌≤◌, ◌<◌}
use native.Mathlib.Omega.{arith}
use native.Mathlib.Nat.{le_trans, zero-mul, suc-mul, mul-le-mul_right, zero-div, zero-mod}
use native.Mathlib.Nat.{div-add-mod, mul-add-div, mod-add-mod, div-mul-le_self, le-div_iff_mul-le}
use borrow.Author.Tests.{eqb-true, eq-eqb}
use lib.Dec.{eqb}
use lib.IntN.{ℤ, pos}
use Rattle.std.specs.Prelude.{Some}
use lib.ListN.{length, get_or, set, length-set}
use lib.Seq.{get_or-set_same, get_or-set_other}
use Rattle.lists.specs.Lists.{any, elem, concat}
use Rattle.lists.proofs.Bools.{clash, decided, fails, and_l, both, or_l, or_cases, neither_l, neither_r}
use Rattle.lists.proofs.Lists.{elem_by}
use Rattle.lists.proofs.Once.{Once, once_first, once_second}
use Rattle.numbers.specs.Integer.{floor_div, floor_mod}
use Rattle.expr.specs.Expression.{value}
use Rattle.numbers.specs.Value.{exactly, is_number, number_of}
use Rattle.numbers.proofs.Values.{exactly_inside, exactly_is_number}
use Rattle.updates.specs.Update.{Update, assignment, advance, form_of, writes, targets, total, steps_after, remainder_after, stays, updated, assign}
use Rattle.updates.specs.TakeUp.{writes_either, is_advance, advanced_by, TakenUp, AdvanceStays, TakenInRange}
use Rattle.updates.specs.declared.update.Advance.{Advance}

-- the whole part of k advances is below the range's end; then so is that of one less
abbrev pub InRange : Advance → ℕ → Type 0
InRange a k = k * a.numerator / a.denominator < 2 ^ 31

quotient_grows : {x y : ℕ} (q : ℕ) → 0 < q → x ≤ y → x / q ≤ y / q
quotient_grows {x} {y} q h l = (le-div_iff_mul-le {k = q} {x = x / q} {y = y} h).1 (le_trans (div-mul-le_self x q) l)

one_less : (a : Advance) (k : ℕ) → 1 ≤ a.denominator → InRange a (suc k) → InRange a k
one_less a k d h = omega (arith, quotient_grows {x = k * a.numerator} {y = suc k * a.numerator} a.denominator d (mul-le-mul_right a.numerator (omega arith)))

-- one more p: the whole parts add up, and the rest is that of the sum
whole_more : (k p q : ℕ) → 0 < q → k * p / q + (k * p % q + p) / q ≡ suc k * p / q
whole_more k p q h =
    sym (mul-add-div h (k * p / q) (k * p % q + p))
    ∙ ap (λ (n : ℕ). n / q) (let e : q * (k * p / q) + k * p % q ≡ k * p = div-add-mod (k * p) q in omega (arith, suc-mul k p))

rest_more : (k p q : ℕ) → (k * p % q + p) % q ≡ suc k * p % q
rest_more k p q = mod-add-mod (k * p) q p ∙ ap (λ (n : ℕ). n % q) (sym (suc-mul k p))

-- what an advance gives to its variables, where they hold k advances
module _ (a : Advance) (k : ℕ) (old : List ℤ) (t : TakenUp a k old) where
  total_is : total old a ≡ pos (k * a.numerator % a.denominator + a.numerator)
  unfolding total
  total_is = rw t.rest

  steps_are_exactly : 1 ≤ a.denominator → InRange a k → steps_after old a ≡ exactly (pos (suc k * a.numerator / a.denominator))
  unfolding steps_after floor_div
  steps_are_exactly d h = rw (t.whole h, total_is, whole_more k a.numerator a.denominator d)

  pub steps_more : 1 ≤ a.denominator → InRange a (suc k) → steps_after old a ≡ Some (pos (suc k * a.numerator / a.denominator))
  steps_more d h = steps_are_exactly d (one_less a k d h) ∙ exactly_inside (pos (suc k * a.numerator / a.denominator)) h

  pub remainder_more : remainder_after old a ≡ pos (suc k * a.numerator % a.denominator)
  unfolding remainder_after floor_mod
  remainder_more = rw total_is (ap pos (rest_more k a.numerator a.denominator))

-- the variables of an advance have the values that it gives to them
pub record Advanced (a : Advance) (old new : List ℤ) : Type 0 where
  pub steps_are : get_or new a.steps (pos 0) ≡ number_of (steps_after old a)
  pub remainder_is : get_or new a.remainder (pos 0) ≡ remainder_after old a

-- so they hold one advance more
pub taken_up_more : (a : Advance) (k : ℕ) (old new : List ℤ) → TakenUp a k old → 1 ≤ a.denominator → Advanced a old new
    → TakenUp a (suc k) new
taken_up_more a k old new t d v = record {
  whole = λ h. v.steps_are ∙ ap number_of (steps_more a k old t d h);
  rest = v.remainder_is ∙ remainder_more a k old t;
}

-- one more advance stays in the range just if its whole part is below the range's end
pub advance_stays : AdvanceStays
unfolding stays
advance_stays a k variables d t h =
    ap is_number (steps_are_exactly a k variables t d h) ∙ exactly_is_number (pos (suc k * a.numerator / a.denominator))

-- so where the advances made are in the range, it says how it goes on
pub taken_in_range : (a : Advance) (k : ℕ) (variables : List ℤ) → 1 ≤ a.denominator → TakenUp a k variables → InRange a k
    → TakenInRange a k variables
taken_in_range a k variables d t h = record { below = h; whole = t.whole h; rest = t.rest; next = advance_stays a k variables d t h }

-- no advance is in the range, and variables that are zero hold none
pub none_in_range : (a : Advance) → InRange a 0
none_in_range a = rw (zero-mul a.numerator, zero-div a.denominator) (omega arith)

pub taken_up_none : (a : Advance) (variables : List ℤ) → get_or variables a.steps (pos 0) ≡ pos 0 → get_or variables a.remainder (pos 0) ≡ pos 0
    → TakenUp a 0 variables
taken_up_none a variables s r = record {
  whole = λ h. s ∙ ap pos (sym (ap (λ (n : ℕ). n / a.denominator) (zero-mul a.numerator) ∙ zero-div a.denominator));
  rest = r ∙ ap pos (sym (ap (λ (n : ℕ). n % a.denominator) (zero-mul a.numerator) ∙ zero-mod a.denominator));
}

-- updates leave the number of variables
updated_length : (old : List ℤ) (u : Update) (new : List ℤ) → length (updated old u new) ≡ length new
unfolding updated
updated_length old (assignment v e) new = length-set new v (number_of (value old e))
updated_length old (advance a) new = length-set (set new a.steps (number_of (steps_after old a))) a.remainder _ ∙ length-set new a.steps _

pub assign_length : (old : List ℤ) (us : List Update) (new : List ℤ) → length (assign old us new) ≡ length new
unfolding assign
assign_length old [] new = refl
assign_length old (u ∷ us) new = assign_length old us (updated old u new) ∙ updated_length old u new

advanced_length : (n : ℕ) (a : Advance) (variables : List ℤ) → length (advanced_by n a variables) ≡ length variables
unfolding advanced_by
advanced_length zero a variables = refl
advanced_length (suc n) a variables =
    let vars = advanced_by n a variables in
    updated_length vars (advance a) vars ∙ advanced_length n a variables

-- the variables of an advance are two, of n
pub record Apart (a : Advance) (n : ℕ) : Type 0 where
  pub two : a.steps ≢ a.remainder
  pub steps_there : a.steps < n
  pub remainder_there : a.remainder < n

advanced_once : (a : Advance) (old new : List ℤ) → Apart a (length new) → Advanced a old (updated old (advance a) new)
unfolding updated
advanced_once a old new p =
    let first = set new a.steps (number_of (steps_after old a)) in
    record {
      steps_are = get_or-set_other first a.remainder a.steps _ _ p.two ∙ get_or-set_same new a.steps _ _ p.steps_there;
      remainder_is = get_or-set_same first a.remainder _ _ (rw (length-set new a.steps (number_of (steps_after old a))) p.remainder_there);
    }

-- n advances of p/q from zero: the steps are the whole part of np/q, while it is below 2,147,483,648, and the remainder is its rest
pub advances_from_zero : (n : ℕ) (a : Advance) (variables : List ℤ) → 1 ≤ a.denominator → a.steps ≢ a.remainder
    → a.steps < length variables → a.remainder < length variables
    → get_or variables a.steps (pos 0) ≡ pos 0 → get_or variables a.remainder (pos 0) ≡ pos 0
    → TakenUp a n (advanced_by n a variables)
unfolding advanced_by
advances_from_zero zero a variables d w x y s r = taken_up_none a variables s r
advances_from_zero (suc n) a variables d w x y s r =
    let vars = advanced_by n a variables in
    let p : Apart a (length variables) = record { two = w; steps_there = x; remainder_there = y } in
    let before = advances_from_zero n a variables d w x y s r in
    taken_up_more a n vars _ before d (advanced_once a vars vars (subst (Apart a) (sym (advanced_length n a variables)) p))

-- an update leaves what it does not write
left_alone : (old : List ℤ) (u : Update) (new : List ℤ) (v : ℕ) → elem v (writes (form_of u)) ≡ false
    → get_or (updated old u new) v (pos 0) ≡ get_or new v (pos 0)
unfolding updated
left_alone old (assignment w e) new v h = get_or-set_other new w v (number_of (value old e)) (pos 0) (λ q. clash (elem_by v (here q)) h)
left_alone old (advance b) new v h =
    get_or-set_other (set new b.steps (number_of (steps_after old b))) b.remainder v _ (pos 0) (λ q. clash (elem_by v (there (here q))) h)
    ∙ get_or-set_other new b.steps v _ (pos 0) (λ q. clash (elem_by v (here q)) h)

pub is_advance_writes : (a : Advance) (u : Update) → is_advance a u ≡ true → writes_either a u ≡ true
unfolding is_advance
is_advance_writes a (assignment v e) h = clash h refl
is_advance_writes a (advance b) h =
    or_l _ (elem_by a.steps (here (eqb-true a.steps b.steps (and_l _ (eqb a.remainder b.remainder) h))))

is_advance_own : (a : Advance) → is_advance a (advance a) ≡ true
unfolding is_advance
is_advance_own a = both (eq-eqb a.steps a.steps refl) (eq-eqb a.remainder a.remainder refl)

-- of some updates, only the advance itself writes either of its variables
abbrev pub OnlyIn : Advance → List Update → Type 0
OnlyIn a us = (u : Update) → Mem u us → writes_either a u ≡ true → u ≡ advance a

-- both variables of an advance are as they were
pub record SamePair (a : Advance) (before after : List ℤ) : Type 0 where
  pub steps_same : get_or after a.steps (pos 0) ≡ get_or before a.steps (pos 0)
  pub remainder_same : get_or after a.remainder (pos 0) ≡ get_or before a.remainder (pos 0)

module _ (a : Advance) (old : List ℤ) where
  aside : (u : Update) (new : List ℤ) → writes_either a u ≡ false → SamePair a new (updated old u new)
  aside u new h = record {
    steps_same = left_alone old u new a.steps (neither_l (elem a.steps (writes (form_of u))) _ h);
    remainder_same = left_alone old u new a.remainder (neither_r (elem a.steps (writes (form_of u))) _ h);
  }

  advanced_by_lem : (u : Update) (new : List ℤ) → u ≡ advance a → Apart a (length new) → Advanced a old (updated old u new)
  advanced_by_lem u new e p = rw e (advanced_once a old new p)

  -- the advance was made, and one more update follows. All updates read the old variables, so the advance again changes nothing
  stays_by_one : (u : Update) (new : List ℤ) → (writes_either a u ≡ true → u ≡ advance a) → Apart a (length new) → Advanced a old new
      → Advanced a old (updated old u new)
  stays_by_one u new o p v = ⊎_elim (λ e. advanced_by_lem u new (o e) p) (λ e. kept (aside u new e)) (decided (writes_either a u))
    where
      kept : SamePair a new (updated old u new) → Advanced a old (updated old u new)
      kept e = record { steps_are = e.steps_same ∙ v.steps_are; remainder_is = e.remainder_same ∙ v.remainder_is }

  stays_advanced : (us : List Update) (new : List ℤ) → OnlyIn a us → Apart a (length new) → Advanced a old new → Advanced a old (assign old us new)
  unfolding assign
  stays_advanced [] new o p v = v
  stays_advanced (u ∷ us) new o p v =
      let q = subst (Apart a) (sym (updated_length old u new)) p in
      stays_advanced us (updated old u new) (λ w m. o w (there m)) q (stays_by_one u new (o u (here refl)) p v)

  -- updates of which some is the advance make it, and those of which none is leave its variables
  pub assign_advances : (us : List Update) (new : List ℤ) → OnlyIn a us → Apart a (length new) → any (is_advance a) us ≡ true
      → Advanced a old (assign old us new)
  unfolding assign any
  assign_advances [] new o p h = clash h refl
  assign_advances (u ∷ us) new o p h =
      let q = subst (Apart a) (sym (updated_length old u new)) p in
      let later : OnlyIn a us = λ w m. o w (there m) in
      ⊎_elim
      (λ e. stays_advanced us (updated old u new) later q (advanced_by_lem u new (o u (here refl) (is_advance_writes a u e)) p))
      (λ e. assign_advances us (updated old u new) later q e)
      (or_cases (is_advance a u) (any (is_advance a) us) h)

  pub assign_leaves : (us : List Update) (new : List ℤ) → OnlyIn a us → any (is_advance a) us ≡ false → SamePair a new (assign old us new)
  unfolding assign any
  assign_leaves [] new o h = record { steps_same = refl; remainder_same = refl }
  assign_leaves (u ∷ us) new o h =
      let other = neither_l (is_advance a u) _ h in
      let writes-none = fails (writes_either a u) (λ e. clash (ap (is_advance a) (o u (here refl) e) ∙ is_advance_own a) other) in
      let first = aside u new writes-none in
      let rest = assign_leaves us (updated old u new) (λ w m. o w (there m)) (neither_r (is_advance a u) _ h) in
      record { steps_same = rest.steps_same ∙ first.steps_same; remainder_same = rest.remainder_same ∙ first.remainder_same }

-- of updates that write no variable twice, each writes none twice
pub once_each : (us : List Update) {u : Update} → Mem u us → Once (targets us) → Once (writes (form_of u))
unfolding concat
once_each (w ∷ us) {u} (here e) o =
    subst (λ (x : Update). Once (writes (form_of x))) (sym e) (once_first (writes (form_of w)) (targets us) o)
once_each (w ∷ us) (there m) o = once_each us m (once_second (writes (form_of w)) (targets us) o)
once_each [] m o = elim m [ ]
