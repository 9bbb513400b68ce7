-- Laws of the automata of sequential states, and of sets of them.
use mathlib.Core.Path.{◌≡◌, refl, sym, ap, ◌∙◌, subst}
use mathlib.Core.Bool.{Bool, true}
use mathlib.Core.Logic.{◌⊎◌, inl, inr, ⊎_elim}
use mathlib.Core.List.{Memᴰ as Mem}
use Prim.Native.Nat.{ℕ, ◌+◌, ◌^◌, ◌<◌}
use borrow.Author.Tests.{eqb-true, eq-eqb, ltb-true}
use lib.Dec.{ltb, eqb}
use lib.ListN.{length, get_or}
use Rattle.lists.specs.Lists.{has, all, any, below, keep, bits_of, ascending}
use Rattle.lists.proofs.Bools.{parts, clash, and_r, or_l, or_r, or_cases, same}
use Rattle.lists.proofs.Lists.{all_at, all_by, any_at, any_by, keep_at, keep_by, get_d_mem}
use Rattle.lists.proofs.Below.{all_below, below_all, any_below, below_any}
use Rattle.lists.proofs.Once.{Once, once_keep, once_below}
use Rattle.lists.proofs.Position.{position_lt, position_of, position_get_d}
use Rattle.lists.proofs.Ascending.{ascending_keep, ascending_below}
use Rattle.lists.proofs.Bits.{has_ext, has_bits_of, has_bits, has_one, has_zero, has_sum, Apart}
use Rattle.chart_records.specs.Chart.{Chart, state_at, states, sequential}
use Rattle.chart_records.specs.Tree.{children, sequentials}
use Rattle.chart_records.proofs.Tree.{size, states_at, states_by, Child, children_at}
use Rattle.chart_records.specs.Rules.{marked}
use Rattle.chart_records.proofs.Entered.{EntryMarks, marked_one}
use Rattle.flattening.specs.Flatten.{automaton, marked_child}

-- a sequential state of the chart
pub record Region (c : Chart) (q : ℕ) : Type 0 where
  pub known : q < size c
  pub is_sequential : sequential c q ≡ true

pub sequentials_at : (c : Chart) {q : ℕ} → Mem q (sequentials c) → Region c q
unfolding sequentials
sequentials_at c m = let k = keep_at (sequential c) (states c) m in record { known = states_at c k.0; is_sequential = k.1 }

pub sequentials_by : (c : Chart) {q : ℕ} → Region c q → Mem q (sequentials c)
unfolding sequentials
sequentials_by c r = keep_by (sequential c) (states c) (states_by c r.known) r.is_sequential

pub sequentials_once : (c : Chart) → Once (sequentials c)
unfolding sequentials states
sequentials_once c = once_keep _ _ (once_below _)

-- the sequential state of an automaton
abbrev pub region_at : Chart → ℕ → ℕ
region_at c a = get_or (sequentials c) a 0

pub region_at_lem : (c : Chart) (a : ℕ) → a < length (sequentials c) → Region c (region_at c a)
region_at_lem c a h = sequentials_at c (get_d_mem (sequentials c) a 0 h)

pub automaton_lt : (c : Chart) {q : ℕ} → Region c q → automaton c q < length (sequentials c)
unfolding automaton
automaton_lt c {q} r = position_lt (eqb q) (sequentials c) (any_by (eqb q) (sequentials_by c r) (eq-eqb q q refl))

pub region_of_automaton : (c : Chart) {q : ℕ} → Region c q → region_at c (automaton c q) ≡ q
unfolding automaton
region_of_automaton c {q} r = position_of (eqb q) 0 (sequentials_by c r) (eq-eqb q q refl) (λ y e. sym (eqb-true q y e))

pub automaton_of_region : (c : Chart) (a : ℕ) → a < length (sequentials c) → automaton c (region_at c a) ≡ a
unfolding automaton
automaton_of_region c a h = position_get_d (eqb (region_at c a)) (sequentials c) 0 a (sequentials_once c) h (eq-eqb (region_at c a) (region_at c a) refl) (λ y e. sym (eqb-true (region_at c a) y e))

pub automaton_injective : (c : Chart) {q r : ℕ} → Region c q → Region c r → automaton c q ≡ automaton c r → q ≡ r
automaton_injective c j k e = sym (region_of_automaton c j) ∙ ap (region_at c) e ∙ region_of_automaton c k

-- a test of every automaton, or of some, by its sequential state
module _ (c : Chart) (p q : ℕ → Bool) (agree : (r : ℕ) → Region c r → p (automaton c r) ≡ q r) where
  at_region : (a : ℕ) → a < length (sequentials c) → p a ≡ q (region_at c a)
  at_region a h = ap p (sym (automaton_of_region c a h)) ∙ agree (region_at c a) (region_at_lem c a h)

  pub all_automata : all p (below (length (sequentials c))) ≡ all q (sequentials c)
  all_automata = same _ _
      (λ h. all_by q (sequentials c) (λ r m. let g = sequentials_at c m in sym (agree r g) ∙ all_below p _ h (automaton c r) (automaton_lt c g)))
      (λ h. below_all p _ (λ a l. at_region a l ∙ all_at q (sequentials c) h (get_d_mem (sequentials c) a 0 l)))

  pub any_automata : any p (below (length (sequentials c))) ≡ any q (sequentials c)
  any_automata = same _ _
      (λ h. let k = any_below p _ h in any_by q (get_d_mem (sequentials c) k.0 0 k.1) (sym (at_region k.0 k.1) ∙ k.2))
      (λ h. let k = any_at q (sequentials c) h in let g = sequentials_at c k.1 in below_any p _ (automaton c k.0) (automaton_lt c g) (agree k.0 g ∙ k.2))

-- automata are numbered in the order of the states
pub sequentials_ascending : (c : Chart) → ascending (sequentials c) ≡ true
unfolding sequentials states
sequentials_ascending c = ascending_keep (sequential c) _ (ascending_below _)

-- x is the set of the automata of the sequential states with a property
pub record SetOf (c : Chart) (P : ℕ → Type 0) (x : ℕ) : Type 0 where
  pub only : (a : ℕ) → has x a ≡ true → (q : ℕ) × Region c q × (automaton c q ≡ a) × P q
  pub each : (q : ℕ) → Region c q → P q → has x (automaton c q) ≡ true

module _ (c : Chart) where
  -- a property has one set
  pub set_unique : {P : ℕ → Type 0} {x y : ℕ} → SetOf c P x → SetOf c P y → x ≡ y
  set_unique {P} {x} {y} s t = has_ext x y (λ a. same (has x a) (has y a) (λ h. half s t a h) (λ h. half t s a h))
    where
      half : {x y : ℕ} → SetOf c P x → SetOf c P y → (a : ℕ) → has x a ≡ true → has y a ≡ true
      half {x} {y} s t a h = let o = s.only a h in ap (has y) (sym o.2) ∙ t.each o.0 o.1 o.3

  -- equivalent properties have the same set
  pub set_iff : {P Q : ℕ → Type 0} {x : ℕ} → ((q : ℕ) → Region c q → P q → Q q) → ((q : ℕ) → Region c q → Q q → P q) → SetOf c P x → SetOf c Q x
  set_iff f g s = record { only = λ a h. let o = s.only a h in (o.0, o.1, o.2, f o.0 o.1 o.3); each = λ q r z. s.each q r (g q r z) }

  pub set_none : {P : ℕ → Type 0} → ((q : ℕ) → Region c q → P q → ⊥) → SetOf c P 0
  set_none f = record { only = λ a h. clash h (has_zero a); each = λ q r z. absurd (f q r z) }

  pub set_one : (m : ℕ) → Region c m → SetOf c (λ q. q ≡ m) (2 ^ automaton c m)
  set_one m k = record {
    only = λ a h. (m, k, eqb-true (automaton c m) a (sym (has_one (automaton c m) a) ∙ h), refl);
    each = λ q r e. has_one (automaton c m) (automaton c q) ∙ eq-eqb _ _ (ap (automaton c) (sym e));
  }

  -- the set of two properties that exclude each other is the sum
  pub set_apart : {P Q : ℕ → Type 0} {x y : ℕ} → ((q : ℕ) → Region c q → P q → Q q → ⊥) → SetOf c P x → SetOf c Q y → Apart x y
  set_apart {P} {Q} f s t a h k = let o = s.only a h in let w = t.only a k in
      f o.0 o.1 o.3 (subst Q (automaton_injective c w.1 o.1 (w.2 ∙ sym o.2)) w.3)

  pub set_sum : {P Q : ℕ → Type 0} {x y : ℕ} → ((q : ℕ) → Region c q → P q → Q q → ⊥) → SetOf c P x → SetOf c Q y → SetOf c (λ q. P q ⊎ Q q) (x + y)
  set_sum {P} {Q} {x} {y} f s t = record {
    only = λ a h. ⊎_elim (λ k. let o = s.only a k in (o.0, o.1, o.2, inl o.3)) (λ k. let o = t.only a k in (o.0, o.1, o.2, inr o.3)) (or_cases (has x a) (has y a) (sym (has_sum x y apart a) ∙ h));
    each = λ q r z. has_sum x y apart _ ∙ ⊎_elim (λ p. or_l _ (s.each q r p)) (λ p. or_r (has x (automaton c q)) (t.each q r p)) z;
  }
    where
      apart : Apart x y
      apart = set_apart f s t

  -- the set of a test
  pub set_bits : (p : ℕ → Bool) → SetOf c (λ q. p q ≡ true) (bits_of (λ a. p (region_at c a)) (length (sequentials c)))
  set_bits p = record {
    only = λ a h. let k = sym (has_bits (λ a. p (region_at c a)) (length (sequentials c)) a) ∙ h in let l = ltb-true a (length (sequentials c)) (search parts) in
        (region_at c a, region_at_lem c a l, automaton_of_region c a l, and_r (ltb a (length (sequentials c))) _ k);
    each = λ q r e. has_bits_of (λ a. p (region_at c a)) _ _ (automaton_lt c r) ∙ ap p (region_of_automaton c r) ∙ e;
  }

-- the child that an entry of a sequential state enters
pub marked_child_lem : (c : Chart) → EntryMarks c → (q e : ℕ) → Region c q → e < c.entries → has (state_at c q).entries e ≡ true
    → Child c q (marked_child c q e) × (has (state_at c (marked_child c q e)).entries e ≡ true) × ((t : ℕ) → Child c q t → has (state_at c t).entries e ≡ true → t ≡ marked_child c q e)
unfolding marked_child marked
marked_child_lem c marks q e g l m =
    let n = marks.least q e g.known g.is_sequential l m in
    let k = keep_at (λ s. has (state_at c s).entries e) (children c q) (get_d_mem (keep (λ s. has (state_at c s).entries e) (children c q)) 0 0 n) in
    let r = marked_one c marks q e g.known g.is_sequential l m in
    (children_at c q k.0, k.1, λ t j h. r.3 t j h ∙ sym (r.3 _ (children_at c q k.0) k.1))
