-- Laws of the tables of fixed states: by the kinds at or below a state, and by the exits that states at or below it bar.
use mathlib.Core.Path.{◌≡◌, refl, sym, ap, ap₂, ◌∙◌}
use mathlib.Core.Bool.{Bool, true, false, cond, not, ◌&&◌}
use mathlib.Core.Logic.{⊎_elim, ◌≢◌}
use mathlib.Core.List.{List}
use Prim.Native.Nat.{ℕ, ◌+◌, ◌%◌, ◌≤◌, ◌<◌}
use native.Mathlib.Omega.{arith}
use native.Mathlib.Decide.{ℕ_discrete, dec_lt}
use borrow.Author.Tests.{eqb-true, eq-eqb, ne_eqb, not-true}
use lib.Bits as Words
use lib.Dec.{eqb}
use lib.ListN.{length, get_or, set, length-set}
use lib.Seq.{get_or-set_same, get_or-set_other}
use Rattle.lists.specs.Lists.{has, any}
use Rattle.lists.proofs.Bools.{clash, decided, fails, and_l, and_r, both, not_yes, same, cond_yes, cond_no}
use Rattle.lists.proofs.Lists.{any_at, any_by, any_same}
use Rattle.lists.proofs.Bits.{has_low, has_zero, has_full, has_not}
use Rattle.chart_records.specs.Chart.{Chart, state_at, states, basic, sequential}
use Rattle.chart_records.specs.Tree.{under, fixed, shares}
use Rattle.chart_tree.specs.Table.{Column}
use Rattle.chart_records.proofs.Tree.{size, states_at, states_by, Parents, sequential_not_basic, unknown_basic}
use Rattle.chart_records.proofs.Rules.{Kinds}
use Rattle.chart_records.proofs.Fixed.{fixed_at, fixed_by, unfixed_at, unfixed_composite, shares_at, shares_by}
use Rattle.flatten_places.specs.Tables.{FixedKinds, FixedIn}
use Rattle.flatten_places.specs.Filling.{bars_by}
use Rattle.flatten_places.specs.Walking.{Gathered}

-- what a state bars, by its kind
module _ (kind exits e : ℕ) where
  pub bars_basic : kind ≡ 0 → e < 8 → has (Words.bit_xor exits 255) e ≡ bars_by kind exits e
  bars_basic z h = has_not 8 exits e h ∙ sym (cond_yes _ _ (eq-eqb kind 0 z))

  pub bars_sequential : kind ≡ 1 → e < 8 → has 255 e ≡ bars_by kind exits e
  bars_sequential z h = has_full 8 e h ∙ sym (cond_no _ _ (ne_eqb kind 0 (λ y. omega arith)) ∙ eq-eqb kind 1 z)

  pub bars_parallel : kind ≢ 0 → kind ≢ 1 → has 0 e ≡ bars_by kind exits e
  bars_parallel y z = has_zero e ∙ sym (cond_no _ _ (ne_eqb kind 0 y) ∙ ne_eqb kind 1 z)

-- a state is fixed where its kind in the table is that of a basic one
pub fixed_test : (c : Chart) (kinds : List ℕ) → FixedKinds c kinds → Parents c → (s : ℕ) → s < 48 → eqb (get_or kinds s 0) 0 ≡ fixed c s
unfolding basic
fixed_test c kinds F tree s h = ap (λ (x : ℕ). eqb x 0) (F s h) ∙ ⊎_elim
    (λ z. rw z refl)
    (λ z. rw z (unfixed_composite c tree s z))
    (decided (fixed c s))

-- the first n states' bars
pub record Barred (kinds exits bars : List ℕ) (n : ℕ) : Type 0 where
  pub long : length bars ≡ 48
  pub done : (s e : ℕ) → s < n → e < 8 → has (get_or bars s 0) e ≡ bars_by (get_or kinds s 0) (get_or exits s 0) e

pub barred_none : (kinds exits bars : List ℕ) → length bars ≡ 48 → Barred kinds exits bars 0
barred_none kinds exits bars l = record { long = l; done = λ s e h k. absurd (omega arith) }

pub barred_more : (kinds exits bars : List ℕ) (n v : ℕ) → Barred kinds exits bars n → n < 48
    → ((e : ℕ) → e < 8 → has v e ≡ bars_by (get_or kinds n 0) (get_or exits n 0) e) → Barred kinds exits (set bars n v) (n + 1)
barred_more kinds exits bars n v B h f = record {
  long = length-set bars n v ∙ B.long;
  done = λ s e k l. elim (ℕ_discrete s n) [
    | yes z ↦ ap (λ (j : ℕ). has (get_or (set bars n v) j 0) e) z ∙ ap (λ (x : ℕ). has x e) (get_or-set_same bars n v 0 (omega (arith, B.long))) ∙ f e l ∙ ap (λ (j : ℕ). bars_by (get_or kinds j 0) (get_or exits j 0) e) (sym z)
    | no z ↦ ap (λ (x : ℕ). has x e) (get_or-set_other bars n s v 0 z) ∙ B.done s e (omega arith) l
  ];
}

-- a kind as the code finds it
pub kind_kept : (kind inner : ℕ) → inner % 2 ≡ 1 → kind ≡ cond (has inner 0) kind 0
kind_kept kind inner z = sym (cond_yes kind 0 (has_low inner ∙ eq-eqb (inner % 2) 1 z))

pub kind_left : (kind inner : ℕ) → inner % 2 ≢ 1 → 0 ≡ cond (has inner 0) kind 0
kind_left kind inner z = sym (cond_no kind 0 (has_low inner ∙ ne_eqb (inner % 2) 1 z))

module _ (c : Chart) (kinds-few : Kinds c) (few : size c ≤ 48) where
  -- of the kinds 0, 1 and 2 that of a sequential state has the lowest bit
  kind_sequential : (b : ℕ) → b < size c → has (state_at c b).kind 0 ≡ sequential c b
  unfolding sequential
  kind_sequential b h = has_low _ ∙ same _ _
      (λ z. eq-eqb (state_at c b).kind 1 (omega (arith, eqb-true ((state_at c b).kind % 2) 1 z, kinds-few b h)))
      (λ z. eq-eqb ((state_at c b).kind % 2) 1 (omega (arith, eqb-true (state_at c b).kind 1 z)))

  -- a state is fixed where no kind at or below it is sequential
  inner_fixed : (s : ℕ) → any (λ b. under c s b && has (state_at c b).kind 0) (states c) ≡ not (fixed c s)
  inner_fixed s = same _ _
      (λ a. let r = any_at _ (states c) a in
      let k = states_at c r.1 in
      not_yes (fails (fixed c s) (λ f. clash (and_l (under c s r.0) _ r.2) (fixed_at c s f r.0 k (sym (kind_sequential r.0 k) ∙ and_r (under c s r.0) _ r.2)))))
      (λ n. let r = unfixed_at c s (not-true _ n) in
      any_by _ (states_by c r.1) (both r.3 (kind_sequential r.0 r.1 ∙ r.2)))

  -- and is at an exit where none at or below it bars that
  abbrev bars : ℕ → ℕ → Bool
  bars e b = bars_by (state_at c b).kind (state_at c b).exits e

  bars_leaf : (e b : ℕ) → basic c b ≡ true → bars e b ≡ not (has (state_at c b).exits e)
  unfolding basic
  bars_leaf e b z = cond_yes _ _ z

  bars_other : (e b : ℕ) → basic c b ≡ false → bars e b ≡ sequential c b
  unfolding basic sequential
  bars_other e b z = cond_no _ _ z

  bars_fixed : (s e : ℕ) → not (any (λ b. under c s b && bars e b) (states c)) ≡ (fixed c s && shares c e s)
  bars_fixed s e = same _ _ at by
    where
      at : not (any (λ b. under c s b && bars e b) (states c)) ≡ true → (fixed c s && shares c e s) ≡ true
      at n =
          let none : (b : ℕ) → b < size c → under c s b ≡ true → bars e b ≡ true → ⊥ = λ b k u z. clash (any_by (λ b. under c s b && bars e b) (states_by c k) (both u z)) (not-true _ n) in
          both
          (fixed_by c s (λ q k z u. none q k u (bars_other e q (sequential_not_basic c q z) ∙ z)))
          (shares_by c e s (λ b k z u. ⊎_elim (λ y. y) (λ y. absurd (none b k u (bars_leaf e b z ∙ not_yes y))) (decided (has (state_at c b).exits e))))

      by : (fixed c s && shares c e s) ≡ true → not (any (λ b. under c s b && bars e b) (states c)) ≡ true
      by h = not_yes (fails (any (λ b. under c s b && bars e b) (states c)) (λ a.
          let r = any_at (λ b. under c s b && bars e b) (states c) a in
          let k = states_at c r.1 in
          let u = and_l (under c s r.0) _ r.2 in
          let z = and_r (under c s r.0) _ r.2 in
          ⊎_elim
          (λ y. clash (shares_at c e s (and_r (fixed c s) _ h) r.0 k y u) (not-true _ (sym (bars_leaf e r.0 y) ∙ z)))
          (λ y. clash u (fixed_at c s (and_l (fixed c s) _ h) r.0 k (sym (bars_other e r.0 y) ∙ z)))
          (decided (basic c r.0))))

  -- the tables
  module _ (kinds exits : List ℕ) (K : Column (λ x. x.kind) c kinds) (X : Column (λ x. x.exits) c exits) where
    fixed_kind_at : (inner : List ℕ) → Gathered c kinds inner → (s : ℕ) → s < 48 → cond (has (get_or inner s 0) 0) (get_or kinds s 0) 0 ≡ cond (fixed c s) 0 (state_at c s).kind
    unfolding basic
    fixed_kind_at inner G s h = ap (λ (x : ℕ). cond (has (get_or inner s 0) 0) x 0) (K s h) ∙ elim (dec_lt s (size c)) [
      | yes l ↦ ap (λ (b : Bool). cond b (state_at c s).kind 0) (G s 0 l ∙ any_same _ _ (states c) (λ b m. ap (λ (x : ℕ). under c s b && has x 0) (K b (omega (arith, states_at c m)))) ∙ inner_fixed s) ∙ turned (fixed c s) _
      | no l ↦ ap (λ (x : ℕ). cond (has (get_or inner s 0) 0) x 0) (past l) ∙ zeros (has (get_or inner s 0) 0) (fixed c s) ∙ ap (λ (x : ℕ). cond (fixed c s) 0 x) (sym (past l))
    ]
      where
        past : (s < size c → ⊥) → (state_at c s).kind ≡ 0
        past l = eqb-true _ 0 (unknown_basic c s (omega arith))

        turned : (b : Bool) (x : ℕ) → cond (not b) x 0 ≡ cond b 0 x
        turned true x = refl
        turned false x = refl

        zeros : (a b : Bool) → ◌≡◌ {A = ℕ} (cond a 0 0) (cond b 0 0)
        zeros true true = refl
        zeros true false = refl
        zeros false true = refl
        zeros false false = refl

    fixed_exits_at : (table barred : List ℕ) → ((s e : ℕ) → s < 48 → e < 8 → has (get_or table s 0) e ≡ bars_by (get_or kinds s 0) (get_or exits s 0) e) → Gathered c table barred
        → (s e : ℕ) → s < size c → e < 8 → has (Words.bit_xor (get_or barred s 0) 255) e ≡ (fixed c s && shares c e s)
    fixed_exits_at table barred B G s e h l = has_not 8 (get_or barred s 0) e l ∙ ap not (G s e h ∙ any_same _ _ (states c) (λ b m. let k : b < 48 = omega (arith, states_at c m) in
        ap (λ (x : Bool). under c s b && x) (B b e k l ∙ ap₂ (λ (x y : ℕ). bars_by x y e) (K b k) (X b k)))) ∙ bars_fixed s e

    pub fixed_in : (inner table barred ks xs : List ℕ) → Gathered c kinds inner → ((s e : ℕ) → s < 48 → e < 8 → has (get_or table s 0) e ≡ bars_by (get_or kinds s 0) (get_or exits s 0) e) → Gathered c table barred
        → ((s : ℕ) → s < 48 → get_or ks s 0 ≡ cond (has (get_or inner s 0) 0) (get_or kinds s 0) 0) → ((s : ℕ) → s < 48 → get_or xs s 0 ≡ Words.bit_xor (get_or barred s 0) 255)
        → FixedIn c (record { kinds = ks; exits = xs })
    fixed_in inner table barred ks xs I B G k x = record {
      kind = λ s h. k s h ∙ fixed_kind_at inner I s h;
      exits = λ s e h l. ap (λ (y : ℕ). has y e) (x s (omega arith)) ∙ fixed_exits_at table barred B G s e h l;
    }
