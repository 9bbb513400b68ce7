-- Laws of fixed states, which have no sequential state at or below them, and of the sensors of parallel states.
use mathlib.Core.Path.{◌≡◌, sym, ap, ◌∙◌}
use mathlib.Core.Bool.{true, false, ◌&&◌, ◌||◌}
use mathlib.Core.Logic.{⊎_elim}
use mathlib.Core.List.Memᴰ.{not-nil}
use mathlib.Core.List.{[], Memᴰ as Mem}
use Prim.Native.Nat.{ℕ, zero, suc, ◌+◌, ◌≤◌, ◌<◌}
use native.Mathlib.Omega.{arith}
use borrow.Author.Tests.{not-true, not-false}
use Rattle.lists.specs.Lists.{has, any, keep}
use Rattle.lists.proofs.Bools.{clash, decided, fails, and_l, and_r, both, or_l, or_r, or_cases, not_yes, implies_at, implies_by, same, cond_yes, cond_no}
use Rattle.lists.proofs.Lists.{all_at, all_by, any_at, any_by, keep_at, keep_by, keep_none}
use Rattle.chart_records.specs.Chart.{Chart, state_at, states, basic, sequential, parallel}
use Rattle.chart_records.specs.Tree.{under, children, sequentials, fixed, plain, sensors, shares}
use Rattle.chart_records.proofs.Tree.{size, states_at, states_by, Child, children_at, children_by, Parents, under_refl, under_transitive, child_under, child_above, child_towards, basic_under, sequential_not_basic, sequential_not_parallel}

sequentials_mem : (c : Chart) {q : ℕ} → q < size c → sequential c q ≡ true → Mem q (sequentials c)
unfolding sequentials
sequentials_mem c h z = keep_by _ (states c) (states_by c h) z

-- a fixed state has no sequential state at or below it
pub fixed_at : (c : Chart) (s : ℕ) → fixed c s ≡ true → (q : ℕ) → q < size c → sequential c q ≡ true → under c s q ≡ false
unfolding fixed
fixed_at c s f q h z = fails (under c s q) (λ u. clash (any_by (under c s) (sequentials_mem c h z) u) (not-true _ f))

pub fixed_by : (c : Chart) (s : ℕ) → ((q : ℕ) → q < size c → sequential c q ≡ true → under c s q ≡ true → ⊥) → fixed c s ≡ true
unfolding fixed sequentials
fixed_by c s f = not_yes (fails (any (under c s) (sequentials c)) (λ a. let r = any_at (under c s) (sequentials c) a in let k = keep_at _ (states c) r.1 in f r.0 (states_at c k.0) k.1 r.2))

-- one that is not fixed has one
pub unfixed_at : (c : Chart) (s : ℕ) → fixed c s ≡ false → (q : ℕ) × (q < size c) × (sequential c q ≡ true) × (under c s q ≡ true)
unfolding fixed sequentials
unfixed_at c s f = let r = any_at (under c s) (sequentials c) (not-false _ f) in let k = keep_at _ (states c) r.1 in (r.0, states_at c k.0, k.1, r.2)

pub sequential_unfixed : (c : Chart) (s : ℕ) → s < size c → sequential c s ≡ true → fixed c s ≡ false
sequential_unfixed c s h z = fails (fixed c s) (λ f. clash (under_refl c s) (fixed_at c s f s h z))

module _ (c : Chart) (tree : Parents c) where
  pub basic_fixed : (s : ℕ) → basic c s ≡ true → fixed c s ≡ true
  basic_fixed s b = fixed_by c s (λ q h z u. clash (ap (basic c) (basic_under c tree s q h b u) ∙ b) (sequential_not_basic c q z))

  -- what is not fixed is no basic state
  pub unfixed_composite : (s : ℕ) → fixed c s ≡ false → basic c s ≡ false
  unfixed_composite s f = fails (basic c s) (λ b. clash (basic_fixed s b) f)

  -- below a fixed state all are fixed
  pub fixed_below : (m s : ℕ) → fixed c m ≡ true → under c m s ≡ true → fixed c s ≡ true
  fixed_below m s f u = fixed_by c s (λ q h z v. clash (under_transitive c tree m s q h u v) (fixed_at c m f q h z))

  pub fixed_child : {m s : ℕ} → fixed c m ≡ true → Child c m s → fixed c s ≡ true
  fixed_child {m} {s} f k = fixed_below m s f (child_under c tree k)

  -- a parallel state that is not fixed has a child that is not
  pub unfixed_child : (m : ℕ) → parallel c m ≡ true → fixed c m ≡ false → (r : ℕ) × Child c m r × (fixed c r ≡ false)
  unfixed_child m p f =
      let q = unfixed_at c m f in
      let r = child_towards c tree m q.0 q.1 q.3 (λ z. clash p (ap (parallel c) (sym z) ∙ sequential_not_parallel c q.0 q.2)) in
      (r.0, r.1, fails (fixed c r.0) (λ g. clash r.2 (fixed_at c r.0 g q.0 q.1 q.2)))

  module _ (kinds : (s : ℕ) → s < size c → basic c s ≡ false → parallel c s ≡ false → sequential c s ≡ true) where
    -- a fixed composite state is parallel
    pub fixed_parallel : (s : ℕ) → s < size c → fixed c s ≡ true → basic c s ≡ false → parallel c s ≡ true
    fixed_parallel s h f b = ⊎_elim (λ p. p) (λ p. clash f (sequential_unfixed c s h (kinds s h b p))) (decided (parallel c s))

    -- so the fixed states are the basic ones and the plain ones
    pub fixed_is : (s : ℕ) → s < size c → fixed c s ≡ (basic c s || plain c s)
    unfolding plain
    fixed_is s h = same _ _
        (λ f. ⊎_elim (λ b. or_l _ b) (λ b. or_r (basic c s) (both (fixed_parallel s h f b) f)) (decided (basic c s)))
        (λ o. ⊎_elim (λ b. basic_fixed s b) (λ z. and_r (parallel c s) _ z) (or_cases (basic c s) _ o))

-- the sensors of a state
pub sensors_at : (c : Chart) (s : ℕ) {r : ℕ} → Mem r (sensors c s) → (parallel c s ≡ true) × Child c s r × (fixed c r ≡ true)
unfolding sensors
sensors_at c s {r} m = ⊎_elim
    (λ p. let k = keep_at (fixed c) (children c s) (rw p at m) in (p, children_at c s k.0, k.1))
    (λ p. absurd (not-nil (rw p at m)))
    (decided (parallel c s))

pub sensors_by : (c : Chart) {s r : ℕ} → parallel c s ≡ true → Child c s r → fixed c r ≡ true → Mem r (sensors c s)
unfolding sensors
sensors_by c {s} p k f = rw p (keep_by (fixed c) (children c s) (children_by c k) f)

-- exits that the basic states at or below s share
pub shares_at : (c : Chart) (e s : ℕ) → shares c e s ≡ true → (b : ℕ) → b < size c → basic c b ≡ true → under c s b ≡ true → has (state_at c b).exits e ≡ true
unfolding shares
shares_at c e s h b k z u = implies_at (basic c b && under c s b) _ (all_at _ (states c) h (states_by c k)) (both z u)

pub shares_by : (c : Chart) (e s : ℕ) → ((b : ℕ) → b < size c → basic c b ≡ true → under c s b ≡ true → has (state_at c b).exits e ≡ true) → shares c e s ≡ true
unfolding shares
shares_by c e s f = all_by _ (states c) (λ b m. implies_by (basic c b && under c s b) _ (λ a. f b (states_at c m) (and_l (basic c b) _ a) (and_r (basic c b) _ a)))

pub shares_basic : (c : Chart) → Parents c → (e s : ℕ) → s < size c → basic c s ≡ true → shares c e s ≡ has (state_at c s).exits e
shares_basic c tree e s h b = same _ _
    (λ k. shares_at c e s k s h b (under_refl c s))
    (λ k. shares_by c e s (λ x l z u. ap (λ (y : ℕ). has (state_at c y).exits e) (basic_under c tree s x l b u) ∙ k))

-- no parallel state has a basic child: what rule 7 was before sensors
abbrev pub NoSensors : Chart → Type 0
NoSensors c = (q s : ℕ) → Child c q s → parallel c q ≡ true → basic c s ≡ false

module _ (c : Chart) (tree : Parents c) (kinds : (s : ℕ) → s < size c → basic c s ≡ false → parallel c s ≡ false → sequential c s ≡ true) (without : NoSensors c) where
  -- then only basic states are fixed
  composite_unfixed : (n s : ℕ) → size c ≤ n + s → s < size c → basic c s ≡ false → fixed c s ≡ false
  composite_unfixed zero s l h b = absurd (omega arith)
  composite_unfixed (suc n) s l h b = ⊎_elim
      (λ p. let r = tree.fertile s h b in
      let k = r.1 in
      fails (fixed c s) (λ f. clash (fixed_child c tree f k) (composite_unfixed n r.0 (omega (arith, child_above c tree k)) k.known (without s r.0 k p))))
      (λ p. sequential_unfixed c s h (kinds s h b p))
      (decided (parallel c s))

  pub fixed_without : (s : ℕ) → s < size c → fixed c s ≡ basic c s
  fixed_without s h = ⊎_elim (λ b. basic_fixed c tree s b ∙ sym b) (λ b. composite_unfixed (size c) s (omega arith) h b ∙ sym b) (decided (basic c s))

  -- and no state has a sensor
  pub sensors_without : (s : ℕ) → sensors c s ≡ []
  unfolding sensors
  sensors_without s = ⊎_elim (λ p. cond_yes _ _ p ∙ none p) (λ p. cond_no _ _ p) (decided (parallel c s))
    where
      none : parallel c s ≡ true → keep (fixed c) (children c s) ≡ []
      none p = keep_none (fixed c) (children c s) (λ r m. let k = children_at c s m in fixed_without r k.known ∙ without s r k p)
