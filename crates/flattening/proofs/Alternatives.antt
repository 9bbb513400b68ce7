-- The alternatives of an exit: for an active composite state just one of them is where the automata stand, if the state
-- is completed, and else none.
use mathlib.Core.Path.{◌≡◌, refl, sym, ap, ◌∙◌, subst}
use mathlib.Core.Bool.{Bool, true, false, ◌&&◌}
use mathlib.Core.Logic.{◌⊎◌, inl, inr, ⊎_elim}
use mathlib.Core.List.Memᴰ.{cases_cons}
use mathlib.Core.List.Memᴰ.{cast}
use mathlib.Core.List.Memᴰ.{eq_of_singleton}
use mathlib.Core.List.Memᴰ.{head as here}
use mathlib.Core.List.Memᴰ.{not-nil}
use mathlib.Core.List.Memᴰ.{tail as there}
use mathlib.Core.List.{List, [], ◌∷◌, map, Memᴰ as Mem}
use Prim.Native.Nat.{ℕ, zero, suc, ◌+◌, ◌^◌, ◌≤◌, ◌<◌}
use native.Mathlib.Omega.{arith}
use native.Mathlib.Decide.{ℕ_discrete}
use borrow.Author.Tests.{eqb-true, eq-eqb}
use lib.ListN.{length}
use Rattle.lists.specs.Lists.{has, any, bits_of, concat}
use Rattle.lists.proofs.Bools.{parts, clash, decided, and_l, and_r, both, or_l, or_r, or_cases}
use Rattle.lists.proofs.Lists.{any_at, any_by}
use Rattle.lists.proofs.Concat.{concat_at, concat_by}
use Rattle.lists.proofs.Once.{Once}
use Rattle.lists.proofs.Bits.{has_one, has_zero, has_sum, Apart}
use Rattle.chart_records.specs.Chart.{Chart, state_at, basic, sequential, parallel}
use Rattle.chart_records.specs.Tree.{under, children, sequentials, fixed, shares}
use Rattle.chart_moves.specs.Machine.{is_active, is_tree, completed}
use Rattle.chart_moves.specs.declared.configuration.Configuration.{Configuration}
use Rattle.chart_records.proofs.Tree.{size, Child, children_at, children_by, children_once, Parents, under_refl, under_transitive, child_under, child_above, child_towards, children_disjoint, sequential_not_parallel}
use Rattle.chart_records.proofs.Fixed.{fixed_at, unfixed_composite, unfixed_child, shares_at, shares_by}
use Rattle.chart_records.proofs.Rules.{Passed, kinds_left}
use Rattle.chart_records.proofs.Ranges.{Ranges, kinds_of}
use Rattle.chart_moves.proofs.Active.{active_known, OneChild, IsTree, tree_at, completed_at, completed_by, active_above, active_below, active_fixed}
use Rattle.flattening.specs.Flatten.{automaton, sums_of, choices_from, alternatives}
use Rattle.flattening.proofs.Automata.{Region, region_at, region_of_automaton, automaton_injective, SetOf, set_unique, set_iff, set_none, set_one, set_sum, set_bits}
use Rattle.flattening.proofs.Sums.{sums_at, sums_by, sorted_at, sorted_by}

-- the choices below s that its child r gives, if s is sequential
unfoldable pub choices_of : ℕ → Chart → ℕ → ℕ → ℕ → List ℕ
choices_of n c e s r = elim (fixed c r) [
  | true ↦ elim (shares c e r) [ true ↦ 2 ^ automaton c s ∷ [] | false ↦ [] ]
  | false ↦ choices_from n c e r
]

module _ (n : ℕ) (c : Chart) (e s : ℕ) where
  pub choices_shared : fixed c s ≡ true → shares c e s ≡ true → choices_from (suc n) c e s ≡ 0 ∷ []
  unfolding choices_from
  choices_shared f h = rw (f, choices_from) (rw h)

  pub choices_unshared : fixed c s ≡ true → shares c e s ≡ false → choices_from (suc n) c e s ≡ []
  unfolding choices_from
  choices_unshared f h = rw (f, choices_from) (rw h)

  pub choices_parallel : fixed c s ≡ false → parallel c s ≡ true → choices_from (suc n) c e s ≡ sums_of (map (choices_from n c e) (children c s))
  unfolding choices_from
  choices_parallel f h = rw (f, choices_from) (rw h)

  pub choices_sequential : fixed c s ≡ false → parallel c s ≡ false → choices_from (suc n) c e s ≡ concat (choices_of n c e s) (children c s)
  unfolding choices_from choices_of
  choices_sequential f h = rw (f, choices_from) (rw h)

  pub of_shared : (r : ℕ) → fixed c r ≡ true → shares c e r ≡ true → choices_of n c e s r ≡ 2 ^ automaton c s ∷ []
  unfolding choices_of
  of_shared r f h = rw (f, choices_of) (rw h)

  pub of_unshared : (r : ℕ) → fixed c r ≡ true → shares c e r ≡ false → choices_of n c e s r ≡ []
  unfolding choices_of
  of_unshared r f h = rw (f, choices_of) (rw h)

  pub of_unfixed : (r : ℕ) → fixed c r ≡ false → choices_of n c e s r ≡ choices_from n c e r
  unfolding choices_of
  of_unfixed r f = rw (f, choices_of)

  -- a fixed state has the choice of no automaton, if it shares the exit
  fixed_cases : {x : ℕ} → fixed c s ≡ true → Mem x (choices_from (suc n) c e s) → (shares c e s ≡ true) × (x ≡ 0)
  fixed_cases f m = ⊎_elim
      (λ h. (h, eq_of_singleton (rw (choices_shared f h) at m)))
      (λ h. absurd (not-nil (rw (choices_unshared f h) at m)))
      (decided (shares c e s))

  -- either way
  of_cases : (r : ℕ) {x : ℕ} → Mem x (choices_of n c e s r)
      → ((fixed c r ≡ true) × (shares c e r ≡ true) × (x ≡ 2 ^ automaton c s)) ⊎ ((fixed c r ≡ false) × Mem x (choices_from n c e r))
  of_cases r m = ⊎_elim
      (λ f. ⊎_elim (λ h. inl (f, h, eq_of_singleton (rw (of_shared r f h) at m))) (λ h. absurd (not-nil (rw (of_unshared r f h) at m))) (decided (shares c e r)))
      (λ f. inr (f, rw (of_unfixed r f) at m))
      (decided (fixed c r))

none_chosen : (c : Chart) (e m : ℕ) {x : ℕ} → Mem x (choices_from zero c e m) → Mem x []
unfolding choices_from
none_chosen c e m j = j

-- a sequential state is active, and its active child is fixed and shares an exit
pub record Ready (c : Chart) (e : ℕ) (p : ℕ → Bool) (q : ℕ) : Type 0 where
  pub is_active_lem : p q ≡ true
  pub child : ℕ
  pub is_child_lem : Child c q child
  pub child_active : p child ≡ true
  pub child_fixed : fixed c child ≡ true
  pub child_shares : shares c e child ≡ true

-- what a set of alternatives is made of: automata below m, and one at least if m is not fixed
pub record Drawn (c : Chart) (m x : ℕ) : Type 0 where
  pub within : (a : ℕ) → has x a ≡ true → (q : ℕ) × Region c q × (automaton c q ≡ a) × (under c m q ≡ true)
  pub some : fixed c m ≡ false → (q : ℕ) × Region c q × (under c m q ≡ true) × (has x (automaton c q) ≡ true)

-- the same for a sum over states
record DrawnAll (c : Chart) (rs : List ℕ) (x : ℕ) : Type 0 where
  within : (a : ℕ) → has x a ≡ true → (q : ℕ) × Region c q × (automaton c q ≡ a) × ((r : ℕ) × Mem r rs × (under c r q ≡ true))
  some : (r : ℕ) → Mem r rs → fixed c r ≡ false → (q : ℕ) × Region c q × (under c r q ≡ true) × (has x (automaton c q) ≡ true)

module _ (c : Chart) (tree : Parents c) (kinds : (s : ℕ) → s < size c → basic c s ≡ false → parallel c s ≡ false → sequential c s ≡ true) where
  region : (m : ℕ) → m < size c → basic c m ≡ false → parallel c m ≡ false → Region c m
  region m h b z = record { known = h; is_sequential = kinds m h b z }

  module _ (e : ℕ) where
    apart_children : {m r x y : ℕ} {rs : List ℕ} → Child c m r → ((t : ℕ) → Mem t rs → Child c m t) → (Mem r rs → ⊥) → Drawn c r x → DrawnAll c rs y → Apart x y
    apart_children {rs = rs} k f n d w a h j =
        let o = d.within a h in let v = w.within a j in let t = v.3 in
        let same-region = automaton_injective c v.1 o.1 (v.2 ∙ sym o.2) in
        n (cast (children_disjoint c tree o.0 o.1.known k (f t.0 t.1) o.3 (ap (under c t.0) (sym same-region) ∙ t.2)) t.1)

    drawn_sum : {m r x y : ℕ} {rs : List ℕ} → Child c m r → ((t : ℕ) → Mem t rs → Child c m t) → (Mem r rs → ⊥) → Drawn c r x → DrawnAll c rs y → DrawnAll c (r ∷ rs) (x + y)
    drawn_sum {m} {r} {x} {y} {rs} k f n d w = record {
      within = λ a h. ⊎_elim (λ j. let o = d.within a j in (o.0, o.1, o.2, (r, here refl, o.3)))
          (λ j. let o = w.within a j in (o.0, o.1, o.2, (o.3.0, there o.3.1, o.3.2))) (or_cases (has x a) (has y a) (sym (has_sum x y apart a) ∙ h));
      some = λ t j v. ⊎_elim (λ q. let o = d.some (ap (fixed c) (sym q) ∙ v) in (o.0, o.1, ap (λ (z : ℕ). under c z o.0) q ∙ o.2, has_sum x y apart _ ∙ or_l _ o.3))
          (λ q. let o = w.some t q v in (o.0, o.1, o.2, has_sum x y apart _ ∙ or_r (has x (automaton c o.0)) o.3)) (cases_cons j);
    }
      where
        apart : Apart x y
        apart = apart_children k f n d w

    drawn_all : (n m : ℕ) → ((r x : ℕ) → Child c m r → Mem x (choices_from n c e r) → Drawn c r x) → (rs : List ℕ) → Once rs → ((t : ℕ) → Mem t rs → Child c m t)
        → (x : ℕ) → Mem x (sums_of (map (choices_from n c e) rs)) → DrawnAll c rs x
    unfolding sums_of
    drawn_all n m F [] o f x j = record { within = λ a h. clash h (ap (λ (z : ℕ). has z a) (eq_of_singleton j) ∙ has_zero a); some = λ r k v. absurd (not-nil k) }
    drawn_all n m F (r ∷ rs) o f x j =
        let z = sums_at (choices_from n c e r) (sums_of (map (choices_from n c e) rs)) j in
        subst (λ (w : ℕ). DrawnAll c (r ∷ rs) w) (sym z.4)
        (drawn_sum (f r (here refl)) (λ t k. f t (there k)) o.0 (F r z.0 (f r (here refl)) z.2) (drawn_all n m F rs o.1 (λ t k. f t (there k)) z.1 z.3))

    drawn_step : (n : ℕ) → ((m x : ℕ) → m < size c → Mem x (choices_from n c e m) → Drawn c m x)
        → (m x : ℕ) → m < size c → Mem x (choices_from (suc n) c e m) → Drawn c m x
    drawn_step n F m x h j = ⊎_elim in_fixed (λ f. ⊎_elim (in_parallel f) (in_sequential f) (decided (parallel c m))) (decided (fixed c m))
      where
        lift : {r : ℕ} → Child c m r → fixed c r ≡ false → Drawn c r x → Drawn c m x
        lift {r} k f d = record {
          within = λ a i. let o = d.within a i in (o.0, o.1, o.2, under_transitive c tree m r o.0 o.1.known (child_under c tree k) o.3);
          some = λ _. let o = d.some f in (o.0, o.1, under_transitive c tree m r o.0 o.1.known (child_under c tree k) o.2, o.3);
        }

        in_fixed : fixed c m ≡ true → Drawn c m x
        in_fixed f = record {
          within = λ a i. clash i (ap (λ (z : ℕ). has z a) (fixed_cases n c e m f j).1 ∙ has_zero a);
          some = λ g. clash f g;
        }

        in_parallel : fixed c m ≡ false → parallel c m ≡ true → Drawn c m x
        in_parallel f z =
            let w = drawn_all n m (λ r y k i. F r y k.known i) (children c m) (children_once c m) (λ t i. children_at c m i) x (rw (choices_parallel n c e m f z) at j) in
            let r = unfixed_child c tree m z f in
            record {
              within = λ a i. let o = w.within a i in (o.0, o.1, o.2, under_transitive c tree m o.3.0 o.0 o.1.known (child_under c tree (children_at c m o.3.1)) o.3.2);
              some = λ _. let o = w.some r.0 (children_by c r.1) r.2 in (o.0, o.1, under_transitive c tree m r.0 o.0 o.1.known (child_under c tree r.1) o.2, o.3);
            }

        in_sequential : fixed c m ≡ false → parallel c m ≡ false → Drawn c m x
        in_sequential f z =
            let w = concat_at (choices_of n c e m) (children c m) (rw (choices_sequential n c e m f z) at j) in
            let k = children_at c m w.1 in
            let g = region m h (unfixed_composite c tree m f) z in
            ⊎_elim (λ o. subst (Drawn c m) (sym o.2) (record {
              within = λ a i. (m, g, eqb-true (automaton c m) a (sym (has_one (automaton c m) a) ∙ i), under_refl c m);
              some = λ _. (m, g, under_refl c m, has_one (automaton c m) (automaton c m) ∙ eq-eqb (automaton c m) (automaton c m) refl);
            }))
            (λ o. lift k o.0 (F w.0 x k.known o.1))
            (of_cases n c e m w.0 w.2)

    -- every set that is chosen below a state has automata below it, and at least one if the state is not fixed
    pub drawn : (n m x : ℕ) → m < size c → Mem x (choices_from n c e m) → Drawn c m x
    drawn zero m x h j = absurd (not-nil (none_chosen c e m j))
    drawn (suc n) m x h j = drawn_step n (drawn n) m x h j

    module _ (p : ℕ → Bool) (active : IsTree c p) where
      -- the automata that a completed state's exit is made of
      abbrev Below : ℕ → ℕ → Type 0
      Below m q = (under c m q ≡ true) × Ready c e p q

      abbrev Completed : ℕ → Type 0
      Completed m = (s : ℕ) → s < size c → p s ≡ true → basic c s ≡ true → under c m s ≡ true → has (state_at c s).exits e ≡ true

      -- a sequential state whose active child is fixed is alone ready
      below_fixed : {m q : ℕ} (o : OneChild c p m) → fixed c o.child ≡ true → Region c q → Below m q → q ≡ m
      below_fixed {m} {q} o f g w = elim (ℕ_discrete q m) [
        | yes z ↦ z
        | no d ↦ clash (active_below c tree p active m q o g.known w.0 d w.1.is_active_lem) (fixed_at c o.child f q g.known g.is_sequential)
      ]

      -- else what is ready is so below the active child
      below_child : {m q : ℕ} (o : OneChild c p m) → fixed c o.child ≡ false → Region c q → Below m q → Below o.child q
      below_child {m} {q} o b g w = elim (ℕ_discrete q m) [
        | no d ↦ (active_below c tree p active m q o g.known w.0 d w.1.is_active_lem, w.1)
        | yes z ↦ let r = w.1 in clash (ap (fixed c) (sym (o.alone r.child (subst (λ (x : ℕ). Child c x r.child) z r.is_child_lem) r.child_active)) ∙ r.child_fixed) b
      ]

      child_below : {m r q : ℕ} → Child c m r → Region c q → Below r q → Below m q
      child_below {m} {r} {q} k g w = (under_transitive c tree m r q g.known (child_under c tree k) w.0, w.1)

      ready_one : {m : ℕ} (o : OneChild c p m) → p m ≡ true → fixed c o.child ≡ true → shares c e o.child ≡ true → Ready c e p m
      ready_one o a f h = record { is_active_lem = a; child = o.child; is_child_lem = o.is_child_lem; child_active = o.passes; child_fixed = f; child_shares = h }

      -- a fixed state has no automaton below it
      set_of_fixed : (m : ℕ) → fixed c m ≡ true → SetOf c (Below m) 0
      set_of_fixed m f = set_none c (λ q g w. clash w.0 (fixed_at c m f q g.known g.is_sequential))

      -- the set of a sequential state whose active child is fixed, or not
      set_fixed : {m : ℕ} (o : OneChild c p m) → Region c m → p m ≡ true → fixed c o.child ≡ true → shares c e o.child ≡ true → SetOf c (Below m) (2 ^ automaton c m)
      set_fixed {m} o g a f h = set_iff c (λ q _ z. subst (Below m) (sym z) (under_refl c m, ready_one o a f h)) (λ q r w. below_fixed o f r w) (set_one c m g)

      set_unfixed : {m x : ℕ} (o : OneChild c p m) → fixed c o.child ≡ false → SetOf c (Below o.child) x → SetOf c (Below m) x
      set_unfixed o f = set_iff c (λ q g w. child_below o.is_child_lem g w) (λ q g w. below_child o f g w)

      -- the set of a parallel state
      set_parallel : (m : ℕ) {x : ℕ} → parallel c m ≡ true → SetOf c (λ q. (r : ℕ) × Mem r (children c m) × Below r q) x → SetOf c (Below m) x
      set_parallel m z = set_iff c (λ q g w. child_below (children_at c m w.1) g w.2)
          (λ q g w. let d = child_towards c tree m q g.known w.0 (λ i. clash z (ap (parallel c) (sym i) ∙ sequential_not_parallel c q g.is_sequential)) in (d.0, children_by c d.1, (d.2, w.1)))

      set_more : {m r x y : ℕ} {rs : List ℕ} → Child c m r → ((t : ℕ) → Mem t rs → Child c m t) → (Mem r rs → ⊥) → SetOf c (Below r) x → SetOf c (λ q. (t : ℕ) × Mem t rs × Below t q) y
          → SetOf c (λ q. (t : ℕ) × Mem t (r ∷ rs) × Below t q) (x + y)
      set_more {m} {r} {x} {y} {rs} k f n s t = set_iff c
          (λ q g. ⊎_elim (λ w. (r, here refl, w)) (λ w. (w.0, there w.1, w.2)))
          (λ q g w. ⊎_elim (λ i. inl (subst (λ (z : ℕ). Below z q) i w.2)) (λ i. inr (w.0, i, w.2)) (cases_cons w.1))
          (set_sum c (λ q g w v. n (cast (children_disjoint c tree q g.known k (f v.0 v.1) w.0 v.2.0) v.1)) s t)

      -- a choice below m that is where the automata stand
      abbrev Chosen : ℕ → ℕ → Type 0
      Chosen n m = (x : ℕ) × Mem x (choices_from n c e m) × SetOf c (Below m) x

      gather : (n m : ℕ) → ((r : ℕ) → Child c m r → Chosen n r) → (rs : List ℕ) → Once rs → ((t : ℕ) → Mem t rs → Child c m t)
          → (x : ℕ) × Mem x (sums_of (map (choices_from n c e) rs)) × SetOf c (λ q. (r : ℕ) × Mem r rs × Below r q) x
      unfolding sums_of
      gather n m F [] o f = (0, here refl, set_none c (λ q g w. not-nil w.1))
      gather n m F (r ∷ rs) o f =
          let a = F r (f r (here refl)) in
          let b = gather n m F rs o.1 (λ t k. f t (there k)) in
          (a.0 + b.0, sums_by a.1 b.1, set_more (f r (here refl)) (λ t k. f t (there k)) o.0 a.2 b.2)

      complete_step : (n m : ℕ) → ((r : ℕ) → Child c m r → p r ≡ true → Completed r → Chosen n r) → m < size c → p m ≡ true → Completed m → Chosen (suc n) m
      complete_step n m F h a done = ⊎_elim in_fixed (λ f. ⊎_elim (in_parallel f) (in_sequential f) (decided (parallel c m))) (decided (fixed c m))
        where
          lower : {r : ℕ} → Child c m r → Completed r
          lower {r} k s l i z u = done s l i z (under_transitive c tree m r s l (child_under c tree k) u)

          in_fixed : fixed c m ≡ true → Chosen (suc n) m
          in_fixed f =
              let j = shares_by c e m (λ b l z u. done b l (active_fixed c tree p active kinds m f a b l u) z u) in
              (0, rw (choices_shared n c e m f j) (here refl), set_of_fixed m f)

          in_parallel : fixed c m ≡ false → parallel c m ≡ true → Chosen (suc n) m
          in_parallel f z =
              let w = gather n m (λ r k. F r k (active.every m r k z a) (lower k)) (children c m) (children_once c m) (λ t i. children_at c m i) in
              (w.0, rw (choices_parallel n c e m f z) w.1, set_parallel m z w.2)

          in_sequential : fixed c m ≡ false → parallel c m ≡ false → Chosen (suc n) m
          in_sequential f z =
              let g = region m h (unfixed_composite c tree m f) z in
              let o = active.one m h g.is_sequential a in
              let k = o.is_child_lem in
              ⊎_elim (λ i. let j = shares_by c e o.child (λ b l y u. lower k b l (active_fixed c tree p active kinds o.child i o.passes b l u) y u) in
              (2 ^ automaton c m, rw (choices_sequential n c e m f z) (concat_by (choices_of n c e m) (children_by c k) (rw (of_shared n c e m o.child i j) (here refl))), set_fixed o g a i j))
              (λ i. let w = F o.child k o.passes (lower k) in
              (w.0, rw (choices_sequential n c e m f z) (concat_by (choices_of n c e m) (children_by c k) (rw (of_unfixed n c e m o.child i) w.1)), set_unfixed o i w.2))
              (decided (fixed c o.child))

      -- a completed state has an alternative where its automata stand
      pub complete : (n m : ℕ) → size c ≤ n + m → m < size c → p m ≡ true → Completed m → Chosen n m
      complete zero m l h a done = absurd (omega arith)
      complete (suc n) m l h a done = complete_step n m (λ r k j w. complete n r (omega (arith, child_above c tree k)) k.known j w) h a done

      -- a set whose automata are all ready
      abbrev AllReady : ℕ → Type 0
      AllReady x = (q : ℕ) → Region c q → has x (automaton c q) ≡ true → Ready c e p q

      abbrev Sound : ℕ → ℕ → Type 0
      Sound n m = (x : ℕ) → Mem x (choices_from n c e m) → AllReady x → Completed m × SetOf c (Below m) x

      scatter : (n m : ℕ) → ((r : ℕ) → Child c m r → Sound n r) → (rs : List ℕ) → Once rs → ((t : ℕ) → Mem t rs → Child c m t)
          → (x : ℕ) → Mem x (sums_of (map (choices_from n c e) rs)) → AllReady x → ((r : ℕ) → Mem r rs → Completed r) × SetOf c (λ q. (r : ℕ) × Mem r rs × Below r q) x
      unfolding sums_of
      scatter n m F [] o f x j a = ((λ r k. absurd (not-nil k)), subst (SetOf c _) (sym (eq_of_singleton j)) (set_none c (λ q g w. not-nil w.1)))
      scatter n m F (r ∷ rs) o f x j a =
          let z = sums_at (choices_from n c e r) (sums_of (map (choices_from n c e) rs)) j in
          let k = f r (here refl) in
          let g : ((t : ℕ) → Mem t rs → Child c m t) = λ t i. f t (there i) in
          let apart : Apart z.0 z.1 = apart_children k g o.0 (drawn n r z.0 k.known z.2) (drawn_all n m (λ t y i w. drawn n t y i.known w) rs o.1 g z.1 z.3) in
          let here-is = F r k z.0 z.2 (λ q l i. a q l (ap (λ (w : ℕ). has w (automaton c q)) z.4 ∙ has_sum z.0 z.1 apart (automaton c q) ∙ or_l _ i)) in
          let rest-is = scatter n m F rs o.1 g z.1 z.3 (λ q l i. a q l (ap (λ (w : ℕ). has w (automaton c q)) z.4 ∙ has_sum z.0 z.1 apart (automaton c q) ∙ or_r (has z.0 (automaton c q)) i)) in (
            (λ t i. ⊎_elim (λ w. subst Completed (sym w) here-is.0) (λ w. rest-is.0 t w) (cases_cons i)),
            subst (SetOf c _) (sym z.4) (set_more k g o.0 here-is.1 rest-is.1),
          )

      -- what is completed below a state is completed above, if all that is active below it lies there
      completed_one : {m : ℕ} (o : OneChild c p m) → basic c m ≡ false → Completed o.child → Completed m
      completed_one {m} o b d s l i z u = d s l i z (active_below c tree p active m s o l u (λ q. clash (ap (basic c) (sym q) ∙ z) b) i)

      completed_all : (m : ℕ) → basic c m ≡ false → ((r : ℕ) → Child c m r → Completed r) → Completed m
      completed_all m b f s l i z u = let w = child_towards c tree m s l u (λ q. clash (ap (basic c) (sym q) ∙ z) b) in f w.0 w.1 s l i z w.2

      sound_step : (n m : ℕ) → ((r : ℕ) → r < size c → p r ≡ true → Sound n r) → m < size c → p m ≡ true → Sound (suc n) m
      sound_step n m F h a x j ready = ⊎_elim in_fixed (λ f. ⊎_elim (in_parallel f) (in_sequential f) (decided (parallel c m))) (decided (fixed c m))
        where
          in_fixed : fixed c m ≡ true → Completed m × SetOf c (Below m) x
          in_fixed f = let k = fixed_cases n c e m f j in ((λ s l i z u. shares_at c e m k.0 s l z u), subst (SetOf c (Below m)) (sym k.1) (set_of_fixed m f))

          in_parallel : fixed c m ≡ false → parallel c m ≡ true → Completed m × SetOf c (Below m) x
          in_parallel f z =
              let w = scatter n m (λ r k. F r k.known (active.every m r k z a)) (children c m) (children_once c m) (λ t i. children_at c m i) x (rw (choices_parallel n c e m f z) at j) ready in
              (completed_all m (unfixed_composite c tree m f) (λ r k. w.0 r (children_by c k)), set_parallel m z w.1)

          in_sequential : fixed c m ≡ false → parallel c m ≡ false → Completed m × SetOf c (Below m) x
          in_sequential f z =
              let b = unfixed_composite c tree m f in
              let g = region m h b z in
              let o = active.one m h g.is_sequential a in
              let w = concat_at (choices_of n c e m) (children c m) (rw (choices_sequential n c e m f z) at j) in
              let k = children_at c m w.1 in
              ⊎_elim (λ i.
              let r = ready m g (ap (λ (y : ℕ). has y (automaton c m)) i.2 ∙ has_one (automaton c m) (automaton c m) ∙ eq-eqb (automaton c m) (automaton c m) refl) in
              let q = o.alone r.child r.is_child_lem r.child_active in
              let t = ap (fixed c) (sym q) ∙ r.child_fixed in
              let y = ap (shares c e) (sym q) ∙ r.child_shares in
              (completed_one o b (λ s l v d u. shares_at c e o.child y s l d u), subst (SetOf c (Below m)) (sym i.2) (set_fixed o g a t y)))
              (λ i.
              let d = (drawn n w.0 x k.known i.1).some i.0 in
              let v = active_above c tree p active w.0 d.0 d.1.known d.2 (ready d.0 d.1 d.3).is_active_lem in
              let q = o.alone w.0 k v in
              let r = F w.0 k.known v x i.1 ready in
              (completed_one o b (subst Completed q r.0), set_unfixed o (ap (fixed c) (sym q) ∙ i.0) (subst (λ (y : ℕ). SetOf c (Below y) x) q r.1)))
              (of_cases n c e m w.0 w.2)

      -- an alternative all of whose automata are ready: the state is completed, and it is where they stand
      pub sound : (n m : ℕ) → m < size c → p m ≡ true → Sound n m
      sound zero m h a x j ready = absurd (not-nil (none_chosen c e m j))
      sound (suc n) m h a x j ready = sound_step n m (λ r i w y v z. sound n r i w y v z) h a x j ready

-- the sequential state q is active, and its active child is fixed and shares e
unfoldable pub is_at : Chart → Configuration → ℕ → ℕ → Bool
is_at c σ e q = is_active σ q && any (λ s. is_active σ s && (fixed c s && shares c e s)) (children c q)

-- the automata below m that are at e
unfoldable pub at_set : Chart → Configuration → ℕ → ℕ → ℕ
at_set c σ m e = bits_of (λ a. under c m (region_at c a) && is_at c σ e (region_at c a)) (length (sequentials c))

pub is_at_ready : (c : Chart) (σ : Configuration) (e q : ℕ) → is_at c σ e q ≡ true → Ready c e (is_active σ) q
unfolding is_at
is_at_ready c σ e q h =
    let r = any_at (λ s. is_active σ s && (fixed c s && shares c e s)) (children c q) (and_r (is_active σ q) _ h) in
    let w = r.2 in
    record { is_active_lem = and_l (is_active σ q) _ h; child = r.0; is_child_lem = children_at c q r.1; child_active = search parts; child_fixed = search parts; child_shares = search parts }

pub ready_is_at : (c : Chart) (σ : Configuration) (e q : ℕ) → Ready c e (is_active σ) q → is_at c σ e q ≡ true
unfolding is_at
ready_is_at c σ e q r = both r.is_active_lem (any_by (λ s. is_active σ s && (fixed c s && shares c e s)) (children_by c r.is_child_lem) (both r.child_active (both r.child_fixed r.child_shares)))

at_set_lem : (c : Chart) (σ : Configuration) (m e : ℕ) → SetOf c (λ q. (under c m q ≡ true) × Ready c e (is_active σ) q) (at_set c σ m e)
unfolding at_set
at_set_lem c σ m e = set_iff c (λ q g h. (and_l (under c m q) _ h, is_at_ready c σ e q (and_r (under c m q) _ h))) (λ q g w. both w.0 (ready_is_at c σ e q w.1)) (set_bits c (λ q. under c m q && is_at c σ e q))

-- for a chart that is not refused: `chart_at_lem file h` gives both
module _ (c : Chart) (passed : Passed c) (ranges : Ranges c) (σ : Configuration) (tree : is_tree c σ ≡ true) (m e : ℕ) (active : is_active σ m ≡ true) where
  known : m < size c
  known = active_known c (is_active σ) (tree_at c σ tree) m active

  -- a completed state has the set of its automata at the exit for an alternative
  pub alternative_of_completed : completed c σ m e ≡ true → Mem (at_set c σ m e) (alternatives c m e)
  unfolding alternatives
  alternative_of_completed h =
      let r = complete c passed.tree (kinds_left c (kinds_of ranges)) e (is_active σ) (tree_at c σ tree) (size c) m (omega arith) known active (completed_at c σ m e h) in
      sorted_by _ (cast (set_unique c (at_set_lem c σ m e) r.2) r.1)

  -- an alternative whose automata are all at the exit: the state is completed, and the alternative is that set
  pub completed_of_alternative : (x : ℕ) → Mem x (alternatives c m e) → ((a : ℕ) → has x a ≡ true → is_at c σ e (region_at c a) ≡ true) → (completed c σ m e ≡ true) × (x ≡ at_set c σ m e)
  unfolding alternatives
  completed_of_alternative x j f =
      let r = sound c passed.tree (kinds_left c (kinds_of ranges)) e (is_active σ) (tree_at c σ tree) (size c) m known active x (sorted_at _ j)
      (λ q g h. is_at_ready c σ e q (ap (is_at c σ e) (sym (region_of_automaton c g)) ∙ f (automaton c q) h)) in
      (completed_by c σ m e r.0, set_unique c r.1 (at_set_lem c σ m e))
