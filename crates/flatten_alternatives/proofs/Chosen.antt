-- The choices of a composite state by those of its children, one after the other.
use mathlib.Core.Path.{◌≡◌, refl, sym, ap, ◌∙◌, subst}
use mathlib.Core.Bool.{Bool, true, false, not, cond, ◌&&◌}
use mathlib.Core.Logic.{⊎_elim, ◌≢◌}
use mathlib.Core.List.Memᴰ.{head as here}
use mathlib.Core.List.Memᴰ.{tail as there}
use mathlib.Core.List.{List, [], ◌∷◌, ◌++◌, map, append_assoc, append-nil, Memᴰ as Mem}
use mathlib.Core.List.Memᴰ.{append_left}
use mathlib.Core.List.Memᴰ.{append_right}
use mathlib.Core.List.Memᴰ.{cast}
use mathlib.Core.List.Memᴰ.{not-nil}
use mathlib.Core.List.Memᴰ.{append_cases}
use mathlib.Core.List.Memᴰ.{eq_of_singleton}
use Prim.Native.Nat.{ℕ, zero, suc, ◌+◌, ◌^◌, ◌≤◌, ◌<◌}
use native.Mathlib.Omega.{arith}
use native.Mathlib.Decide.{dec_lt}
use borrow.Author.Tests.{eqb-true, eqb-false, eq-eqb, ne_eqb, not-true}
use lib.Dec.{eqb}
use lib.Bits.{bit_or}
use lib.ListN.{length, get_or, drop, replicate, length-drop, length-replicate}
use lib.Seq.{get_or-drop}
use Rattle.lists.specs.Lists.{has, keep, below, concat}
use Rattle.lists.proofs.Bools.{clash, decided, fails, and_l, and_r, or_cases, cond_no}
use Rattle.lists.proofs.Lists.{map_same, map_at, map_by, keep_at, keep_next, keep_left, mem_get_d}
use Rattle.lists.proofs.Concat.{concat_same}
use Rattle.lists.proofs.Below.{below_next, below_end, get_d_below, length_below}
use Rattle.lists.proofs.Bits.{has_ext, has_zero, has_one, has_sum, has_or, Apart}
use Rattle.lists.proofs.Within.{Within, within_right, within_both}
use Rattle.chart_records.specs.Chart.{Chart, states, parent_of, sequential, parallel}
use Rattle.chart_records.specs.Tree.{under, is_child, children, fixed, shares}
use Rattle.chart_records.proofs.Tree.{size, Parents, Child, children_at, unknown_parent, under_refl, under_transitive, child_under, child_above, children_disjoint}
use Rattle.chart_records.proofs.Fixed.{unfixed_composite}
use Rattle.chart_records.proofs.Rules.{Passed, kinds_left}
use Rattle.chart_records.proofs.Ranges.{Ranges, kinds_of, chart_at_lem}
use Rattle.flattening.specs.Flatten.{automaton, sums, sums_of, choices_from, insert, sorted}
use Rattle.flattening.proofs.Automata.{Region, automaton_lt, automaton_injective}
use Rattle.flattening.proofs.Sums.{sums_at, sums_by}
use Rattle.flattening.proofs.Alternatives.{choices_of, choices_shared, choices_unshared, choices_parallel, choices_sequential, Drawn, drawn}
use Rattle.chart_tree.specs.declared.table.Tree.{Tree}
use Rattle.chart_tree.specs.Table.{Tabled}
use Rattle.flatten_places.specs.Tables.{Chartered, Automated, FixedIn}
use Rattle.flatten_places.specs.declared.automaton.Automata.{Automata}
use Rattle.flatten_places.proofs.Fixing.{fixed_test}
use Rattle.flatten_places.specs.declared.fixed.Fixed.{Fixed}
use Rattle.flatten_alternatives.specs.Choosing.{choices, given, Kept, Clear, Choosing}
use Rattle.flatten_alternatives.proofs.Keeping.{kept_few, kept_same}

-- what a state gives its parent
pub given_shared : (c : Chart) (e x own : ℕ) → fixed c x ≡ true → shares c e x ≡ true → given own c e x ≡ own ∷ []
unfolding given
given_shared c e x own f h = rw (f, given) (rw h)

pub given_unshared : (c : Chart) (e x own : ℕ) → fixed c x ≡ true → shares c e x ≡ false → given own c e x ≡ []
unfolding given
given_unshared c e x own f h = rw (f, given) (rw h)

pub given_unfixed : (c : Chart) (e x own : ℕ) → fixed c x ≡ false → given own c e x ≡ choices c e x
unfolding given
given_unfixed c e x own f = rw (f, given)

-- with steps enough the choices do not depend on how many there are
module _ (c : Chart) (tree : Parents c) (e : ℕ) where
  of_same : (n k s r : ℕ) → choices_from n c e r ≡ choices_from k c e r → choices_of n c e s r ≡ choices_of k c e s r
  unfolding choices_of
  of_same n k s r q = ap (λ (l : List ℕ). elim (fixed c r) [ true ↦ elim (shares c e r) [ true ↦ 2 ^ automaton c s ∷ [] | false ↦ [] ] | false ↦ l ]) q

  refuel : (n k s : ℕ) → s < size c → size c ≤ n + s → size c ≤ k + s → choices_from n c e s ≡ choices_from k c e s
  refuel zero k s h a b = absurd (omega arith)
  refuel (suc n) zero s h a b = absurd (omega arith)
  refuel (suc n) (suc k) s h a b =
      let lower : (r : ℕ) → Mem r (children c s) → choices_from n c e r ≡ choices_from k c e r =
      λ r m. let j = children_at c s m in refuel n k r j.known (omega (arith, child_above c tree j)) (omega (arith, child_above c tree j)) in
      ⊎_elim
      (λ f. ⊎_elim (λ h. choices_shared n c e s f h ∙ sym (choices_shared k c e s f h)) (λ h. choices_unshared n c e s f h ∙ sym (choices_unshared k c e s f h)) (decided (shares c e s)))
      (λ f. ⊎_elim
      (λ p. choices_parallel n c e s f p ∙ ap sums_of (map_same (choices_from n c e) (choices_from k c e) (children c s) lower) ∙ sym (choices_parallel k c e s f p))
      (λ p. choices_sequential n c e s f p ∙ concat_same (choices_of n c e s) (choices_of k c e s) (children c s) (λ r m. of_same n k s r (lower r m)) ∙ sym (choices_sequential k c e s f p))
      (decided (parallel c s)))
      (decided (fixed c s))

  again : (s : ℕ) → s < size c → choices c e s ≡ choices_from (suc (size c)) c e s
  again s h = refuel (size c) (suc (size c)) s h (omega arith) (omega arith)

  pub choices_all : (s : ℕ) → s < size c → fixed c s ≡ false → parallel c s ≡ true → choices c e s ≡ sums_of (map (choices c e) (children c s))
  choices_all s h f p = again s h ∙ choices_parallel (size c) c e s f p

  pub choices_one : (s : ℕ) → s < size c → fixed c s ≡ false → parallel c s ≡ false → choices c e s ≡ concat (choices_of (size c) c e s) (children c s)
  choices_one s h f p = again s h ∙ choices_sequential (size c) c e s f p

  -- what a state gives: the choices from it down, with none for a set of its own
  pub given_none : (s : ℕ) → s < size c → given 0 c e s ≡ choices c e s
  given_none s h = ⊎_elim
      (λ f. ⊎_elim
      (λ k. given_shared c e s 0 f k ∙ sym (again s h ∙ choices_shared (size c) c e s f k))
      (λ k. given_unshared c e s 0 f k ∙ sym (again s h ∙ choices_unshared (size c) c e s f k))
      (decided (shares c e s)))
      (λ f. given_unfixed c e s 0 f)
      (decided (fixed c s))

-- to a sequential state: what its choices are made of
pub given_own : (c : Chart) (e s x own : ℕ) → own ≡ 2 ^ automaton c s → given own c e x ≡ choices_of (size c) c e s x
unfolding given choices_of
given_own c e s x own q = ap (λ (n : ℕ). given n c e x) q

-- what is left of the numbers below n
drop_above : (x n : ℕ) {r : ℕ} → Mem r (drop x (below n)) → x ≤ r
drop_above x n {r} m =
    let g = mem_get_d 0 m in
    let e = sym (get_or-drop x (below n) g.0 0) ∙ g.2 in
    let l : x + g.0 < n = omega (arith, g.1, length-drop x (below n), length_below n) in
    omega (arith, sym (get_d_below n (x + g.0) 0 l) ∙ e)

-- the children that a loop over the states has left at x
unfoldable pub rest : Chart → ℕ → ℕ → List ℕ
rest c s x = keep (is_child c s) (drop x (below (size c)))

module _ (c : Chart) (s : ℕ) (few : size c ≤ 48) (known : s < size c) where
  child_of : (x : ℕ) → is_child c s x ≡ true → Child c s x
  child_of x h = elim (dec_lt x (size c)) [
    | yes l ↦ record { known = l; below_root = eqb-false x 0 (not-true _ (and_l (not (eqb x 0)) _ h)); parent_is = eqb-true _ s (and_r (not (eqb x 0)) _ h) }
    | no l ↦ absurd (omega (arith, unknown_parent c x (omega arith), eqb-true (parent_of c x) s (and_r (not (eqb x 0)) _ h)))
  ]

  pub rest_next : (x : ℕ) → is_child c s x ≡ true → rest c s x ≡ x ∷ rest c s (x + 1)
  unfolding rest
  rest_next x h = keep_next (is_child c s) (below_next refl x (child_of x h).known) h

  pub rest_skip : (x : ℕ) → is_child c s x ≡ false → rest c s x ≡ rest c s (x + 1)
  unfolding rest
  rest_skip x h = elim (dec_lt x (size c)) [
    | yes l ↦ keep_left (is_child c s) (below_next refl x l) h
    | no l ↦ ap (keep (is_child c s)) (below_end refl x (omega arith) ∙ sym (below_end refl (x + 1) (omega arith)))
  ]

  pub rest_end : (x : ℕ) → size c ≤ x → rest c s x ≡ []
  unfolding rest keep
  rest_end x h = ap (keep (is_child c s)) (below_end refl x h)

  pub rest_first : Parents c → (x : ℕ) → x ≤ s + 1 → rest c s x ≡ children c s
  unfolding rest children states
  rest_first tree zero h = refl
  rest_first tree (suc x) h = ap (rest c s) (sym (let z : x + 1 ≡ suc x = omega arith in z)) ∙ sym (rest_skip x (fails (is_child c s x) (λ i. omega (arith, child_above c tree (child_of x i))))) ∙ rest_first tree x (omega arith)

  pub rest_at : (x : ℕ) {r : ℕ} → Mem r (rest c s x) → Child c s r
  unfolding rest
  rest_at x m = child_of _ (keep_at (is_child c s) (drop x (below (size c))) m).1

module _ {items : List ℕ} {count : ℕ} where
  -- equal sets of sums
  pub kept_sums : (xs ys zs ws : List ℕ) → Within zs ws → Within ws zs → Kept items count (sums xs zs ++ ys) → Kept items count (sums xs ws ++ ys)
  kept_sums xs ys zs ws f g k = kept_same _ k (half zs ws f) (half ws zs g)
    where
      half : (zs ws : List ℕ) → Within zs ws → Within (sums xs zs ++ ys) (sums xs ws ++ ys)
      half zs ws f = within_both (sums xs zs) ys (sums xs ws ++ ys) (λ z m. let r = sums_at xs zs m in append_left ys (cast r.4 (sums_by r.2 (f r.1 r.3)))) (within_right (sums xs ws) ys)

-- the sums of a list in two parts
sums_parts : (xs ps qs : List ℕ) → Within (sums xs (ps ++ qs)) (sums xs ps ++ sums xs qs)
sums_parts xs ps qs z m = let r = sums_at xs (ps ++ qs) m in
    ⊎_elim (λ a. append_left (sums xs qs) (cast r.4 (sums_by r.2 a))) (λ b. append_right (sums xs ps) (cast r.4 (sums_by r.2 b))) (append_cases ps {t = qs} r.3)

parts_sums : (xs ps qs : List ℕ) → Within (sums xs ps ++ sums xs qs) (sums xs (ps ++ qs))
parts_sums xs ps qs = within_both (sums xs ps) (sums xs qs) (sums xs (ps ++ qs))
    (λ z m. let r = sums_at xs ps m in cast r.4 (sums_by r.2 (append_left qs r.3))) (λ z m. let r = sums_at xs qs m in cast r.4 (sums_by r.2 (append_right ps r.3)))

kept_parts : {items : List ℕ} {count : ℕ} (xs ys ps qs : List ℕ) → Kept items count (sums xs ps ++ (sums xs qs ++ ys)) → Kept items count (sums xs (ps ++ qs) ++ ys)
kept_parts {items} {count} xs ys ps qs k = kept_same _ (subst (Kept items count) (sym (append_assoc (sums xs ps) (sums xs qs) ys)) k)
    (within_both (sums xs ps ++ sums xs qs) ys (sums xs (ps ++ qs) ++ ys) (λ z m. append_left ys (parts_sums xs ps qs z m)) (within_right (sums xs (ps ++ qs)) ys))
    (within_both (sums xs (ps ++ qs)) ys ((sums xs ps ++ sums xs qs) ++ ys) (λ z m. append_left ys (sums_parts xs ps qs z m)) (within_right (sums xs ps ++ sums xs qs) ys))

-- sums of three
sums_left : (xs ps qs : List ℕ) → Within (sums xs (sums ps qs)) (sums (sums xs ps) qs)
sums_left xs ps qs z m = let r = sums_at xs (sums ps qs) m in let t = sums_at ps qs r.3 in
    cast (let q : z ≡ r.0 + t.0 + t.1 = omega (arith, r.4, t.4) in q) (sums_by (sums_by r.2 t.2) t.3)

sums_right : (xs ps qs : List ℕ) → Within (sums (sums xs ps) qs) (sums xs (sums ps qs))
sums_right xs ps qs z m = let r = sums_at (sums xs ps) qs m in let t = sums_at xs ps r.2 in
    cast (let q : z ≡ t.0 + (t.1 + r.1) = omega (arith, r.4, t.4) in q) (sums_by t.2 (sums_by t.3 r.3))

-- a sequential state: the sums with the choices of the children passed are in the table
pub record Adding (c : Chart) (e s : ℕ) (xs ys items : List ℕ) (count x : ℕ) : Type 0 where
  pub made : List ℕ
  pub kept : Kept items count (sums xs made ++ ys)
  pub within : Within (made ++ concat (choices_of (size c) c e s) (rest c s x)) (choices c e s)
  pub covers : Within (choices c e s) (made ++ concat (choices_of (size c) c e s) (rest c s x))

-- a parallel state: the table has the sums of choices of the children passed
pub record Multiplying (c : Chart) (e s : ℕ) (xs items : List ℕ) (count x : ℕ) : Type 0 where
  pub made : List ℕ
  pub kept : Kept items count made
  pub within : Within (sums made (sums_of (map (choices c e) (rest c s x)))) (sums xs (choices c e s))
  pub covers : Within (sums xs (choices c e s)) (sums made (sums_of (map (choices c e) (rest c s x))))
  pub clear : (r : ℕ) → Mem r (rest c s x) → Clear c r made

module _ (c : Chart) (above kinds marks numbers : List ℕ) (s : ℕ) (C : Choosing c above kinds marks numbers s) where
  passed : Passed c
  passed = (chart_at_lem C.chartered.0 C.chartered.1).0

  ranges : Ranges c
  ranges = (chart_at_lem C.chartered.0 C.chartered.1).1

  tree : Parents c
  tree = passed.tree

  -- by the tables
  pub child_is : (x : ℕ) {b : Bool} → s < x → x < 48 → b ≡ eqb (get_or above x 0) s → is_child c s x ≡ b
  unfolding parent_of
  child_is x l h q = ap (λ (b : Bool). not b && eqb (parent_of c x) s) (ne_eqb x 0 (λ z. omega arith)) ∙ ap (λ (n : ℕ). eqb n s) (sym (C.parent x h)) ∙ sym q

  pub kind_fixed : (x : ℕ) → x < 48 → get_or kinds x 0 ≡ 0 → fixed c x ≡ true
  kind_fixed x h z = sym (fixed_test c kinds C.kind tree x h) ∙ eq-eqb _ 0 z

  pub kind_unfixed : (x : ℕ) → x < 48 → get_or kinds x 0 ≢ 0 → fixed c x ≡ false
  kind_unfixed x h z = sym (fixed_test c kinds C.kind tree x h) ∙ ne_eqb _ 0 z

  pub kind_parallel : (x : ℕ) → x < 48 → fixed c x ≡ false → get_or kinds x 0 ≡ 2 → parallel c x ≡ true
  unfolding parallel
  kind_parallel x h f z = eq-eqb _ 2 (sym (cond_no 0 _ f) ∙ sym (C.kind x h) ∙ z)

  pub kind_other : (x : ℕ) → x < 48 → fixed c x ≡ false → get_or kinds x 0 ≢ 2 → parallel c x ≡ false
  unfolding parallel
  kind_other x h f z = ne_eqb _ 2 (λ q. z (C.kind x h ∙ cond_no 0 _ f ∙ q))

  child : (x : ℕ) → is_child c s x ≡ true → Child c s x
  child x i = child_of c s C.few C.known x i

  pub choosing_child : (x : ℕ) → is_child c s x ≡ true → Choosing c above kinds marks numbers x
  choosing_child x i = record { chartered = C.chartered; few = C.few; parent = C.parent; kind = C.kind; exits = C.exits; number = C.number; known = (child x i).known }

  lower : (xs : List ℕ) (x : ℕ) → Child c s x → Clear c s xs → Clear c x xs
  lower xs x k r = record { clear = λ y m q h z u. r.clear y m q h z (under_transitive c tree s x q h (child_under c tree k) u) }

  pub clear_child : (xs : List ℕ) (x : ℕ) → is_child c s x ≡ true → Clear c s xs → Clear c x xs
  clear_child xs x i r = lower xs x (child x i) r

  -- the state's own automaton
  sequential_is : fixed c s ≡ false → parallel c s ≡ false → Region c s
  sequential_is f p = record { known = C.known; is_sequential = kinds_left c (kinds_of ranges) s C.known (unfixed_composite c tree s f) p }

  pub own_is : (own : ℕ) → fixed c s ≡ false → parallel c s ≡ false → (get_or numbers s 0 < 16 → own ≡ 2 ^ get_or numbers s 0) → own ≡ 2 ^ automaton c s
  own_is own f p g =
      let l = automaton_lt c (sequential_is f p) in
      let n = C.number s l in
      g (omega (arith, n, passed.at_most)) ∙ ap (λ (a : ℕ). 2 ^ a) n

  pub own_apart : (own : ℕ) (xs : List ℕ) → fixed c s ≡ false → parallel c s ≡ false → Clear c s xs → own ≡ 2 ^ automaton c s → (x : ℕ) → Mem x xs → bit_or x own ≡ x + own
  own_apart own xs f p r q x m = rw q (has_ext _ _ (λ i. has_or x (2 ^ automaton c s) i ∙ sym (has_sum x (2 ^ automaton c s) apart i)))
    where
      apart : Apart x (2 ^ automaton c s)
      apart i a b = clash a (ap (has x) (sym (eqb-true (automaton c s) i (sym (has_one (automaton c s) i) ∙ b))) ∙ r.clear x m s C.known (sequential_is f p).is_sequential (under_refl c s))

  module _ (e : ℕ) where
    -- a sequential state
    module _ (xs ys : List ℕ) (f : fixed c s ≡ false) (p : parallel c s ≡ false) where
      none : Within (sums xs [] ++ ys) ys
      none = within_both (sums xs []) ys ys (λ z m. absurd (not-nil (sums_at xs [] m).3)) (λ z m. m)

      pub adding_first : {items : List ℕ} {count : ℕ} → Kept items count ys → Adding c e s xs ys items count (s + 1)
      adding_first k = record {
        made = [];
        kept = kept_same _ k (within_right (sums xs []) ys) none;
        within = λ z m. cast refl (subst (λ (l : List ℕ). Mem z l) whole m);
        covers = λ z m. subst (λ (l : List ℕ). Mem z l) (sym whole) m;
      }
        where
          whole : concat (choices_of (size c) c e s) (rest c s (s + 1)) ≡ choices c e s
          whole = ap (concat (choices_of (size c) c e s)) (rest_first c s C.few C.known tree (s + 1) (omega arith)) ∙ sym (choices_one c tree e s C.known f p)

      pub adding_skip : {items : List ℕ} {count : ℕ} (x : ℕ) → is_child c s x ≡ false → Adding c e s xs ys items count x → Adding c e s xs ys items count (x + 1)
      adding_skip x i r =
          let q = rest_skip c s C.few C.known x i in
          record {
            made = r.made;
            kept = r.kept;
            within = subst (λ (l : List ℕ). Within (r.made ++ concat (choices_of (size c) c e s) l) (choices c e s)) q r.within;
            covers = subst (λ (l : List ℕ). Within (choices c e s) (r.made ++ concat (choices_of (size c) c e s) l)) q r.covers;
          }

      pub adding_more : {items : List ℕ} {count : ℕ} (next : List ℕ) (total x : ℕ) → is_child c s x ≡ true → (r : Adding c e s xs ys items count x) (own : ℕ) → own ≡ 2 ^ automaton c s → Kept next total (sums xs (given own c e x) ++ (sums xs r.made ++ ys)) → Adding c e s xs ys next total (x + 1)
      unfolding concat
      adding_more next total x i r own o k' =
          let k = subst (λ (y : List ℕ). Kept next total (sums xs y ++ (sums xs r.made ++ ys))) (given_own c e s x own o) k' in
          let g = choices_of (size c) c e s in
          let q : concat g (rest c s x) ≡ g x ++ concat g (rest c s (x + 1)) = ap (concat g) (rest_next c s C.few C.known x i) in
          let l = concat g (rest c s (x + 1)) in
          record {
            made = g x ++ r.made;
            kept = kept_parts xs ys (g x) r.made k;
            within = λ z m. r.within z (subst (λ (n : List ℕ). Mem z (r.made ++ n)) (sym q)
                (⊎_elim (λ a. ⊎_elim (λ b. append_right r.made (append_left l b)) (λ b. append_left (g x ++ l) b) (append_cases (g x) {t = r.made} a)) (λ a. append_right r.made (append_right (g x) a)) (append_cases (g x ++ r.made) {t = l} m)));
            covers = λ z m. ⊎_elim (λ a. append_left l (append_right (g x) a)) (λ a. ⊎_elim (λ b. append_left l (append_left r.made b)) (λ b. append_right (g x ++ r.made) b) (append_cases (g x) {t = l} a))
                (append_cases r.made {t = g x ++ l} (subst (λ (n : List ℕ). Mem z (r.made ++ n)) q (r.covers z m)));
          }

      pub adding_all : {items : List ℕ} {count : ℕ} (x : ℕ) → size c ≤ x → Adding c e s xs ys items count x → Kept items count (sums xs (choices c e s) ++ ys)
      unfolding concat
      adding_all x h r =
          let q = ap (concat (choices_of (size c) c e s)) (rest_end c s C.few C.known x h) in
          kept_sums xs ys r.made (choices c e s)
          (λ z m. r.within z (append_left _ m))
          (λ z m. ⊎_elim (λ a. a) (λ b. absurd (not-nil (subst (λ (l : List ℕ). Mem z l) q b))) (append_cases r.made {t = concat (choices_of (size c) c e s) (rest c s x)} (r.covers z m)))
          r.kept

    -- what a state gives that is not fixed
    pub gives_unfixed : {items : List ℕ} {count : ℕ} (xs ys : List ℕ) (own : ℕ) → fixed c s ≡ false → Kept items count (sums xs (choices c e s) ++ ys) → Kept items count (sums xs (given own c e s) ++ ys)
    gives_unfixed xs ys own f k = rw (given_unfixed c e s own f) k

    -- what a fixed state gives, by the exits that it is at
    pub gives_fixed : {items : List ℕ} {count : ℕ} (xs ys : List ℕ) (own : ℕ) → e < 8 → fixed c s ≡ true
        → Kept items count (cond (has (get_or marks s 0) e) (map (λ x. x + own) xs) [] ++ ys) → Kept items count (sums xs (given own c e s) ++ ys)
    gives_fixed {items} {count} xs ys own small f k = ⊎_elim shared unshared (decided (shares c e s))
      where
        at_table : has (get_or marks s 0) e ≡ shares c e s
        at_table = C.exits s e C.known small ∙ ap (λ (b : Bool). b && shares c e s) f

        half : Within (map (λ x. x + own) xs) (sums xs (own ∷ []))
        half z m = let r = map_at (λ x. x + own) xs m in cast r.2 (sums_by r.1 (here refl))

        back : Within (sums xs (own ∷ [])) (map (λ x. x + own) xs)
        back z m = let r = sums_at xs (own ∷ []) m in cast (r.4 ∙ ap (λ (n : ℕ). r.0 + n) (eq_of_singleton r.3)) (map_by (λ x. x + own) r.2)

        shared : shares c e s ≡ true → Kept items count (sums xs (given own c e s) ++ ys)
        shared m = rw (given_shared c e s own f m) (kept_same _ (rw (at_table, m) at k)
            (within_both (map (λ x. x + own) xs) ys (sums xs (own ∷ []) ++ ys) (λ z n. append_left ys (half z n)) (within_right (sums xs (own ∷ [])) ys))
            (within_both (sums xs (own ∷ [])) ys (map (λ x. x + own) xs ++ ys) (λ z n. append_left ys (back z n)) (within_right (map (λ x. x + own) xs) ys)))

        unshared : shares c e s ≡ false → Kept items count (sums xs (given own c e s) ++ ys)
        unshared m = rw (given_unshared c e s own f m) (kept_same _ (rw (at_table, m) at k) (within_right (sums xs []) ys)
            (within_both (sums xs []) ys ys (λ z n. absurd (not-nil (sums_at xs [] n).3)) (λ z n. n)))

    -- sums with the choices of one child are clear of another
    clear_sum : (made : List ℕ) (x t : ℕ) → Child c s x → Child c s t → (t ≡ x → ⊥) → Clear c x made → Clear c t made
        → (y : ℕ) → Mem y (sums made (choices c e x)) → (q : ℕ) → q < size c → sequential c q ≡ true → under c t q ≡ true → has y (automaton c q) ≡ false
    clear_sum made x t k l d f g y n q h w u = fails (has y (automaton c q)) (λ j. ⊎_elim
        (λ a. clash a (g.clear r.0 r.2 q h w u))
        (λ a. let o = from_child.within (automaton c q) a in
        d (children_disjoint c tree q h l k u (subst (λ (v : ℕ). under c x v ≡ true) (automaton_injective c o.1 (record { known = h; is_sequential = w }) o.2) o.3)))
        (or_cases (has r.0 (automaton c q)) (has r.1 (automaton c q)) (sym (has_sum r.0 r.1 apart (automaton c q)) ∙ ap (λ (v : ℕ). has v (automaton c q)) (sym r.4) ∙ j)))
      where
        r : (x' : ℕ) × (y' : ℕ) × Mem x' made × Mem y' (choices c e x) × (y ≡ x' + y')
        r = sums_at made (choices c e x) n

        from_child : Drawn c x r.1
        from_child = drawn c tree (kinds_left c (kinds_of ranges)) e (size c) x r.1 k.known r.3

        apart : Apart r.0 r.1
        apart i a v = let o = from_child.within i v in clash a (ap (has r.0) (sym o.2) ∙ f.clear r.0 r.2 o.0 o.1.known o.1.is_sequential o.3)

    rest_above : (x : ℕ) {r : ℕ} → Mem r (rest c s x) → x ≤ r
    unfolding rest
    rest_above x m = drop_above x (size c) (keep_at (is_child c s) (drop x (below (size c))) m).0

    -- a parallel state
    module _ (xs : List ℕ) (f : fixed c s ≡ false) (p : parallel c s ≡ true) where
      pub multiplying_first : {items : List ℕ} {count : ℕ} → Clear c s xs → Kept items count xs → Multiplying c e s xs items count (s + 1)
      multiplying_first r k = record {
        made = xs;
        kept = k;
        within = subst (λ (l : List ℕ). Within (sums xs l) (sums xs (choices c e s))) (sym whole) (λ z m. m);
        covers = subst (λ (l : List ℕ). Within (sums xs (choices c e s)) (sums xs l)) (sym whole) (λ z m. m);
        clear = λ t m. lower xs t (rest_at c s C.few C.known (s + 1) m) r;
      }
        where
          whole : sums_of (map (choices c e) (rest c s (s + 1))) ≡ choices c e s
          whole = ap (λ (l : List ℕ). sums_of (map (choices c e) l)) (rest_first c s C.few C.known tree (s + 1) (omega arith)) ∙ sym (choices_all c tree e s C.known f p)

      pub multiplying_skip : {items : List ℕ} {count : ℕ} (x : ℕ) → is_child c s x ≡ false → Multiplying c e s xs items count x → Multiplying c e s xs items count (x + 1)
      multiplying_skip x i r =
          let q = rest_skip c s C.few C.known x i in
          record {
            made = r.made;
            kept = r.kept;
            within = subst (λ (l : List ℕ). Within (sums r.made (sums_of (map (choices c e) l))) (sums xs (choices c e s))) q r.within;
            covers = subst (λ (l : List ℕ). Within (sums xs (choices c e s)) (sums r.made (sums_of (map (choices c e) l)))) q r.covers;
            clear = λ t m. r.clear t (subst (λ (l : List ℕ). Mem t l) (sym q) m);
          }

      -- the child that is next is clear of what is made
      pub multiplying_clear : {items : List ℕ} {count : ℕ} (x : ℕ) → is_child c s x ≡ true → (r : Multiplying c e s xs items count x) → Clear c x r.made
      multiplying_clear x i r = r.clear x (subst (λ (l : List ℕ). Mem x l) (sym (rest_next c s C.few C.known x i)) (here refl))

      pub multiplying_more : {items : List ℕ} {count : ℕ} (next : List ℕ) (total x : ℕ) → is_child c s x ≡ true → (r : Multiplying c e s xs items count x) → Kept next total (sums r.made (given 0 c e x) ++ []) → Multiplying c e s xs next total (x + 1)
      unfolding sums_of
      multiplying_more next total x i r k' =
          let k = subst (λ (l : List ℕ). Kept next total (sums r.made l ++ [])) (given_none c tree e x (child x i).known) k' in
          let q = rest_next c s C.few C.known x i in
          let more : List ℕ = sums_of (map (choices c e) (rest c s (x + 1))) in
          let whole : sums_of (map (choices c e) (rest c s x)) ≡ sums (choices c e x) more = ap (λ (l : List ℕ). sums_of (map (choices c e) l)) q in
          record {
            made = sums r.made (choices c e x);
            kept = subst (Kept next total) (append-nil (sums r.made (choices c e x))) k;
            within = λ z m. r.within z (subst (λ (l : List ℕ). Mem z (sums r.made l)) (sym whole) (sums_right r.made (choices c e x) more z m));
            covers = λ z m. sums_left r.made (choices c e x) more z (subst (λ (l : List ℕ). Mem z (sums r.made l)) whole (r.covers z m));
            clear = λ t m. record {
              clear = λ y n v h w u. clear_sum r.made x t (child x i) (rest_at c s C.few C.known (x + 1) m) (λ z. omega (arith, rest_above (x + 1) m))
                  (multiplying_clear x i r) (r.clear t (subst (λ (l : List ℕ). Mem t l) (sym q) (there m))) y n v h w u;
            };
          }

      pub multiplying_all : {items : List ℕ} {count : ℕ} (to ys : List ℕ) (total x : ℕ) → size c ≤ x → (r : Multiplying c e s xs items count x) → Kept to total (map (λ y. y + 0) r.made ++ ys) → Kept to total (sums xs (choices c e s) ++ ys)
      unfolding sums_of
      multiplying_all to ys total x h r k =
          let q : sums_of (map (choices c e) (rest c s x)) ≡ 0 ∷ [] = ap (λ (l : List ℕ). sums_of (map (choices c e) l)) (rest_end c s C.few C.known x h) in
          kept_same _ k
          (within_both (map (λ y. y + 0) r.made) ys (sums xs (choices c e s) ++ ys)
          (λ z m. let t = map_at (λ y. y + 0) r.made m in append_left ys (r.within z (subst (λ (l : List ℕ). Mem z (sums r.made l)) (sym q) (cast t.2 (sums_by t.1 (here refl)))))) (within_right (sums xs (choices c e s)) ys))
          (within_both (sums xs (choices c e s)) ys (map (λ y. y + 0) r.made ++ ys)
          (λ z m. let t = sums_at r.made (0 ∷ []) (subst (λ (l : List ℕ). Mem z (sums r.made l)) q (r.covers z m)) in
          append_left ys (cast (t.4 ∙ ap (λ (n : ℕ). t.0 + n) (eq_of_singleton t.3)) (map_by (λ y. y + 0) t.2))) (within_right (map (λ y. y + 0) r.made) ys))

-- a set joined with none
pub or_none : (y : ℕ) → bit_or y 0 ≡ y + 0
or_none y = has_ext _ _ (λ i. has_or y 0 i ∙ sym (has_sum y 0 (λ j a b. clash b (has_zero j)) i))

-- to begin with: the set of no automaton alone
pub kept_empty : Kept (replicate 1024 0) 1 (0 ∷ [])
unfolding sorted insert
kept_empty = kept_few (length-replicate {A = ℕ} 1024 0) refl (omega arith) refl

pub clear_empty : (c : Chart) (s : ℕ) → Clear c s (0 ∷ [])
clear_empty c s = record { clear = λ x m q h z u. ap (λ (n : ℕ). has n (automaton c q)) (eq_of_singleton m) ∙ has_zero (automaton c q) }

kept_alone : {items : List ℕ} {count : ℕ} (ys : List ℕ) → Kept items count (sums (0 ∷ []) ys ++ []) → Kept items count ys
kept_alone {items} {count} ys k = kept_same _ (subst (Kept items count) (append-nil (sums (0 ∷ []) ys)) k)
    (λ z m. let r = sums_at (0 ∷ []) ys m in cast (let q : z ≡ r.1 = omega (arith, r.4, eq_of_singleton r.2) in q) r.3)
    (λ z m. cast (let q : z ≡ 0 + z = omega arith in q) (sums_by (here refl) m))

-- what a state gives with no set of its own: the choices from it down
pub kept_given : (c : Chart) (above kinds marks numbers : List ℕ) (s : ℕ) (C : Choosing c above kinds marks numbers s) (e : ℕ) {items : List ℕ} {count : ℕ}
    → Kept items count (sums (0 ∷ []) (given 0 c e s) ++ []) → Kept items count (choices c e s)
kept_given c above kinds marks numbers s C e {items} {count} k =
    subst (Kept items count) (given_none c (tree c above kinds marks numbers s C) e s C.known) (kept_alone (given 0 c e s) k)

pub choosing_of : (c : Chart) (t : Tree) (f : Fixed) (a : Automata) (m : ℕ) → Chartered c → Tabled c t → FixedIn c f → Automated c a → m < length c.states → Choosing c t.parents f.kinds f.exits a.numbers m
choosing_of c t f a m h T F A l = record { chartered = h; few = T.few; parent = T.parent; kind = F.kind; exits = F.exits; number = A.number; known = l }
