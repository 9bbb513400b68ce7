-- Laws of tables of ascending sets: one more is put in, and another order of the same sets makes no difference.
use mathlib.Core.Path.{◌≡◌, refl, sym, ap, ◌∙◌, subst}
use mathlib.Core.Bool.{Bool, true, false, cond}
use mathlib.Core.Logic.{◌⊎◌, inr, ⊎_elim, ◌≢◌}
use mathlib.Core.List.Memᴰ.{head as here}
use mathlib.Core.List.Memᴰ.{tail as there}
use mathlib.Core.List.{List, [], ◌∷◌, ◌++◌, map, append_assoc, map-append, Memᴰ as Mem}
use mathlib.Core.List.Memᴰ.{append_left}
use mathlib.Core.List.Memᴰ.{append_right}
use mathlib.Core.List.Memᴰ.{cases_cons}
use mathlib.Core.List.Memᴰ.{append_cases}
use mathlib.Core.List.Memᴰ.{eq_of_singleton}
use Prim.Native.Nat.{ℕ, zero, suc, ◌+◌, ◌-◌, ◌*◌, ◌^◌, ◌%◌, ◌≤◌, ◌<◌, min}
use native.Mathlib.Omega.{arith}
use native.Mathlib.Decide.{dec_lt}
use native.Mathlib.Nat.{min-eq_left, min-eq_right, one-mul, mod-eq_of_lt}
use native.Mathlib.Numerals.{add-one}
use borrow.Author.Tests.{eqb-true, ne_eqb, lt-ltb, le-ltb}
use lib.ListN.{length, get_or, set, take, drop, length-append, length-drop, length-set, length-map, drop_of_length-le}
use lib.Bits.{bit_or}
use lib.Seq.{take-suc, take-suc-set, take-set-lt, drop-set-lt, take-take, get_or-take, length-take-le, take_all}
use Rattle.lists.specs.Lists.{has, ascending}
use Rattle.lists.proofs.Ascending.{ascending_tail, ascending_above, ascending_once, ascending_same}
use Rattle.lists.proofs.Lists.{get_d_mem}
use Rattle.lists.proofs.Within.{Within, within_both, within_map}
use Rattle.lists.proofs.Parts.{taken_next}
use Rattle.lists.proofs.Once.{within_length}
use Rattle.lists.proofs.Pairwise.{map_once}
use Rattle.lists.proofs.Bits.{has_one, has_low_lt}
use Rattle.flattening.specs.Flatten.{insert, sorted}
use Rattle.flattening.proofs.Sums.{insert_by, sorted_by, sorted_at, sorted_ascending}
use Rattle.flatten_alternatives.specs.Choosing.{Kept, Splits}

-- one element inserted where it is not the first, by its order to that
module _ (x y : ℕ) (ys : List ℕ) where
  insert_less : x < y → insert x (y ∷ ys) ≡ x ∷ y ∷ ys
  unfolding insert
  insert_less h = rw (ne_eqb x y (λ e. omega arith), insert) (rw (lt-ltb x y h))

  insert_more : y < x → insert x (y ∷ ys) ≡ y ∷ insert x ys
  unfolding insert
  insert_more h = rw (ne_eqb x y (λ e. omega arith), insert) (rw (le-ltb x y (omega arith)))

-- between what is smaller and what is larger
insert_at : (x : ℕ) (l : List ℕ) (i : ℕ) → i ≤ length l → ((k : ℕ) → k < i → get_or l k 0 < x) → ((k : ℕ) → i ≤ k → k < length l → x < get_or l k 0) → insert x l ≡ take i l ++ (x ∷ drop i l)
unfolding insert
insert_at x [] zero h f g = refl
insert_at x (y ∷ ys) zero h f g = insert_less x y ys (g 0 (omega arith) (omega arith))
insert_at x [] (suc i) h f g = absurd (omega arith)
insert_at x (y ∷ ys) (suc i) h f g =
    insert_more x y ys (f 0 (omega arith)) ∙ ap (λ (r : List ℕ). y ∷ r) (insert_at x ys i (omega arith) (λ k l. f (suc k) (omega arith)) (λ k l m. g (suc k) (omega arith) (omega arith)))

-- ascending numbers rise
rising : (l : List ℕ) → ascending l ≡ true → (i j : ℕ) → i ≤ j → j < length l → get_or l i 0 ≤ get_or l j 0
rising [] h i j p q = absurd (omega arith)
rising (x ∷ xs) h zero zero p q = omega arith
rising (x ∷ xs) h zero (suc j) p q = omega (arith, ascending_above x xs h (get_d_mem xs j 0 (omega arith)))
rising (x ∷ xs) h (suc i) zero p q = absurd (omega arith)
rising (x ∷ xs) h (suc i) (suc j) p q = rising xs (ascending_tail x xs h) i j (omega arith) (omega arith)

-- the element before the next place
pub before_next : (l : List ℕ) (k x : ℕ) → get_or l k 0 < x → get_or l (k + 1 - 1) 0 < x
before_next l k x h = subst (λ (j : ℕ). get_or l j 0 < x) (let z : k ≡ k + 1 - 1 = omega arith in z) h

-- lists with the same elements are sorted alike, and one with more is no shorter
pub sorted_same : (xs ys : List ℕ) → Within xs ys → Within ys xs → sorted xs ≡ sorted ys
sorted_same xs ys f g = ascending_same (sorted xs) (sorted ys) (sorted_ascending xs) (sorted_ascending ys) (λ z m. sorted_by ys (f z (sorted_at xs m))) (λ z m. sorted_by xs (g z (sorted_at ys m)))

-- a table that has room, or not
module _ {items : List ℕ} {count : ℕ} {xs : List ℕ} where
  pub kept_few : length items ≡ 1024 → count ≡ length (sorted xs) → count ≤ 1024 → take count items ≡ sorted xs → Kept items count xs
  kept_few n e h t = record { long = n; counted = e ∙ sym (min-eq_left (let z : length (sorted xs) ≤ 1025 = omega arith in z)); stand = λ k. subst (λ (n : ℕ). take n items ≡ sorted xs) e t }

  pub kept_many : length items ≡ 1024 → count ≡ 1025 → 1024 < length (sorted xs) → Kept items count xs
  kept_many n e h = record { long = n; counted = e ∙ sym (min-eq_right (let z : 1025 ≤ length (sorted xs) = omega arith in z)); stand = λ k. absurd (omega arith) }

  pub kept_at : Kept items count xs → count ≤ 1024 → (count ≡ length (sorted xs)) × (take count items ≡ sorted xs)
  kept_at k h = elim (dec_lt (length (sorted xs)) 1025) [
    | yes l ↦ let e = k.counted ∙ min-eq_left (let z : length (sorted xs) ≤ 1025 = omega arith in z) in (e, subst (λ (n : ℕ). take n items ≡ sorted xs) (sym e) (k.stand (omega arith)))
    | no l ↦ absurd (omega (arith, k.counted ∙ min-eq_right (let z : 1025 ≤ length (sorted xs) = omega arith in z)))
  ]

  pub kept_over : Kept items count xs → 1024 < count → (count ≡ 1025) × (1024 < length (sorted xs))
  kept_over k h = elim (dec_lt (length (sorted xs)) 1025) [
    | yes l ↦ absurd (omega (arith, k.counted ∙ min-eq_left (let z : length (sorted xs) ≤ 1025 = omega arith in z)))
    | no l ↦ (k.counted ∙ min-eq_right (let z : 1025 ≤ length (sorted xs) = omega arith in z), omega arith)
  ]

  pub kept_same : (ys : List ℕ) → Kept items count xs → Within xs ys → Within ys xs → Kept items count ys
  kept_same ys k f g = let e = sorted_same xs ys f g in
      record { long = k.long; counted = k.counted ∙ ap (λ (l : List ℕ). min (length l) 1025) e; stand = subst (λ (l : List ℕ). length l ≤ 1024 → take (length l) items ≡ l) e k.stand }

pub kept_none : (items : List ℕ) → length items ≡ 1024 → Kept items 0 []
unfolding sorted
kept_none items n = record { long = n; counted = refl; stand = λ h. refl }

insert_within : (x : ℕ) (xs : List ℕ) → length (sorted xs) ≤ length (sorted (x ∷ xs))
unfolding sorted
insert_within x xs = within_length (sorted xs) (insert x (sorted xs)) (ascending_once _ (sorted_ascending xs)) (λ z m. insert_by x (sorted xs) (inr m))

-- a number on its way up through a table, from the place i to the place j
pub record Carried (x : ℕ) (before items : List ℕ) (count i j value : ℕ) : Type 0 where
  pub long : length items ≡ length before
  pub so_far : take j items ++ (value ∷ drop j (take count items)) ≡ take i before ++ (x ∷ drop i (take count before))

module _ (x : ℕ) (before : List ℕ) (count i : ℕ) (room : count < length before) (in_front : i ≤ count) where
  pub carried_first : Carried x before before count i i x
  carried_first = record { long = refl; so_far = refl }

  module _ (items : List ℕ) (j value : ℕ) (w : Carried x before items count i j value) where
    pub carried_next : j < count → Carried x before (set items j value) count i (j + 1) (get_or items j 0)
    carried_next h =
        let taken : take (j + 1) (set items j value) ≡ take j items ++ (value ∷ []) = rw add-one (take-suc-set items j value (omega (arith, w.long))) in
        let rest : drop (j + 1) (take count (set items j value)) ≡ drop (j + 1) (take count items) =
        ap (drop (j + 1)) (take-set-lt count items j value h) ∙ drop-set-lt (j + 1) (take count items) j value (omega arith) in
        record {
          long = length-set items j value ∙ w.long;
          so_far = rw (taken, rest, append_assoc (take j items) (value ∷ []) (get_or items j 0 ∷ drop (j + 1) (take count items)))
              (ap (λ (r : List ℕ). take j items ++ (value ∷ r)) (sym (taken_next items count (omega (arith, w.long)) j 0 h)) ∙ w.so_far);
        }

    pub carried_last : j ≡ count → take (count + 1) (set items count value) ≡ take i before ++ (x ∷ drop i (take count before))
    carried_last e =
        rw add-one (take-suc-set items count value (omega (arith, w.long)))
        ∙ ap (λ (r : List ℕ). take count items ++ (value ∷ r)) (sym (drop_of_length-le (take count items) (omega (arith, length-take-le count items (omega (arith, w.long))))))
        ∙ ap (λ (n : ℕ). take n items ++ (value ∷ drop n (take count items))) (sym e)
        ∙ w.so_far

-- the table with one more, by the place where it stands or would stand
module _ (x : ℕ) (xs items : List ℕ) (count : ℕ) where
  pub kept_still : Kept items count xs → 1024 < count → Kept items count (x ∷ xs)
  kept_still k h = let o = kept_over k h in kept_many k.long o.0 (omega (arith, o.1, insert_within x xs))

  module _ (room : count ≤ 1024) (k : Kept items count xs) where
    stand : take count items ≡ sorted xs
    stand = (kept_at k room).1

    long : length (take count items) ≡ count
    long = length-take-le count items (omega (arith, k.long))

    rise : (i j : ℕ) → i ≤ j → j < length (take count items) → get_or (take count items) i 0 ≤ get_or (take count items) j 0
    rise = rising (take count items) (subst (λ (l : List ℕ). ascending l ≡ true) (sym stand) (sorted_ascending xs))

    -- a place by the number before it and the number there
    pub splits_at : (i : ℕ) → i ≤ count → (i ≡ 0) ⊎ (get_or items (i - 1) 0 < x) → (i ≡ count) ⊎ (x ≤ get_or items i 0) → Splits x (take count items) i
    splits_at i h p q = record {
      fits = omega (arith, long);
      before = λ j l. ⊎_elim
          (λ e. absurd (omega arith))
          (λ less. omega (arith, less, rise j (i - 1) (omega arith) (omega (arith, long)), (let z : get_or (take count items) (i - 1) 0 ≡ get_or items (i - 1) 0 = get_or-take count items (i - 1) 0 (omega arith) in z)))
          p;
      from = λ j l m. ⊎_elim
          (λ e. absurd (omega (arith, long)))
          (λ less. omega (arith, less, rise i j l m, (let z : get_or (take count items) i 0 ≡ get_or items i 0 = get_or-take count items i 0 (omega (arith, long)) in z)))
          q;
    }

    module _ (i : ℕ) (s : Splits x (take count items) i) where
      pub kept_found : i < count → get_or items i 0 ≡ x → Kept items count (x ∷ xs)
      kept_found h e =
          let at : get_or (take count items) i 0 ≡ x = get_or-take count items i 0 h ∙ e in
          let m : Mem x xs = sorted_at xs (subst (λ (l : List ℕ). Mem x l) stand (subst (λ (y : ℕ). Mem y (take count items)) at (get_d_mem (take count items) i 0 (omega (arith, long))))) in
          kept_same (x ∷ xs) k (λ z n. there n) (λ z n. ⊎_elim (λ e. subst (λ (y : ℕ). Mem y xs) (sym e) m) (λ n. n) (cases_cons n))

      module _ (apart : i < count → get_or items i 0 ≡ x → ⊥) where
        above : (j : ℕ) → i ≤ j → j < length (take count items) → x < get_or (take count items) j 0
        above j l m =
            let here : get_or (take count items) i 0 ≡ get_or items i 0 = get_or-take count items i 0 (omega (arith, long)) in
            let less : get_or (take count items) i 0 ≢ x = λ e. apart (omega (arith, long)) (sym here ∙ e) in
            omega (arith, s.from i (omega arith) (omega arith), rise i j l m, less)

        inserted : sorted (x ∷ xs) ≡ take i (take count items) ++ (x ∷ drop i (take count items))
        unfolding sorted
        inserted = ap (insert x) (sym stand) ∙ insert_at x (take count items) i s.fits s.before above

        longer : length (sorted (x ∷ xs)) ≡ count + 1
        longer = ap length inserted ∙ omega (arith, s.fits, length-append (take i (take count items)) (x ∷ drop i (take count items)), length-take-le i (take count items) s.fits, length-drop i (take count items), long)

        pub kept_full : count ≡ 1024 → Kept items 1025 (x ∷ xs)
        kept_full e = kept_many k.long refl (omega (arith, longer))

        pub kept_more : (after : List ℕ) → length after ≡ 1024 → (count ≡ 1024 → ⊥) → take (count + 1) after ≡ take i items ++ (x ∷ drop i (take count items)) → Kept after (count + 1) (x ∷ xs)
        kept_more after n h e = kept_few n (sym longer) (omega arith)
            (e ∙ ap (λ (l : List ℕ). l ++ (x ∷ drop i (take count items))) (sym (take-take i count items (omega (arith, s.fits, long)))) ∙ sym inserted)

-- an element in front, and at the end of the first part
module _ (ps qs : List ℕ) where
  to_end : (v : ℕ) → Within (v ∷ (ps ++ qs)) ((ps ++ (v ∷ [])) ++ qs)
  to_end v z m =
      let others = within_both ps qs ((ps ++ (v ∷ [])) ++ qs) (λ y a. append_left qs (append_left (v ∷ []) a)) (λ y b. append_right (ps ++ (v ∷ [])) b) in
      ⊎_elim (λ e. append_left qs (append_right ps (here e))) (λ n. others z n) (cases_cons {l = ps ++ qs} m)

  from_end : (v : ℕ) → Within ((ps ++ (v ∷ [])) ++ qs) (v ∷ (ps ++ qs))
  from_end v z m = ⊎_elim (λ a. ⊎_elim (λ b. there (append_left qs b)) (λ b. here (eq_of_singleton b)) (append_cases ps {t = v ∷ []} a)) (λ b. there (append_right ps b)) (append_cases (ps ++ (v ∷ [])) {t = qs} m)

-- the table with each set of another, joined with one
module _ (from : List ℕ) (size set : ℕ) (xs ys : List ℕ) (source : Kept from size xs) where
  abbrev shifted : List ℕ → List ℕ
  shifted l = map (λ x. x + set) l

  abbrev pub joined_to : ℕ → List ℕ
  joined_to i = map (λ x. x + set) (take i (sorted xs)) ++ ys

  pub each_over : (to : List ℕ) {count : ℕ} → Kept to count ys → 1024 < size → Kept to 1025 (map (λ x. x + set) xs ++ ys)
  each_over to k h = kept_many k.long refl (omega (
    arith,
    (kept_over source h).1,
    length-map (sorted xs) (λ x. x + set),
    within_length (shifted (sorted xs)) (sorted (shifted xs ++ ys)) (map_once (λ x. x + set) (sorted xs) (λ x y e. omega arith) (ascending_once _ (sorted_ascending xs)))
        (λ z m. sorted_by (shifted xs ++ ys) (append_left ys (within_map (λ x. x + set) (sorted xs) xs (λ y. sorted_at xs) z m))),
  ))

  module _ (room : size ≤ 1024) (apart : (x : ℕ) → Mem x xs → bit_or x set ≡ x + set) where
    pub each_next : (to : List ℕ) (total i : ℕ) → i < length (take size from) → Kept to total (bit_or (get_or (take size from) i 0) set ∷ joined_to i) → Kept to total (joined_to (i + 1))
    each_next to total i h k =
        let t = kept_at source room in
        let w : ℕ = get_or (sorted xs) i 0 + set in
        let l : i < length (sorted xs) = subst (λ (l : List ℕ). i < length l) t.1 h in
        let one : bit_or (get_or (take size from) i 0) set ≡ w = ap (λ (l : List ℕ). bit_or (get_or l i 0) set) t.1 ∙ apart _ (sorted_at xs (get_d_mem (sorted xs) i 0 l)) in
        let more : shifted (take (i + 1) (sorted xs)) ≡ shifted (take i (sorted xs)) ++ (w ∷ []) = rw (add-one, take-suc (sorted xs) i 0 l, map-append (λ x. x + set) (take i (sorted xs)) (get_or (sorted xs) i 0 ∷ [])) in
        subst (λ (l : List ℕ). Kept to total (l ++ ys)) (sym more) (kept_same _ (subst (λ (v : ℕ). Kept to total (v ∷ joined_to i)) one k)
        (to_end (shifted (take i (sorted xs))) ys w) (from_end (shifted (take i (sorted xs))) ys w))

  pub each_last : (to : List ℕ) (total i : ℕ) → size ≤ 1024 → length (take size from) ≤ i → Kept to total (joined_to i) → Kept to total (map (λ x. x + set) xs ++ ys)
  each_last to total i room h k =
      let all : take i (sorted xs) ≡ sorted xs = take_all i (sorted xs) (subst (λ (l : List ℕ). length l ≤ i) (kept_at source room).1 h) in
      let half : (ps qs : List ℕ) → Within ps qs → Within (shifted ps ++ ys) (shifted qs ++ ys) =
      λ ps qs f. within_both (shifted ps) ys (shifted qs ++ ys) (λ z m. append_left ys (within_map (λ x. x + set) ps qs f z m)) (λ z m. append_right (shifted qs) m) in
      kept_same _ (subst (λ (l : List ℕ). Kept to total (shifted l ++ ys)) all k) (half (sorted xs) xs (λ z. sorted_at xs)) (half xs (sorted xs) (λ z. sorted_by xs))

-- what a marked state adds
module _ {items : List ℕ} {count : ℕ} (n e own : ℕ) (xs ys : List ℕ) {m : ℕ} {b : Bool} (is : b ≡ has m e) (at : m ≡ n) where
  pub kept_if : b ≡ true → Kept items count (map (λ x. x + own) xs ++ ys) → Kept items count (cond (has n e) (map (λ x. x + own) xs) [] ++ ys)
  kept_if h k = let q : has n e ≡ true = rw (sym at) (sym is ∙ h) in rw q k

  pub kept_unless : b ≡ false → Kept items count ys → Kept items count (cond (has n e) (map (λ x. x + own) xs) [] ++ ys)
  kept_unless h k = let q : has n e ≡ false = rw (sym at) (sym is ∙ h) in rw q k

-- the set of one automaton
pub one_set : (a : ℕ) {b : ℕ} → b ≡ a → b < 16 → 1 * 2 ^ b % 65536 ≡ 2 ^ a
one_set a e h = rw (sym e) (ap (λ (n : ℕ). n % 65536) (one-mul (2 ^ _)) ∙ mod-eq_of_lt (has_low_lt 16 (2 ^ _) (λ i j. omega (arith, eqb-true _ i (sym (has_one _ i) ∙ j)))))
