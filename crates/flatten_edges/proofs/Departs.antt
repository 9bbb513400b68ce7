-- Laws of the transitions from a state, and of the edges that bear them.
use mathlib.Core.Path.{◌≡◌, refl, sym, ap, ◌∙◌, subst}
use mathlib.Core.Bool.{Bool, true, false, cond}
use mathlib.Core.Logic.{◌≢◌}
use mathlib.Core.List.{List, [], ◌∷◌, ◌++◌, append-nil, Memᴰ as Mem}
use Prim.Native.Nat.{ℕ, zero, suc, ◌+◌, ◌-◌, ◌≤◌, ◌<◌}
use native.Mathlib.Omega.{arith}
use native.Mathlib.Decide.{dec_lt}
use native.Mathlib.Numerals.{add-one}
use borrow.Author.Tests.{eqb-true}
use lib.Dec.{eqb}
use lib.ListN.{length, get_or, take, set, length-append}
use lib.Seq.{take_all, take-suc, take-suc-set, take-set-le, get_or-take}
use Rattle.lists.specs.Lists.{concat, keep, below}
use Rattle.lists.proofs.Bools.{fails, cond_yes, cond_no}
use Rattle.lists.proofs.Lists.{keep_at, keep_append, keep_keep, keep_none, get_d_mem, mem_get_d}
use Rattle.lists.proofs.Concat.{concat_append, concat_kept}
use Rattle.lists.proofs.Below.{below_at, length_below, get_d_below}
use Rattle.chart_records.specs.Chart.{Chart, transition_at}
use Rattle.network_records.specs.Network.{Edge}
use Rattle.flattening.specs.Flatten.{Place, idle, same_place, transitions, all_places, number, bearing, departure, bearing_all}
use Rattle.flattening.proofs.Numbers.{IsPlace, all_places_at, same_place_at, same_place_by, number_injective, number_of_place}
use Rattle.flattening.proofs.Arrivals.{departure_place}
use Rattle.flatten_places.specs.Walking.{Tabulated}
use Rattle.flatten_places.specs.declared.walk.Tables.{Tables}
use Rattle.flatten_places.proofs.Chartered.{passed_of, ranges_of}
use Rattle.flatten_edges.specs.Adding.{Adds}
use Rattle.flatten_edges.specs.Sourcing.{from_state, Sourced, Least}
use Rattle.flatten_edges.proofs.Gathers.{adds_skip, walk_none, walk_more, walk_all, walk_past}

keep_one : {A : Type 0} (p : A → Bool) (x : A) → keep p (x ∷ []) ≡ cond (p x) (x ∷ []) []
unfolding keep
keep_one p x = refl

-- the first of the numbers below n that pass a test stand in a table
module _ (p : ℕ → Bool) (n : ℕ) where
  keep_step : (t : ℕ) → t < n → keep p (take (t + 1) (below n)) ≡ keep p (take t (below n)) ++ cond (p t) (t ∷ []) []
  keep_step t h =
      ap (λ (i : ℕ). keep p (take i (below n))) (add-one t) ∙ ap (keep p) (take-suc (below n) t 0 (omega (arith, length_below n))) ∙ keep_append p (take t (below n)) (get_or (below n) t 0 ∷ [])
      ∙ ap (λ (l : List ℕ). keep p (take t (below n)) ++ l) (keep_one p (get_or (below n) t 0) ∙ ap (λ (i : ℕ). cond (p i) (i ∷ []) []) (get_d_below n t 0 h))

  pub record Kept (items : List ℕ) (k t : ℕ) : Type 0 where
    pub counted : k ≡ length (keep p (take t (below n)))
    pub stand : take k items ≡ keep p (take t (below n))

  pub kept_none : (items : List ℕ) → Kept items 0 0
  unfolding keep
  kept_none items = record { counted = refl; stand = refl }

  pub kept_yes : (items : List ℕ) (k t : ℕ) → Kept items k t → k < length items → t < n → p t ≡ true → Kept (set items k t) (k + 1) (t + 1)
  kept_yes items k t K l h e =
      let more : keep p (take (t + 1) (below n)) ≡ keep p (take t (below n)) ++ (t ∷ []) = keep_step t h ∙ ap (λ (b : Bool). keep p (take t (below n)) ++ cond b (t ∷ []) []) e in
      record {
        counted = omega (arith, K.counted, ap length more, length-append (keep p (take t (below n))) (t ∷ []));
        stand = ap (λ (i : ℕ). take i (set items k t)) (add-one k) ∙ take-suc-set items k t l ∙ ap (λ (x : List ℕ). x ++ (t ∷ [])) K.stand ∙ sym more;
      }

  pub kept_no : (items : List ℕ) (k t : ℕ) → Kept items k t → t < n → p t ≡ false → Kept (set items k t) k (t + 1)
  kept_no items k t K h e =
      let less : keep p (take (t + 1) (below n)) ≡ keep p (take t (below n)) = keep_step t h ∙ ap (λ (b : Bool). keep p (take t (below n)) ++ cond b (t ∷ []) []) e ∙ append-nil (keep p (take t (below n))) in
      record { counted = K.counted ∙ sym (ap length less); stand = take-set-le k items k t (omega arith) ∙ K.stand ∙ sym less }

  pub kept_all : (items : List ℕ) (k t : ℕ) → Kept items k t → n ≤ t → (k ≡ length (keep p (below n))) × (take k items ≡ keep p (below n))
  kept_all items k t K h = let whole = ap (keep p) (take_all t (below n) (omega (arith, length_below n))) in (K.counted ∙ ap length whole, K.stand ∙ whole)

-- the transitions from s among the first t
abbrev pub comes_from : Chart → ℕ → ℕ → Bool
comes_from c s t = eqb (transition_at c t).source s

pub sourced_all : (c : Chart) (s : ℕ) (items : List ℕ) (k t : ℕ) → Kept (comes_from c s) (length c.transitions) items k t → length c.transitions ≤ t → Sourced c s items k
unfolding from_state transitions
sourced_all c s items k t K h = let w = kept_all _ _ items k t K h in record { counted = w.0; stand = w.1 }

-- a transition that comes from s
module _ (c : Chart) (t : Tables) (T : Tabulated c t) (s : ℕ) (items : List ℕ) (size : ℕ) (S : Sourced c s items size) where
  pub from_at : {u : ℕ} → Mem u (from_state c s) → (u < length c.transitions) × ((transition_at c u).source ≡ s)
  unfolding from_state transitions
  from_at {u} m = let k = keep_at _ (below (length c.transitions)) m in (below_at _ k.0, eqb-true (transition_at c u).source s k.1)

  pub item_at : (k : ℕ) → k < size → get_or items k 0 ≡ get_or (from_state c s) k 0
  item_at k h = sym (get_or-take size items k 0 h) ∙ ap (λ (l : List ℕ). get_or l k 0) S.stand

  pub item_mem : (k : ℕ) → k < size → Mem (get_or (from_state c s) k 0) (from_state c s)
  item_mem k h = get_d_mem (from_state c s) k 0 (omega (arith, S.counted))

  pub item_from : (k : ℕ) {u : ℕ} → k < size → u ≡ get_or items k 0 → (u < length c.transitions) × ((transition_at c u).source ≡ s)
  item_from k h e = from_at (subst (λ (y : ℕ). Mem y (from_state c s)) (sym (e ∙ item_at k h)) (item_mem k h))

  departs : {u : ℕ} → Mem u (from_state c s) → IsPlace c (departure c u)
  departs m = (departure_place c (passed_of T.chart) (ranges_of T.chart) _ (from_at m).0).is_place

  -- those that depart to q, by its number
  pub departs_yes : {u j : ℕ} (q : Place) → Mem u (from_state c s) → Mem q (all_places c) → j ≡ number c q → get_or t.departures u 0 ≡ j → same_place (departure c u) q ≡ true
  departs_yes {u} q m n f e = subst (λ (x : Place). same_place (departure c u) x ≡ true) (number_injective c (departs m) (all_places_at c n) (sym (T.departures u (from_at m).0) ∙ e ∙ f)) (same_place_by (departure c u))

  pub departs_no : {u j : ℕ} (q : Place) → Mem u (from_state c s) → j ≡ number c q → get_or t.departures u 0 ≢ j → same_place (departure c u) q ≡ false
  departs_no {u} q m f d = fails _ (λ e. d (T.departures u (from_at m).0 ∙ ap (number c) (same_place_at (departure c u) q e) ∙ sym f))

  -- the edges to a place
  abbrev pub to_edges : Place → ℕ → List Edge
  to_edges q u = cond (same_place (departure c u) q) (bearing c q u) []

  bearing_all_from : (q : Place) → concat (to_edges q) (from_state c s) ≡ bearing_all c s q
  unfolding from_state bearing_all
  bearing_all_from q = concat_kept (λ u. same_place (departure c u) q) (bearing c q) (keep (comes_from c s) (transitions c)) ∙ ap (concat (bearing c q)) (keep_keep (comes_from c s) (λ u. same_place (departure c u) q) (transitions c))

  pub to_all : (q : Place) (k : ℕ) {b l : List ℕ} {n m : ℕ} → Adds b n l m (concat (to_edges q) (take k (from_state c s))) → size ≤ k → Adds b n l m (bearing_all c s q)
  to_all q k {b} {l} {n} {m} W h = subst (Adds b n l m) (bearing_all_from q) (walk_all (to_edges q) (from_state c s) k W (omega (arith, S.counted)))

  pub to_skip : (q : Place) (k j u d : ℕ) {b l : List ℕ} {n m : ℕ} → Adds b n l m (concat (to_edges q) (take k (from_state c s)))
      → k < size → u ≡ get_or items k 0 → d ≡ get_or t.departures u 0 → j ≡ number c q → (d ≡ j → ⊥) → Adds b n l m (concat (to_edges q) (take (k + 1) (from_state c s)))
  to_skip q k j u d W h e g f z =
      let x = e ∙ item_at k h in
      walk_more (to_edges q) (from_state c s) k 0 W (omega (arith, S.counted)) (adds_skip _ _ (cond_no _ _ (departs_no q (item_mem k h) f (λ y. z (g ∙ ap (λ (i : ℕ). get_or t.departures i 0) x ∙ y)))))

  pub to_more : (q : Place) (k j u d : ℕ) {b l g : List ℕ} {n m i : ℕ} → Adds b n l m (concat (to_edges q) (take k (from_state c s))) → k < size → u ≡ get_or items k 0 → d ≡ get_or t.departures u 0 → j ≡ number c q → Mem q (all_places c) → d ≡ j
      → Adds l m g i (bearing c q u) → Adds b n g i (concat (to_edges q) (take (k + 1) (from_state c s)))
  to_more q k j u d {l = l} {g = g} {m = m} {i = i} W h e a f r z A =
      let x = e ∙ item_at k h in
      let p = subst (λ (y : ℕ). Mem y (from_state c s)) (sym x) (item_mem k h) in
      let new : Adds l m g i (to_edges q u) = subst (Adds l m g i) (sym (cond_yes _ _ (departs_yes q p r f (sym a ∙ z)))) A in
      walk_more (to_edges q) (from_state c s) k 0 W (omega (arith, S.counted)) (subst (λ (y : ℕ). Adds l m g i (to_edges q y)) x new)

  -- a place where none departs to has no edges
  none_to : (from least k : ℕ) → Least t.departures items size from least → from ≤ k → k < least → k < length (all_places c) → bearing_all c s (get_or (all_places c) k (idle 0)) ≡ []
  unfolding concat
  none_to from least k L a b h = sym (bearing_all_from q)
      ∙ concat_kept (λ u. same_place (departure c u) q) (bearing c q) (from_state c s)
      ∙ ap (concat (bearing c q)) (keep_none (λ u. same_place (departure c u) q) (from_state c s) (λ u m. departs_no q m (sym (number_of_place c (idle 0) k h)) (other m)))
    where
      q : Place
      q = get_or (all_places c) k (idle 0)

      other : {u : ℕ} → Mem u (from_state c s) → get_or t.departures u 0 ≢ k
      other {u} m e =
          let w = mem_get_d 0 m in
          let small : w.0 < size = omega (arith, S.counted, w.1) in
          let x : get_or t.departures (get_or items w.0 0) 0 ≡ k = ap (λ (i : ℕ). get_or t.departures i 0) (item_at w.0 small ∙ w.2) ∙ e in
          omega (arith, x, L.none w.0 small (omega (arith, x)))

  -- so those up to the next departure have none
  pub skip_to : (from least : ℕ) → Least t.departures items size from least → concat (bearing_all c s) (take least (all_places c)) ≡ concat (bearing_all c s) (take from (all_places c))
  skip_to from least L = ap (λ (i : ℕ). concat (bearing_all c s) (take i (all_places c))) (let z : least ≡ from + (least - from) = omega (arith, L.after) in z) ∙ go (least - from) (omega (arith, L.after))
    where
      go : (d : ℕ) → from + d ≤ least → concat (bearing_all c s) (take (from + d) (all_places c)) ≡ concat (bearing_all c s) (take from (all_places c))
      go zero h = ap (λ (i : ℕ). concat (bearing_all c s) (take i (all_places c))) (let z : from + 0 ≡ from = omega arith in z)
      go (suc d) h = elim (dec_lt (from + d) (length (all_places c))) [
        | yes k ↦
            ap (λ (i : ℕ). concat (bearing_all c s) (take i (all_places c))) (let z : from + suc d ≡ suc (from + d) = omega arith in z)
            ∙ ap (concat (bearing_all c s)) (take-suc (all_places c) (from + d) (idle 0) k) ∙ concat_append (bearing_all c s) (take (from + d) (all_places c)) (get_or (all_places c) (from + d) (idle 0) ∷ [])
            ∙ ap (λ (x : List Edge). concat (bearing_all c s) (take (from + d) (all_places c)) ++ x) (last (from + d) (none_to from least (from + d) L (omega arith) (omega arith) k)) ∙ append-nil _ ∙ go d (omega arith)
        | no k ↦ ap (concat (bearing_all c s)) (take_all (from + suc d) (all_places c) (omega arith) ∙ sym (take_all (from + d) (all_places c) (omega arith))) ∙ go d (omega arith)
      ]
        where
          last : (k : ℕ) → bearing_all c s (get_or (all_places c) k (idle 0)) ≡ [] → concat (bearing_all c s) (get_or (all_places c) k (idle 0) ∷ []) ≡ []
          last k e = unfold concat in append-nil _ ∙ e

  -- a walk along the departures
  pub source_none : (b : List ℕ) (n j : ℕ) → Least t.departures items size 0 j → Adds b n b n (concat (bearing_all c s) (take j (all_places c)))
  source_none b n j L = subst (Adds b n b n) (sym (skip_to 0 j L)) (walk_none (bearing_all c s) (all_places c) b n)

  source_next : (places j : ℕ) {b l g : List ℕ} {n m k : ℕ} → Adds b n l m (concat (bearing_all c s) (take j (all_places c))) → places ≡ length (all_places c) → j < places
      → ((q : Place) → j ≡ number c q → Mem q (all_places c) → Adds l m g k (bearing_all c s q)) → Adds b n g k (concat (bearing_all c s) (take (j + 1) (all_places c)))
  source_next places j W e h A =
      let known : j < length (all_places c) = omega arith in
      walk_more (bearing_all c s) (all_places c) j (idle 0) W known (A _ (sym (number_of_place c (idle 0) j known)) (get_d_mem (all_places c) j (idle 0) known))

  pub source_more : {X : Type 0} (places j i : ℕ) {b l g : List ℕ} {n m k : ℕ} → Adds b n l m (concat (bearing_all c s) (take j (all_places c))) → places ≡ length (all_places c) → j < places → Least t.departures items size (j + 1) i
      → ((q : Place) → j ≡ number c q → Mem q (all_places c) → Adds l m g k (bearing_all c s q) × X) → Adds b n g k (concat (bearing_all c s) (take i (all_places c))) × X
  source_more places j i {b} {g = g} {n = n} {k = k} W e h L A =
      let known : j < length (all_places c) = omega arith in (
        subst (Adds b n g k) (sym (skip_to (j + 1) i L)) (source_next places j W e h (λ q f r. (A q f r).0)),
        (A _ (sym (number_of_place c (idle 0) j known)) (get_d_mem (all_places c) j (idle 0) known)).1,
      )

  -- too many before the last departure
  pub source_past : (places j : ℕ) {b l g : List ℕ} {n m k : ℕ} → Adds b n l m (concat (bearing_all c s) (take j (all_places c))) → places ≡ length (all_places c) → j < places
      → ((q : Place) → j ≡ number c q → Mem q (all_places c) → Adds l m g k (bearing_all c s q)) → 1024 < k → Adds b n g 1025 (concat (bearing_all c s) (all_places c))
  source_past places j W e h A past = walk_past (bearing_all c s) (all_places c) (j + 1) (source_next places j W e h A) past

  pub source_all : (places j : ℕ) {b l : List ℕ} {n m : ℕ} → Adds b n l m (concat (bearing_all c s) (take j (all_places c))) → places ≡ length (all_places c) → places ≤ j → Adds b n l m (concat (bearing_all c s) (all_places c))
  source_all places j W e h = walk_all (bearing_all c s) (all_places c) j W (omega arith)

-- the least of the numbers before k
pub record Lowest (departures items : List ℕ) (from k best : ℕ) : Type 0 where
  pub after : from ≤ best
  pub none : (i : ℕ) → i < k → from ≤ get_or departures (get_or items i 0) 0 → best ≤ get_or departures (get_or items i 0) 0

module _ (departures items : List ℕ) (from : ℕ) where
  pub lowest_none : {best : ℕ} → from ≤ best → Lowest departures items from 0 best
  lowest_none h = record { after = h; none = λ i l z. absurd (omega arith) }

  pub lowest_more : (k best : ℕ) {u d r : ℕ} → Lowest departures items from k best → u ≡ get_or items k 0 → d ≡ get_or departures u 0 → (r ≤ best) × (from ≤ d → r ≤ d) × (from ≤ best → from ≤ r) → Lowest departures items from (k + 1) r
  lowest_more k best {u} {d} {r} L e f h =
      let x : d ≡ get_or departures (get_or items k 0) 0 = f ∙ ap (λ (i : ℕ). get_or departures i 0) e in
      record {
        after = h.2 L.after;
        none = λ i l z. elim (dec_lt i k) [
          | yes y ↦ omega (arith, h.0, L.none i y z)
          | no y ↦ let same : i ≡ k = omega arith in let at : get_or departures (get_or items i 0) 0 ≡ d = ap (λ (v : ℕ). get_or departures (get_or items v 0) 0) same ∙ sym x in omega (arith, h.1 (omega (arith, at, z)), at)
        ];
      }

  pub lowest_all : (k : ℕ) {n best : ℕ} → Lowest departures items from k best → n ≤ k → Least departures items n from best
  lowest_all k L h = record { after = L.after; none = λ i l z. L.none i (omega arith) z }
