-- The table of the places' numbers: no two places share a slot, and what is found there.
use mathlib.Core.Path.{◌≡◌, refl, sym, ap, ap₂, ◌∙◌, subst}
use mathlib.Core.Bool.{Bool, true, false, not, ◌&&◌}
use mathlib.Core.Logic.{◌≢◌}
use mathlib.Core.List.{List, map, Memᴰ as Mem}
use Prim.Native.Nat.{ℕ, ◌+◌, ◌≤◌, ◌<◌}
use native.Mathlib.Omega.{arith}
use native.Mathlib.Decide.{ℕ_discrete}
use borrow.Author.Tests.{eq-eqb, ne_eqb, lt-ltb}
use lib.Dec.{ltb, eqb}
use lib.ListN.{length, get_or, set, take, drop, length-map, length-set}
use lib.Seq.{get_or-set_same, get_or-set_other, get_or-take}
use Rattle.lists.specs.Lists.{has, keep}
use Rattle.reading.proofs.Answer.{unless_at, then_at}
use Rattle.lists.proofs.Bools.{cond_yes, cond_no, not_yes, not_no}
use Rattle.lists.proofs.Once.{Once}
use Rattle.lists.proofs.Position.{position_some}
use Rattle.lists.proofs.Lists.{get_d_map, get_d_mem, any_at, keep_keep}
use Rattle.lists.proofs.Below.{get_d_mapped}
use Rattle.lists.proofs.Pairwise.{once_get_d, map_once_on}
use Rattle.chart_records.specs.Chart.{Chart, state_at, transition_at, states, read_chart}
use Rattle.chart_records.specs.Tree.{is_child, children, sequentials, entered}
use Rattle.chart_records.specs.Rules.{parents, entry_marks, state_rules, keeps_rules, chart_of}
use Rattle.chart_tree.specs.Table.{Tabled}
use Rattle.chart_tree.specs.declared.table.Tree.{Tree}
use Rattle.chart_records.proofs.Rules.{passed_at}
use Rattle.chart_records.proofs.Ranges.{Ranges}
use Rattle.flattening.specs.Flatten.{Pair, Place, idle, child, pre, post, all_places, number, same_place, has_exit, has_entry, arrival, departure, place_home, initial_place, marked_child}
use Rattle.flattening.proofs.Automata.{Region, region_at_lem}
use Rattle.flattening.proofs.Numbers.{IsPlace, idle_place, same_place_at, all_places_at, all_places_once, number_lt, place_of_number}
use Rattle.flattening.proofs.Arrivals.{arrival_place, departure_place, initial_place_lem}
use Rattle.flatten_places.specs.Tables.{Chartered, Listed, kind_of, value_of, mark_of}
use Rattle.flatten_tables.specs.Numbering.{slot_of, slot_at, Numbered, start_set}
use Rattle.flatten_places.specs.declared.place.Places.{Places}
use Rattle.flatten_places.proofs.Chartered.{passed_of, ranges_of}
use Rattle.flatten_places.proofs.Placing.{child_test}
use Rattle.flatten_places.proofs.StateWalks.{walk_yes, walk_no, walk_end}

-- a slot by the place's row
pub slot_row : (x : Place) → slot_at (kind_of x) (value_of x) (mark_of x) ≡ slot_of x
unfolding slot_at
slot_row (idle q) = omega arith
slot_row (child s) = omega arith
slot_row (pre p) = refl
slot_row (post t) = omega arith

-- what a place stands for is small
abbrev Small : Place → Type 0
Small (idle q) = q < 64
Small (child s) = s < 64
Small (pre p) = (p.state < 48) × (p.mark < 16)
Small (post t) = t < 64

small_of : (c : Chart) → Ranges c → (x : Place) → IsPlace c x → Small x
unfolding place_home
small_of c r (idle q) k = omega (arith, k.region.known, r.states_few)
small_of c r (child s) k = omega (arith, k.stands.known, r.states_few)
small_of c r (pre p) k = (omega (arith, k.stands.0.known, r.states_few), omega (arith, k.stands.1, r.entries_few))
small_of c r (post t) k = omega (arith, k.stands.0, r.transitions_few)

slot_small : (x : Place) → Small x → slot_of x < 1024
slot_small (idle q) k = omega arith
slot_small (child s) k = omega arith
slot_small (pre p) k = omega arith
slot_small (post t) k = omega arith

slot_injective : (x y : Place) → Small x → Small y → slot_of x ≡ slot_of y → x ≡ y
slot_injective (idle q) (idle r) j k e = ap idle e
slot_injective (idle q) (child s) j k e = absurd (omega arith)
slot_injective (idle q) (pre p) j k e = absurd (omega arith)
slot_injective (idle q) (post t) j k e = absurd (omega arith)
slot_injective (child s) (idle q) j k e = absurd (omega arith)
slot_injective (child s) (child r) j k e = ap child (let z : s ≡ r = omega arith in z)
slot_injective (child s) (pre p) j k e = absurd (omega arith)
slot_injective (child s) (post t) j k e = absurd (omega arith)
slot_injective (pre p) (idle q) j k e = absurd (omega arith)
slot_injective (pre p) (child s) j k e = absurd (omega arith)
slot_injective (pre p) (pre r) j k e =
    let s : p.state ≡ r.state = omega arith in
    let m : p.mark ≡ r.mark = omega arith in
    λ i. pre (record { state = s i; mark = m i })
slot_injective (pre p) (post t) j k e = absurd (omega arith)
slot_injective (post t) (idle q) j k e = absurd (omega arith)
slot_injective (post t) (child s) j k e = absurd (omega arith)
slot_injective (post t) (pre p) j k e = absurd (omega arith)
slot_injective (post t) (post u) j k e = ap post (let z : t ≡ u = omega arith in z)

-- a table of w places by keys that differ: at the key of each of the first n stands its place
pub record Inverse (w : ℕ) (keys l : List ℕ) (n : ℕ) : Type 0 where
  pub long : length l ≡ w
  pub stands : (i : ℕ) → i < n → get_or l (get_or keys i 0) 0 ≡ i

pub inverse_none : (w : ℕ) (keys l : List ℕ) → length l ≡ w → Inverse w keys l 0
inverse_none w keys l e = record { long = e; stands = λ i h. absurd (omega arith) }

inverse_more : (w : ℕ) (keys l : List ℕ) (n : ℕ) → Once keys → n < length keys → get_or keys n 0 < w → Inverse w keys l n → Inverse w keys (set l (get_or keys n 0) n) (n + 1)
inverse_more w keys l n o h k I = record {
  long = length-set l (get_or keys n 0) n ∙ I.long;
  stands = λ i j. elim (ℕ_discrete i n) [
    | yes q ↦ ap (λ (x : ℕ). get_or (set l (get_or keys n 0) n) (get_or keys x 0) 0) q ∙ get_or-set_same l (get_or keys n 0) n 0 (omega (arith, I.long)) ∙ sym q
    | no q ↦ get_or-set_other l (get_or keys n 0) (get_or keys i 0) n 0 (λ e. q (once_get_d keys 0 i n o (omega arith) h e)) ∙ I.stands i (omega arith)
  ];
}

-- the keys of all places
unfoldable pub keys_of : Chart → List ℕ
keys_of c = map slot_of (all_places c)

module _ (c : Chart) (h : Chartered c) where
  small_at : {x : Place} → Mem x (all_places c) → Small x
  small_at {x} m = small_of c (ranges_of h) x (all_places_at c m)

  keys_once : Once (keys_of c)
  unfolding keys_of
  keys_once = map_once_on slot_of (all_places c) (λ x y m n e. slot_injective x y (small_at m) (small_at n) e) (all_places_once c)

  module _ (p : Places) (L : Listed c (all_places c) p) (i : ℕ) (l : i < p.count) where
    known : i < length (all_places c)
    known = omega (arith, L.count)

    field_at : (f : Place → ℕ) (xs : List ℕ) → map f (all_places c) ≡ take (length (all_places c)) xs → get_or xs i 0 ≡ f (get_or (all_places c) i (idle 0))
    field_at f xs e = sym (get_or-take (length (all_places c)) xs i 0 known) ∙ ap (λ (z : List ℕ). get_or z i 0) (sym e) ∙ get_d_map f (all_places c) i (idle 0) 0 known

    -- the slot that the code finds
    pub key_at : (k v m s : ℕ) → k ≡ get_or p.kinds i 0 → v ≡ get_or p.values i 0 → m ≡ get_or p.marks i 0 → s ≡ slot_at k v m → (s ≡ get_or (keys_of c) i 0) × (s < 1024)
    unfolding keys_of
    key_at k v m s a b d e =
        let x = get_or (all_places c) i (idle 0) in
        let z : s ≡ slot_of x = e ∙ ap (λ (k : ℕ). slot_at k v m) (a ∙ field_at kind_of p.kinds L.kinds) ∙ ap₂ (λ (v m : ℕ). slot_at (kind_of x) v m) (b ∙ field_at value_of p.values L.values) (d ∙ field_at mark_of p.marks L.marks) ∙ slot_row x in
        (z ∙ sym (get_d_map slot_of (all_places c) i (idle 0) 0 known), omega (arith, z, slot_small x (small_at (get_d_mem (all_places c) i (idle 0) known))))

    keys_known : i < length (keys_of c)
    unfolding keys_of
    keys_known = omega (arith, length-map (all_places c) slot_of, known)

    pub keys_more : (numbers : List ℕ) (s : ℕ) → Inverse 1024 (keys_of c) numbers i → s ≡ get_or (keys_of c) i 0 → s < 1024 → Inverse 1024 (keys_of c) (set numbers s i) (i + 1)
    keys_more numbers s I e k = rw e (inverse_more 1024 (keys_of c) numbers i keys_once keys_known (omega (arith, e)) I)

  pub keys_all : (p : Places) → Listed c (all_places c) p → (numbers : List ℕ) (i : ℕ) → p.count ≤ i → Inverse 1024 (keys_of c) numbers i → Numbered c numbers
  unfolding keys_of number
  keys_all p L numbers i k I = record {
    at_slot = λ x n.
        let m = any_at (same_place x) (all_places c) (position_some (same_place x) (all_places c) n) in
        let j : IsPlace c x = all_places_at c (subst (λ (y : Place). Mem y (all_places c)) (sym (same_place_at x m.0 m.2)) m.1) in
        ap (λ (s : ℕ). get_or numbers s 0) (ap slot_of (sym (place_of_number c (idle 0) j)) ∙ sym (get_d_map slot_of (all_places c) (number c x) (idle 0) 0 n)) ∙ I.stands (number c x) (omega (arith, L.count, n));
  }

-- what is found
module _ (c : Chart) (numbers : List ℕ) (N : Numbered c numbers) where
  pub found : (x : Place) → IsPlace c x → get_or numbers (slot_at (kind_of x) (value_of x) (mark_of x)) 0 ≡ number c x
  found x k = ap (λ (s : ℕ). get_or numbers s 0) (slot_row x) ∙ N.at_slot x (number_lt c k)

  module _ (h : Chartered c) (t : ℕ) (l : t < length c.transitions) where
    pub found_child : (d : ℕ) → d ≡ (transition_at c t).destination → (transition_at c t).entry ≡ 255 → get_or numbers (slot_at 1 d 0) 0 ≡ number c (arrival c t)
    unfolding arrival has_entry
    found_child d e n =
        let is : arrival c t ≡ child d = cond_no _ _ (not_no (eq-eqb _ 255 n)) ∙ ap child (sym e) in
        found (child d) (subst (IsPlace c) is (arrival_place c (passed_of h) (ranges_of h) t l).is_place) ∙ ap (number c) (sym is)

    pub found_pre : (d e : ℕ) → d ≡ (transition_at c t).destination → e ≡ (transition_at c t).entry → e ≢ 255 → get_or numbers (slot_at 2 d e) 0 ≡ number c (arrival c t)
    unfolding arrival has_entry
    found_pre d e a b n =
        let same : ◌≡◌ {A = Pair} (record { state = (transition_at c t).destination; mark = (transition_at c t).entry }) (record { state = d; mark = e }) = λ i. record { state = sym a i; mark = sym b i } in
        let is : arrival c t ≡ pre (record { state = d; mark = e }) = cond_yes _ _ (not_yes (ne_eqb _ 255 (λ z. n (b ∙ z)))) ∙ ap pre same in
        found (pre (record { state = d; mark = e })) (subst (IsPlace c) is (arrival_place c (passed_of h) (ranges_of h) t l).is_place) ∙ ap (number c) (sym is)

    pub found_post : (transition_at c t).exit ≢ 255 → get_or numbers (slot_at 3 t 0) 0 ≡ number c (departure c t)
    unfolding departure has_exit
    found_post n =
        let is : departure c t ≡ post t = cond_yes _ _ (not_yes (ne_eqb _ 255 n)) in
        found (post t) (subst (IsPlace c) is (departure_place c (passed_of h) (ranges_of h) t l).is_place) ∙ ap (number c) (sym is)

    pub found_arrival : (transition_at c t).exit ≡ 255 → number c (arrival c t) ≡ number c (departure c t)
    unfolding departure has_exit
    found_arrival n = ap (number c) (sym (cond_no _ _ (not_no (eq-eqb _ 255 n))))

  pub found_idle : (a q : ℕ) → a < length (sequentials c) → q ≡ get_or (sequentials c) a 0 → get_or numbers (slot_at 0 q 0) 0 ≡ number c (idle (get_or (sequentials c) a 0))
  found_idle a q l e = ap (λ (x : ℕ). get_or numbers (slot_at 0 x 0) 0) e ∙ found (idle (get_or (sequentials c) a 0)) (idle_place c (region_at_lem c a l)).is_place

-- the child that starts
abbrev pub starts_in : Chart → ℕ → ℕ → Bool
starts_in c q s = is_child c q s && has (state_at c s).entries 0

abbrev pub start_from : Chart → ℕ → ℕ → ℕ
start_from c q s = get_or (keep (starts_in c q) (drop s (states c))) 0 0

pub start_all : (c : Chart) (q : ℕ) → marked_child c q 0 ≡ start_from c q 0
unfolding marked_child children
start_all c q = ap (λ (l : List ℕ). get_or l 0 0) (keep_keep (is_child c q) (λ s. has (state_at c s).entries 0) (states c))

module _ {c : Chart} {t : Tree} (T : Tabled c t) (q s : ℕ) where
  pub start_yes : s < t.states → starts_in c q s ≡ true → start_from c q s ≡ s
  start_yes h e = ap (λ (l : List ℕ). get_or l 0 0) (walk_yes T (starts_in c q) s h e)

  pub start_no : s < t.states → starts_in c q s ≡ false → start_from c q s ≡ start_from c q (s + 1)
  start_no h e = ap (λ (l : List ℕ). get_or l 0 0) (walk_no T (starts_in c q) s h e)

  pub start_end : t.states ≤ s → start_from c q s ≡ 0
  start_end h = ap (λ (l : List ℕ). get_or l 0 0) (walk_end T (starts_in c q) s h)

  -- the code's test
  pub start_test : {a b : Bool} {m : ℕ} → s < t.states → a ≡ (not (eqb s 0) && eqb (get_or t.parents s 0) q) → m ≡ get_or t.entries s 0 → b ≡ has m 0 → starts_in c q s ≡ (a && b)
  start_test h x y z = sym (ap₂ ◌&&◌ (x ∙ child_test T q s h) (z ∙ ap (λ (m : ℕ). has m 0) (y ∙ T.entries s (omega (arith, T.count, T.few)))))

-- the place where an automaton starts
module _ (c : Chart) (numbers : List ℕ) (N : Numbered c numbers) (h : Chartered c) (q : ℕ) (g : Region c q) where
  pub found_start : (s : ℕ) → s ≡ marked_child c q 0 → entered c 0 0 q ≡ true → get_or numbers (slot_at 1 s 0) 0 ≡ number c (initial_place c q)
  unfolding initial_place
  found_start s e k =
      let is : initial_place c q ≡ child s = cond_yes _ _ k ∙ ap child (sym e) in
      found c numbers N (child s) (subst (IsPlace c) is (initial_place_lem c (passed_of h) (ranges_of h) g).is_place) ∙ ap (number c) (sym is)

  pub found_idle_start : entered c 0 0 q ≡ false → get_or numbers (slot_at 0 q 0) 0 ≡ number c (initial_place c q)
  unfolding initial_place
  found_idle_start k =
      let is : initial_place c q ≡ idle q = cond_no _ _ k in
      found c numbers N (idle q) (idle_place c g).is_place ∙ ap (number c) (sym is)

-- the set of the states that are active at the start
pub start_set_at : (c : Chart) (h : Chartered c) (q : ℕ) → q < length c.states → (set : List Bool) → set ≡ start_set c → get_or set q false ≡ entered c 0 0 q
start_set_at c h q k set e =
    ap (λ (l : List Bool). get_or l q false) e ∙ get_d_mapped (λ s. ltb s (length c.states) && entered c 0 0 s) 48 q false (omega (arith, (ranges_of h).states_few)) ∙ ap (λ (b : Bool). b && entered c 0 0 q) (lt-ltb q (length c.states) k)

-- rules 5 and 8 as the code asks for them
pub rules_of : {c : Chart} → Chartered c → (parents c ≡ true) × (entry_marks c ≡ true)
unfolding chart_of keeps_rules state_rules
rules_of {c} (file, h) =
    let r = then_at (read_chart file) keeps_rules h in
    let k = passed_at r.0 r.2 in
    let of-states = then_at (state_rules r.0) _ r.2 in
    let r5 = unless_at 5 _ _ of-states.1 in
    let r6 = unless_at 6 _ _ r5.1 in
    let r7 = unless_at 7 _ _ r6.1 in
    let r8 = unless_at 8 _ _ r7.1 in
    (ap parents (sym k.1) ∙ r5.0, ap entry_marks (sym k.1) ∙ r8.0)
