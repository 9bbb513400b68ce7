-- The locations of a chart's places, as the code writes them.
use mathlib.Core.Path.{◌≡◌, refl, sym, ap, ◌∙◌, subst}
use mathlib.Core.Bool.{Bool, true, cond}
use mathlib.Core.List.{List, [], ◌∷◌, map, Memᴰ as Mem}
use Prim.Native.Nat.{ℕ, ◌+◌, ◌*◌, ◌≤◌, ◌<◌}
use native.Mathlib.Omega.{arith}
use borrow.Author.Tests.{eq-eqb, eqb-true}
use lib.Dec.{eqb}
use lib.ListN.{length, get_or, take, length-take}
use lib.Seq.{get_or-take}
use Rattle.lists.specs.Lists.{concat}
use Rattle.lists.proofs.Bools.{same}
use Rattle.lists.proofs.Lists.{get_d_map, get_d_mem}
use Rattle.network_records.specs.Network.{Location}
use Rattle.chart_records.specs.Chart.{Chart}
use Rattle.chart_tree.specs.declared.table.Tree.{Tree}
use Rattle.chart_records.proofs.Ranges.{chart_at_lem}
use Rattle.flattening.specs.File.{out4, location_bytes, record_bytes}
use Rattle.flattening.specs.Flatten.{Place, idle, child, pre, post, same_place, all_places, number, place_home, automaton, initial_place, bounds_of, urgent_place, location_of, flatten}
use Rattle.flattening.proofs.Automata.{automaton_lt, region_of_automaton}
use Rattle.flattening.proofs.Numbers.{IsPlace, all_places_at, number_of_place, number_injective, same_place_at, same_place_by, locations_length}
use Rattle.flattening.proofs.Arrivals.{initial_place_lem}
use Rattle.flatten_places.specs.Tables.{kind_of, value_of, mark_of}
use Rattle.flatten_places.specs.declared.transition.Transitions.{Transitions}
use Rattle.flatten_places.specs.declared.place.Places.{Places}
use Rattle.flattener.specs.Records.{location_record}
use Rattle.flattener.specs.Writing.{Wrote}
use Rattle.flattener.specs.Locating.{Located}
use Rattle.flattener.proofs.Writing.{wrote_then}

-- a location's record
words_length : (xs : List ℕ) → length (concat out4 xs) ≡ 4 * length xs
unfolding concat out4
words_length [] = refl
words_length (x ∷ xs) = omega (arith, words_length xs)

location_parts : (clocks : ℕ) (l : Location) → clocks ≤ length l.bounds → location_record clocks l ≡ (3 + 4 * clocks) ∷ l.automaton ∷ l.urgent ∷ l.initial ∷ concat out4 (take clocks l.bounds)
unfolding location_record record_bytes location_bytes
location_parts clocks l h = ap (λ (k : ℕ). k ∷ l.automaton ∷ l.urgent ∷ l.initial ∷ concat out4 (take clocks l.bounds))
    (let z : length (location_bytes clocks l) ≡ 3 + 4 * clocks = omega (arith, words_length (take clocks l.bounds), length-take clocks l.bounds) in z)

pub location_length : (clocks : ℕ) (l : Location) → clocks ≤ 8 → length l.bounds ≡ 8 → length (location_record clocks l) ≡ 4 + 4 * clocks
location_length clocks l h k = ap length (location_parts clocks l (omega arith)) ∙ omega (arith, words_length (take clocks l.bounds), length-take clocks l.bounds)

pub location_written : (clocks : ℕ) (l : Location) → clocks ≤ 8 → length l.bounds ≡ 8 → {s t u v w x : List ℕ} {at a b d e r : ℕ}
    → Wrote s at ((3 + 4 * clocks) ∷ []) t a → Wrote t a (l.automaton ∷ []) u b → Wrote u b (l.urgent ∷ []) v d → Wrote v d (l.initial ∷ []) w e
    → Wrote w e (concat out4 (take clocks l.bounds)) x r → Wrote s at (location_record clocks l) x r
location_written clocks l h k i j m n o = rw (location_parts clocks l (omega arith)) (wrote_then i (wrote_then j (wrote_then m (wrote_then n o))))

-- a column of a list
pub column_at : {A : Type 0} (f : A → ℕ) (xs : List A) (l : List ℕ) → map f xs ≡ take (length xs) l → (i : ℕ) (d : A) → i < length xs → get_or l i 0 ≡ f (get_or xs i d)
column_at f xs l e i d h = sym (get_or-take (length xs) l i 0 h) ∙ ap (λ (k : List ℕ). get_or k i 0) (sym e) ∙ get_d_map f xs i d 0 h

-- urgent places
pub calm : (p : Place) → {k : ℕ} → k ≡ kind_of p → k < 2 → 0 ≡ urgent_place p
unfolding urgent_place
calm (idle q) e h = refl
calm (child s) e h = refl
calm (pre p) e h = absurd (omega arith)
calm (post t) e h = absurd (omega arith)

pub pressing : (p : Place) → {k : ℕ} → k ≡ kind_of p → 2 ≤ k → 1 ≡ urgent_place p
unfolding urgent_place
pressing (idle q) e h = absurd (omega arith)
pressing (child s) e h = absurd (omega arith)
pressing (pre p) e h = refl
pressing (post t) e h = refl

-- the places by their numbers
module _ {c : Chart} {tree : Tree} {rows : List (List ℕ)} {ts : Transitions} {ps : Places} {initials : List ℕ} (L : Located c tree rows ts ps initials) (i : ℕ) (h : i < ps.count) where
  pub place_at : Place
  place_at = get_or (all_places c) i (idle 0)

  known : i < length (all_places c)
  known = omega (arith, L.listed.count)

  pub place_mem : Mem place_at (all_places c)
  unfolding place_at
  place_mem = get_d_mem (all_places c) i (idle 0) known

  pub kind_at : get_or ps.kinds i 0 ≡ kind_of place_at
  unfolding place_at
  kind_at = column_at kind_of (all_places c) ps.kinds L.listed.kinds i (idle 0) known

  pub value_at_lem : get_or ps.values i 0 ≡ value_of place_at
  unfolding place_at
  value_at_lem = column_at value_of (all_places c) ps.values L.listed.values i (idle 0) known

  pub mark_at_lem : get_or ps.marks i 0 ≡ mark_of place_at
  unfolding place_at
  mark_at_lem = column_at mark_of (all_places c) ps.marks L.listed.marks i (idle 0) known

  pub automaton_at : get_or ps.automata i 0 ≡ automaton c (place_home c place_at)
  unfolding place_at
  automaton_at = column_at (λ x. automaton c (place_home c x)) (all_places c) ps.automata L.listed.automata i (idle 0) known

  is_place : IsPlace c place_at
  is_place = all_places_at c place_mem

  pub automaton_few : get_or ps.automata i 0 < 16
  automaton_few = let p = chart_at_lem L.chartered.0 L.chartered.1 in omega (arith, automaton_at, automaton_lt c is_place.region, p.0.at_most)

  -- a place is the initial one just when their numbers are the same
  initial_same : same_place place_at (initial_place c (place_home c place_at)) ≡ eqb i (get_or initials (get_or ps.automata i 0) 0)
  unfolding place_at
  initial_same =
      let p = chart_at_lem L.chartered.0 L.chartered.1 in
      let q = place_home c place_at in
      let g = is_place.region in
      let k = (initial_place_lem c p.0 p.1 g).is_place in
      let first : get_or initials (get_or ps.automata i 0) 0 ≡ number c (initial_place c q) =
      ap (λ (a : ℕ). get_or initials a 0) automaton_at ∙ L.starting (automaton c q) (automaton_lt c g) ∙ ap (λ (r : ℕ). number c (initial_place c r)) (region_of_automaton c g) in
      let here : number c place_at ≡ i = number_of_place c (idle 0) i known in
      same _ _
      (λ e. eq-eqb i _ (sym here ∙ ap (number c) (same_place_at place_at (initial_place c q) e) ∙ sym first))
      (λ e. subst (λ (r : Place). same_place place_at r ≡ true) (number_injective c is_place k (here ∙ eqb-true i _ e ∙ first)) (same_place_by place_at))

  pub initial_at : cond (eqb i (get_or initials (get_or ps.automata i 0) 0)) 1 0 ≡ (location_of c place_at).initial
  unfolding location_of
  initial_at = ap (λ (b : Bool). cond b 1 0) (sym initial_same)

  -- its location
  pub location_at_lem : {a u n : ℕ} {b : List ℕ} → a ≡ automaton c (place_home c place_at) → u ≡ urgent_place place_at → n ≡ (location_of c place_at).initial → b ≡ bounds_of c place_at
      → record { automaton = a; urgent = u; initial = n; bounds = b } ≡ get_or (flatten c).locations i (location_of c (idle 0))
  unfolding place_at location_of flatten
  location_at_lem e f g k = (λ j. record { automaton = e j; urgent = f j; initial = g j; bounds = k j }) ∙ sym (get_d_map (location_of c) (all_places c) i (idle 0) (location_of c (idle 0)) known)

  pub location_lt : i < length (flatten c).locations
  location_lt = omega (arith, known, locations_length c)

-- all of them
pub located_end : {c : Chart} {tree : Tree} {rows : List (List ℕ)} {ts : Transitions} {ps : Places} {initials : List ℕ} → Located c tree rows ts ps initials → (i : ℕ) → ps.count ≤ i → length (flatten c).locations ≤ i
located_end {c} L i h = omega (arith, L.listed.count, locations_length c)

pub located_few : {c : Chart} {tree : Tree} {rows : List (List ℕ)} {ts : Transitions} {ps : Places} {initials : List ℕ} → Located c tree rows ts ps initials → ps.count ≤ 192
located_few L = omega (arith, L.listed.count, L.listed.few)

pub located_clocks : {c : Chart} {tree : Tree} {rows : List (List ℕ)} {ts : Transitions} {ps : Places} {initials : List ℕ} → Located c tree rows ts ps initials → {k : ℕ} → k ≡ c.clocks → k ≤ 8
located_clocks L e = omega (arith, (chart_at_lem L.chartered.0 L.chartered.1).1.clocks_few)

pub for_location : (clocks : ℕ) {l m : Location} → l ≡ m → {s t : List ℕ} {at end : ℕ} → Wrote s at (location_record clocks l) t end → Wrote s at (location_record clocks m) t end
for_location clocks e {s} {t} {at} {end} w = subst (λ (l : Location). Wrote s at (location_record clocks l) t end) e w
