-- The places of a chart's automata, and their numbers. `IsPlace` says which places there are, `PlaceOf` which an automaton
-- has; `places_at`, `places_by`, `all_places_at` and `all_places_by` that the lists have just these, each once. Numbers are
-- below their count (`number_lt`), no two places share one (`number_injective`), and the location of that number is the
-- place's (`location_of_place`). They ascend along the places of all automata (`numbers_ascend`), so along those of one
-- (`numbers_ascend_within`).
use mathlib.Core.Path.{◌≡◌, refl, sym, ap, ◌∙◌, subst}
use mathlib.Core.Bool.{Bool, true, ◌&&◌}
use mathlib.Core.Logic.{⊎_elim}
use mathlib.Core.List.Memᴰ.{append_cases}
use mathlib.Core.List.Memᴰ.{append_left}
use mathlib.Core.List.Memᴰ.{append_right}
use mathlib.Core.List.Memᴰ.{cases_cons}
use mathlib.Core.List.Memᴰ.{head as here}
use mathlib.Core.List.Memᴰ.{tail as there}
use mathlib.Core.List.{List, ◌++◌, map, Memᴰ as Mem}
use Prim.Native.Nat.{ℕ, ◌+◌, ◌<◌}
use native.Mathlib.Omega.{arith}
use borrow.Author.Tests.{eqb-true, eq-eqb}
use lib.Dec.{eqb}
use lib.ListN.{length, get_or, length-map}
use Rattle.lists.specs.Lists.{below, keep}
use Rattle.lists.proofs.Bools.{parts, clash, both}
use Rattle.lists.proofs.Lists.{keep_at, keep_by, map_at, map_by, get_d_mem, get_d_map}
use Rattle.lists.proofs.Concat.{concat_at, concat_by}
use Rattle.lists.proofs.Below.{below_at, below_by}
use Rattle.lists.proofs.Once.{Once, once_keep, once_below}
use Rattle.lists.proofs.Position.{index_lt, index_at, index_injective, index_of}
use Rattle.lists.proofs.Pairwise.{Pairwise, pairwise_in, map_once, append_once, concat_once, index_ascends}
use Rattle.chart_records.specs.Chart.{Chart, parent_of, home}
use Rattle.chart_records.specs.Tree.{children, sequentials}
use Rattle.chart_records.proofs.Tree.{Child, children_at, children_by, children_once, own_child}
use Rattle.network_records.specs.Network.{Location, location_at}
use Rattle.flattening.specs.Flatten.{Pair, Place, idle, child, pre, post, same_pair, same_place, pairs, enters_by, has_exit, transitions, places, all_places, number, automaton, place_home, urgent_place, bounds_of, location_of, flatten}
use Rattle.flattening.proofs.Automata.{Region, sequentials_at, sequentials_by, sequentials_once, region_at, region_at_lem, automaton_of_region, automaton_injective}

-- equality of pairs and of places is tested
pub same_pair_at : (p r : Pair) → same_pair p r ≡ true → p ≡ r
unfolding same_pair
same_pair_at p r h =
    let s : p.state ≡ r.state = eqb-true p.state r.state (search parts) in
    let m : p.mark ≡ r.mark = eqb-true p.mark r.mark (search parts) in
    λ i. record { state = s i; mark = m i }

pub same_pair_by : (p : Pair) → same_pair p p ≡ true
unfolding same_pair
same_pair_by p = both (eq-eqb p.state p.state refl) (eq-eqb p.mark p.mark refl)

pub same_place_at : (p r : Place) → same_place p r ≡ true → p ≡ r
unfolding same_place
same_place_at (idle q) (idle r) h = ap idle (eqb-true q r h)
same_place_at (idle q) (child s) h = clash h refl
same_place_at (idle q) (pre p) h = clash h refl
same_place_at (idle q) (post t) h = clash h refl
same_place_at (child s) (idle q) h = clash h refl
same_place_at (child s) (child r) h = ap child (eqb-true s r h)
same_place_at (child s) (pre p) h = clash h refl
same_place_at (child s) (post t) h = clash h refl
same_place_at (pre p) (idle q) h = clash h refl
same_place_at (pre p) (child s) h = clash h refl
same_place_at (pre p) (pre r) h = ap pre (same_pair_at p r h)
same_place_at (pre p) (post t) h = clash h refl
same_place_at (post t) (idle q) h = clash h refl
same_place_at (post t) (child s) h = clash h refl
same_place_at (post t) (pre p) h = clash h refl
same_place_at (post t) (post u) h = ap post (eqb-true t u h)

pub same_place_by : (p : Place) → same_place p p ≡ true
unfolding same_place
same_place_by (idle q) = eq-eqb q q refl
same_place_by (child s) = eq-eqb s s refl
same_place_by (pre p) = same_pair_by p
same_place_by (post t) = eq-eqb t t refl

-- the pairs that a test holds of
module _ (p : ℕ → ℕ → Bool) (n : ℕ) (ss : List ℕ) where
  pub pairs_at : {x : Pair} → Mem x (pairs p n ss) → Mem x.state ss × (x.mark < n) × (p x.state x.mark ≡ true)
  unfolding pairs
  pairs_at {x} m =
      let s = concat_at _ ss m in
      let k = map_at (λ m. record { state = s.0; mark = m }) (keep (p s.0) (below n)) s.2 in
      let j = keep_at (p s.0) (below n) k.1 in
      subst (λ (z : Pair). Mem z.state ss × (z.mark < n) × (p z.state z.mark ≡ true)) (sym k.2) (s.1, below_at n j.0, j.1)

  pub pairs_by : (x : Pair) → Mem x.state ss → x.mark < n → p x.state x.mark ≡ true → Mem x (pairs p n ss)
  unfolding pairs
  pairs_by x m l h = concat_by _ m (map_by (λ k. record { state = x.state; mark = k }) (keep_by (p x.state) (below n) (below_by l) h))

  pub pairs_once : Once ss → Once (pairs p n ss)
  unfolding pairs
  pairs_once o = concat_once _ (λ x. x.state) ss
      (λ s m. map_once (λ m. record { state = s; mark = m }) (keep (p s) (below n)) (λ a b e. ap (λ (x : Pair). x.mark) e) (once_keep (p s) (below n) (once_below n)))
      (λ s x m. ap (λ (z : Pair). z.state) (map_at (λ m. record { state = s; mark = m }) (keep (p s) (below n)) m).2) o

-- the pairs and the transitions for which the automaton of q has a pre or a post
abbrev pub pre_pairs : Chart → ℕ → List Pair
pre_pairs c q = pairs (enters_by c) c.entries (children c q)

abbrev pub post_transitions : Chart → ℕ → List ℕ
post_transitions c q = keep (λ t. eqb (home c t) q && has_exit c t) (transitions c)

-- what a place stands for, beside its home
abbrev pub Stands : Chart → Place → Type 0
Stands c (idle q) = Unit {0}
Stands c (child s) = Child c (parent_of c s) s
Stands c (pre p) = Child c (parent_of c p.state) p.state × (p.mark < c.entries) × (enters_by c p.state p.mark ≡ true)
Stands c (post t) = (t < length c.transitions) × (has_exit c t ≡ true)

-- a place of the chart's automata
pub record IsPlace (c : Chart) (p : Place) : Type 0 where
  pub region : Region c (place_home c p)
  pub stands : Stands c p

-- a place of the automaton of q
pub record PlaceOf (c : Chart) (q : ℕ) (p : Place) : Type 0 where
  pub is_place : IsPlace c p
  pub home_is : place_home c p ≡ q

-- an idle automaton, and one at a child
pub idle_place : (c : Chart) {q : ℕ} → Region c q → PlaceOf c q (idle q)
unfolding place_home
idle_place c g = record { is_place = record { region = g; stands = tt }; home_is = refl }

pub child_place : (c : Chart) {q s : ℕ} → Region c q → Child c q s → PlaceOf c q (child s)
unfolding place_home
child_place c g k = record {
  is_place = record { region = subst (Region c) (sym k.parent_is) g; stands = own_child c k.known k.below_root };
  home_is = k.parent_is;
}

-- the four sorts of places
abbrev sort : Place → ℕ
sort (idle q) = 0
sort (child s) = 1
sort (pre p) = 2
sort (post t) = 3

sort_of : {A : Type 0} (f : A → Place) (k : ℕ) → ((a : A) → sort (f a) ≡ k) → (xs : List A) {p : Place} → Mem p (map f xs) → sort p ≡ k
sort_of f k g xs m = let r = map_at f xs m in ap sort r.2 ∙ g r.0

module _ (c : Chart) where
  -- a child of its home
  under_home : {q s : ℕ} → parent_of c s ≡ q → Child c (parent_of c s) s → Child c q s
  under_home e k = record { known = k.known; below_root = k.below_root; parent_is = e }

  -- the places of one automaton
  pub places_at : (q : ℕ) {p : Place} → Mem p (places c q) → (place_home c p ≡ q) × Stands c p
  unfolding places transitions place_home
  places_at q {p} m = ⊎_elim (λ e. is (idle q) e (refl, tt)) (λ n. ⊎_elim of_child (λ k. ⊎_elim of_pre of_post (append_cases _ k)) (append_cases _ n)) (cases_cons m)
    where
      is : (r : Place) → p ≡ r → (place_home c r ≡ q) × Stands c r → (place_home c p ≡ q) × Stands c p
      is r e h = subst (λ (x : Place). (place_home c x ≡ q) × Stands c x) (sym e) h

      of_child : Mem p (map child (children c q)) → (place_home c p ≡ q) × Stands c p
      of_child n = let r = map_at child (children c q) n in let k = children_at c q r.1 in is (child r.0) r.2 (k.parent_is, own_child c k.known k.below_root)

      of_pre : Mem p (map pre (pre_pairs c q)) → (place_home c p ≡ q) × Stands c p
      of_pre n =
          let r = map_at pre (pre_pairs c q) n in
          let j = pairs_at (enters_by c) c.entries (children c q) r.1 in
          let k = children_at c q j.0 in
          is (pre r.0) r.2 (k.parent_is, (own_child c k.known k.below_root, j.1, j.2))

      of_post : Mem p (map post (post_transitions c q)) → (place_home c p ≡ q) × Stands c p
      of_post n =
          let r = map_at post (post_transitions c q) n in
          let j = keep_at (λ t. eqb (home c t) q && has_exit c t) (transitions c) r.1 in
          let h = j.1 in
          is (post r.0) r.2 (eqb-true (home c r.0) q (search parts), (below_at _ j.0, search parts))

  pub places_by : (q : ℕ) (p : Place) → place_home c p ≡ q → Stands c p → Mem p (places c q)
  unfolding places transitions place_home
  places_by q (idle r) e k = here (ap idle e)
  places_by q (child s) e k = there (append_left _ (map_by child (children_by c (under_home e k))))
  places_by q (pre p) e k = there (append_right (map child (children c q)) (append_left _ (map_by pre (pairs_by (enters_by c) c.entries (children c q) p (children_by c (under_home e k.0)) k.1 k.2))))
  places_by q (post t) e k = there (append_right (map child (children c q)) (append_right (map pre (pre_pairs c q))
      (map_by post (keep_by (λ t. eqb (home c t) q && has_exit c t) (transitions c) (below_by k.0) (both (eq-eqb (home c t) q e) k.1)))))

  pub places_once : (q : ℕ) → Once (places c q)
  unfolding places transitions
  places_once q = (
    λ m. ⊎_elim (λ n. omega (arith, of_child n)) (λ n. ⊎_elim (λ k. omega (arith, of_pre k)) (λ k. omega (arith, of_post k)) (append_cases (map pre (pre_pairs c q)) n)) (append_cases (map child (children c q)) m),
    append_once (map child (children c q)) (map pre (pre_pairs c q) ++ map post (post_transitions c q)) (map_once child (children c q) (λ a b e. cc) (children_once c q))
        (append_once (map pre (pre_pairs c q)) (map post (post_transitions c q)) (map_once pre (pre_pairs c q) (λ a b e. cc) (pairs_once (enters_by c) c.entries (children c q) (children_once c q))) (map_once post (post_transitions c q) (λ a b e. cc) (once_keep _ _ (once_below _)))
        (λ x m n. omega (arith, of_pre m, of_post n)))
        (λ x m n. ⊎_elim (λ k. omega (arith, of_child m, of_pre k)) (λ k. omega (arith, of_child m, of_post k)) (append_cases (map pre (pre_pairs c q)) n)),
  )
    where
      of_child : {p : Place} → Mem p (map child (children c q)) → sort p ≡ 1
      of_child m = sort_of child 1 (λ a. refl) (children c q) m

      of_pre : {p : Place} → Mem p (map pre (pre_pairs c q)) → sort p ≡ 2
      of_pre m = sort_of pre 2 (λ a. refl) (pre_pairs c q) m

      of_post : {p : Place} → Mem p (map post (post_transitions c q)) → sort p ≡ 3
      of_post m = sort_of post 3 (λ a. refl) (post_transitions c q) m

  -- the places of all
  pub all_places_at : {p : Place} → Mem p (all_places c) → IsPlace c p
  unfolding all_places
  all_places_at {p} m =
      let r = concat_at (places c) (sequentials c) m in
      let k = places_at r.0 r.2 in
      record { region = subst (Region c) (sym k.0) (sequentials_at c r.1); stands = k.1 }

  pub all_places_by : {p : Place} → IsPlace c p → Mem p (all_places c)
  unfolding all_places
  all_places_by {p} k = concat_by (places c) (sequentials_by c k.region) (places_by (place_home c p) p refl k.stands)

  pub all_places_once : Once (all_places c)
  unfolding all_places
  all_places_once = concat_once (places c) (place_home c) (sequentials c) (λ q m. places_once q) (λ q p m. (places_at q m).0) (sequentials_once c)

  -- their numbers
  pub number_lt : {p : Place} → IsPlace c p → number c p < length (all_places c)
  unfolding number
  number_lt k = index_lt same_place same_place_at same_place_by (all_places_by k)

  pub place_of_number : {p : Place} (d : Place) → IsPlace c p → get_or (all_places c) (number c p) d ≡ p
  unfolding number
  place_of_number d k = index_at same_place same_place_at same_place_by d (all_places_by k)

  pub number_of_place : (d : Place) (i : ℕ) → i < length (all_places c) → number c (get_or (all_places c) i d) ≡ i
  unfolding number
  number_of_place d i h = index_of same_place same_place_at same_place_by (all_places c) d i all_places_once h

  pub number_injective : {p r : Place} → IsPlace c p → IsPlace c r → number c p ≡ number c r → p ≡ r
  unfolding number
  number_injective j k e = index_injective same_place same_place_at same_place_by (all_places_by j) (all_places_by k) e

  -- they ascend along the places of all automata
  pub numbers_ascend : Pairwise (λ p r. number c p < number c r) (all_places c)
  unfolding number
  numbers_ascend = index_ascends same_place same_place_at same_place_by (all_places c) all_places_once

  -- so along those of one
  pub numbers_ascend_within : {q : ℕ} → Region c q → Pairwise (λ p r. number c p < number c r) (places c q)
  unfolding all_places
  numbers_ascend_within g = pairwise_in (λ p r. number c p < number c r) (places c) numbers_ascend (sequentials_by c g)

  -- there are as many locations as places
  pub locations_length : length (flatten c).locations ≡ length (all_places c)
  unfolding flatten
  locations_length = length-map (all_places c) (location_of c)

  -- a place's location
  pub location_of_place : {p : Place} → IsPlace c p → location_at (flatten c) (number c p) ≡ location_of c p
  unfolding location_at flatten
  location_of_place {p} k = get_d_map (location_of c) (all_places c) (number c p) p _ (number_lt k) ∙ ap (location_of c) (place_of_number p k)

  pub automaton_of_place : {p : Place} → IsPlace c p → (location_at (flatten c) (number c p)).automaton ≡ automaton c (place_home c p)
  unfolding location_of
  automaton_of_place k = ap (λ (l : Location). l.automaton) (location_of_place k)

  pub urgent_of_place : {p : Place} → IsPlace c p → (location_at (flatten c) (number c p)).urgent ≡ urgent_place p
  unfolding location_of
  urgent_of_place k = ap (λ (l : Location). l.urgent) (location_of_place k)

  pub bounds_of_place : {p : Place} → IsPlace c p → (location_at (flatten c) (number c p)).bounds ≡ bounds_of c p
  unfolding location_of
  bounds_of_place k = ap (λ (l : Location). l.bounds) (location_of_place k)

  -- a location of an automaton is one of its places
  pub place_of_location : (a i : ℕ) → a < length (sequentials c) → i < length (flatten c).locations → (location_at (flatten c) i).automaton ≡ a → (p : Place) × PlaceOf c (region_at c a) p × (number c p ≡ i)
  place_of_location a i h l e =
      let p = get_or (all_places c) i (idle 0) in
      let known : i < length (all_places c) = omega (arith, locations_length) in
      let j : IsPlace c p = all_places_at (get_d_mem (all_places c) i (idle 0) known) in
      let n : number c p ≡ i = number_of_place (idle 0) i known in
      let owner : automaton c (place_home c p) ≡ a = sym (automaton_of_place j) ∙ ap (λ (x : ℕ). (location_at (flatten c) x).automaton) n ∙ e in
      (p, record { is_place = j; home_is = automaton_injective c j.region (region_at_lem c a h) (owner ∙ sym (automaton_of_region c a h)) }, n)
