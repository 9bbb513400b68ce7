-- How many pairs, places and automata a chart has: what is counted is matched with the chart's transitions and states.
use mathlib.Core.Path.{◌≡◌, sym, ◌∙◌}
use mathlib.Core.List.Memᴰ.{append_left}
use mathlib.Core.List.Memᴰ.{append_right}
use mathlib.Core.List.{List, ◌++◌, map, Memᴰ as Mem}
use Prim.Native.Nat.{ℕ, ◌+◌, ◌-◌, ◌≤◌}
use native.Mathlib.Omega.{arith}
use lib.ListN.{length, length-append, length-map}
use Rattle.lists.specs.Lists.{range, below}
use Rattle.lists.proofs.Lists.{map_by, mem_some, some_mem}
use Rattle.lists.proofs.Below.{range_by, below_by, length_range, length_below}
use Rattle.lists.proofs.Once.{partners_length, within_length}
use Rattle.chart_records.specs.Chart.{Chart, transition_at}
use Rattle.chart_records.specs.Tree.{sequentials}
use Rattle.chart_records.proofs.Tree.{size}
use Rattle.chart_records.proofs.Rules.{Passed}
use Rattle.chart_records.proofs.Ranges.{Ranges}
use Rattle.flattening.specs.Flatten.{Pair, Place, idle, child, pre, post, enter_pairs, exit_pairs, all_places, place_home}
use Rattle.flattening.proofs.Automata.{sequentials_at, sequentials_by}
use Rattle.flattening.proofs.Numbers.{IsPlace, idle_place, all_places_at, all_places_by, all_places_once}
use Rattle.flattening.proofs.Channels.{enters_at, leaves_at, enter_pairs_at, enter_pairs_once, exit_pairs_at, exit_pairs_once, pre_enters}

-- a transition names a pair: by what it has of a state and of a mark
abbrev Names : (ℕ → ℕ) → (ℕ → ℕ) → Pair → ℕ → Type 0
Names state mark p t = (state t ≡ p.state) × (mark t ≡ p.mark)

names_one : (state mark : ℕ → ℕ) (p r : Pair) (t : ℕ) → Names state mark p t → Names state mark r t → p ≡ r
names_one state mark p r t h k =
    let s : p.state ≡ r.state = sym h.0 ∙ k.0 in
    let m : p.mark ≡ r.mark = sym h.1 ∙ k.1 in
    λ i. record { state = s i; mark = m i }

-- each pair is named by some transition, so there are at most as many
pub enter_pairs_few : (c : Chart) → length (enter_pairs c) ≤ length c.transitions
enter_pairs_few c = omega (
  arith,
  length_below (length c.transitions),
  partners_length _ (enter_pairs c) (below (length c.transitions)) (enter_pairs_once c)
      (λ p m. let t = enters_at c p.state p.mark (enter_pairs_at c m).2 in (t.0, below_by t.1, (t.2, t.3)))
      (names_one (λ t. (transition_at c t).destination) (λ t. (transition_at c t).entry)),
)

pub exit_pairs_few : (c : Chart) → length (exit_pairs c) ≤ length c.transitions
exit_pairs_few c = omega (
  arith,
  length_below (length c.transitions),
  partners_length _ (exit_pairs c) (below (length c.transitions)) (exit_pairs_once c)
      (λ p m. let t = leaves_at c p.state p.mark (exit_pairs_at c m).2 in (t.0, below_by t.1, (t.2, t.3)))
      (names_one (λ t. (transition_at c t).source) (λ t. (transition_at c t).exit)),
)

-- every place there can be: an idle sequential state, a state but the root, a pair that is entered, a transition
candidates : Chart → List Place
candidates c = map idle (sequentials c) ++ (map child (range 1 (size c - 1)) ++ (map pre (enter_pairs c) ++ map post (below (length c.transitions))))

candidate : (c : Chart) (p : Place) → IsPlace c p → Mem p (candidates c)
unfolding candidates place_home
candidate c (idle q) k = append_left _ (map_by idle (sequentials_by c k.region))
candidate c (child s) k = let j = k.stands in append_right (map idle (sequentials c)) (append_left _ (map_by child (range_by 1 (size c - 1) s (omega (arith, j.below_root)) (omega (arith, j.known)))))
candidate c (pre p) k = append_right (map idle (sequentials c)) (append_right (map child (range 1 (size c - 1))) (append_left _ (map_by pre (pre_enters c k))))
candidate c (post t) k = append_right (map idle (sequentials c)) (append_right (map child (range 1 (size c - 1))) (append_right (map pre (enter_pairs c)) (map_by post (below_by k.stands.0))))

candidates_length : (c : Chart) → length (candidates c) ≡ length (sequentials c) + ((size c - 1) + (length (enter_pairs c) + length c.transitions))
unfolding candidates
candidates_length c = simp (length-append, length-map, length_range, length_below)

module _ (c : Chart) (passed : Passed c) (ranges : Ranges c) where
  pub all_places_few : length (all_places c) ≤ 191
  all_places_few = omega (arith, within_length (all_places c) (candidates c) (all_places_once c) (λ p m. candidate c p (all_places_at c m)), candidates_length c, enter_pairs_few c, passed.at_most, ranges.states_some, ranges.states_few, ranges.transitions_few)

  pub all_places_some : 1 ≤ length (all_places c)
  all_places_some = let r = some_mem (sequentials c) passed.at_least in mem_some (all_places_by c (idle_place c (sequentials_at c r.1)).is_place)
