-- Laws of bounds, over the eight clocks of a configuration. The main ones:
-- bounds_of_children: the active states of a tree keep their bounds, just when the active child of every active
--   sequential state keeps its joined ones
-- bounds_pictured: so a configuration keeps its bounds, just when the places of its picture keep theirs
-- keeps_pre, keeps_departure: the place before an entry, and the one where a transition departs to, keep their bounds, just
--   when every state that is entered keeps its joined ones
-- bounds_after: after a step the bounds are kept, just when the places where its transitions depart to keep theirs
use mathlib.Core.Path.{◌≡◌, refl, sym, ap, ◌∙◌, subst}
use mathlib.Core.Bool.{Bool, true, false, cond, not, ◌&&◌, and-true, and_assoc}
use mathlib.Core.Logic.{⊎_elim, ◌≢◌}
use mathlib.Core.List.Memᴰ.{head as here}
use mathlib.Core.List.Memᴰ.{tail as there}
use mathlib.Core.List.{List, [], ◌∷◌, map, Memᴰ as Mem}
use Prim.Native.Nat.{ℕ, zero, suc, ◌+◌, ◌≤◌, ◌<◌}
use native.Mathlib.Omega.{arith}
use native.Mathlib.Decide.{ℕ_discrete}
use borrow.Author.Tests.{eqb-true, eq-eqb, ne_eqb}
use lib.Dec.{eqb}
use lib.ListN.{length, get_or}
use Rattle.lists.specs.Lists.{all, keep, implies}
use Rattle.clocks.specs.Clocks.{free, join, keeps}
use Rattle.steps.specs.Moves.{clocks_after}
use Rattle.lists.proofs.Bools.{clash, decided, fails, and_l, and_r, both, implies_at, implies_by, same}
use Rattle.lists.proofs.Lists.{all_at, all_by, all_same, all_map, all_keep, keep_at, map_at, map_by, get_d_mem, some_mem}
use Rattle.clocks.proofs.Clocks.{keeps_join}
use Rattle.clocks.proofs.Rows.{ClockValues, IsRow, free_row, join_row, keeps_free}
use Rattle.steps.proofs.Kept.{keeps_clocks_after, values_clocks_after}
use Rattle.chart_records.specs.Chart.{Chart, Transition, state_at, transition_at, states, parent_of, sequential, parallel}
use Rattle.chart_records.specs.Tree.{children, sequentials, fixed, sensors, entered}
use Rattle.chart_moves.specs.Machine.{is_active, is_tree, bounds_kept, after}
use Rattle.chart_moves.specs.declared.configuration.Configuration.{Configuration}
use Rattle.chart_records.proofs.Tree.{size, states_at, states_by, Child, children_at, own_child, Parents, tree_induction, parent_known, child_above, all_under_root}
use Rattle.chart_records.proofs.Fixed.{fixed_at, unfixed_composite, unfixed_child, sensors_at, sensors_by}
use Rattle.chart_records.proofs.Entered.{all_entered, all_entered_at, all_entered_by, entered_alone, entered_below_root}
use Rattle.chart_moves.proofs.Active.{OneChild, one_child_by, IsTree, tree_at, bounds_kept_at, bounds_kept_by}
use Rattle.chart_records.proofs.Rules.{Passed, kinds_left}
use Rattle.chart_records.proofs.Ranges.{Ranges, kinds_of}
use Rattle.chart_moves.proofs.After.{after_clocks, after_cases, after_entered}
use Rattle.chart_moves.proofs.Step.{Together, together_fires, together_tree}
use Rattle.flattening.specs.Flatten.{Pair, Place, idle, child, pre, post, has_exit, has_entry, places, join_onto, join_all, own, carried_from, joined, pre_bounds, arrival, arrival_bounds, bounds_of, departure}
use Rattle.flattening.specs.Picture.{pictured}
use Rattle.flattening.proofs.Automata.{sequentials_at, sequentials_by}
use Rattle.flattening.proofs.Numbers.{places_at}
use Rattle.flattening.proofs.Joins.{join_onto_has, join_all_has, own_has, carried_has, entered_have, bounds_have}
use Rattle.flattening.proofs.Own.{own_step}

-- rows: the bounds of states and places have a bound for each of eight clocks

pub join_all_row : (rows : List (List ℕ)) → ((r : List ℕ) → Mem r rows → IsRow r) → IsRow (join_all rows)
join_all_row = join_all_has IsRow free_row join_row

-- to keep the join of some rows is to keep each
keeps_join_onto : (b : List ℕ) (rows : List (List ℕ)) (cs : List ℕ) → IsRow b → ((r : List ℕ) → Mem r rows → IsRow r) → keeps (join_onto b rows) cs ≡ (all (λ r. keeps r cs) rows && keeps b cs)
unfolding join_onto all
keeps_join_onto b [] cs k f = refl
keeps_join_onto b (r ∷ rs) cs k f =
    keeps_join r (join_onto b rs) cs (f r (here refl) ∙ sym (join_onto_has IsRow free_row join_row b rs k (λ x m. f x (there m))))
    ∙ ap (λ (z : Bool). keeps r cs && z) (keeps_join_onto b rs cs k (λ x m. f x (there m)))
    ∙ sym (and_assoc (keeps r cs) (all (λ r. keeps r cs) rs) (keeps b cs))

pub keeps_join_all : (rows : List (List ℕ)) (cs : List ℕ) → ClockValues cs → ((r : List ℕ) → Mem r rows → IsRow r) → keeps (join_all rows) cs ≡ all (λ r. keeps r cs) rows
unfolding join_all
keeps_join_all rows cs v f = keeps_join_onto free rows cs free_row f ∙ ap (λ (b : Bool). all (λ r. keeps r cs) rows && b) (keeps_free cs v) ∙ and-true (all (λ r. keeps r cs) rows)

module _ (c : Chart) (ranges : Ranges c) where
  bounds_long : (s : ℕ) → s < size c → IsRow (state_at c s).bounds
  bounds_long s h = (ranges.of_state s h).bounds_row.long

  pub own_row : (s : ℕ) → s < size c → IsRow (own c s)
  own_row = own_has IsRow free_row join_row c ranges bounds_long

  pub carried_row : (n s : ℕ) → IsRow (carried_from n c s)
  carried_row = carried_has IsRow free_row join_row c ranges bounds_long

  entered_rows : (p : Pair) (r : List ℕ) → Mem r (map (joined c) (keep (entered c p.state p.mark) (states c))) → IsRow r
  entered_rows = entered_have IsRow free_row join_row c ranges bounds_long

  -- of every place of an automaton
  pub places_row : (q : ℕ) (p : Place) → Mem p (places c q) → IsRow (bounds_of c p)
  places_row q p m = bounds_have IsRow free_row join_row c ranges bounds_long p (places_at c q m).1

-- what the children of a state carry of the bounds above them
unfoldable pub carried_by : Chart → ℕ → List ℕ
unfolding carried_from
carried_by c s = carried_from (suc s) c s

pub carried_root : (c : Chart) → carried_by c 0 ≡ own c 0
unfolding carried_by
carried_root c = refl

pub carried_none : (c : Chart) (s : ℕ) → s ≢ 0 → parallel c (parent_of c s) ≡ false → carried_by c s ≡ free
unfolding carried_by
carried_none c s d z = rw (ne_eqb s 0 d, z)

module _ (c : Chart) (tree : Parents c) where
  pub enough : (n m s : ℕ) → s < size c → s < n → s < m → carried_from n c s ≡ carried_from m c s
  unfolding carried_from
  enough zero m s h a b = absurd (omega arith)
  enough (suc n) zero s h a b = absurd (omega arith)
  enough (suc n) (suc m) s h a b = elim (ℕ_discrete s 0) [
    | yes e ↦ rw (eq-eqb s 0 e)
    | no d ↦ let l = tree.smaller s h d in
        ap (λ (r : List ℕ). cond (eqb s 0) (own c 0) (cond (parallel c (parent_of c s)) (join (own c s) r) free)) (enough n m (parent_of c s) (omega arith) (omega arith) (omega arith))
  ]

  pub carried_parallel : (s : ℕ) → s < size c → s ≢ 0 → parallel c (parent_of c s) ≡ true → carried_by c s ≡ join (own c s) (carried_by c (parent_of c s))
  unfolding carried_by
  carried_parallel s h d z =
      let l = tree.smaller s h d in
      rw (ne_eqb s 0 d, z) (ap (join (own c s)) (enough s (suc (parent_of c s)) (parent_of c s) (omega arith) l (omega arith)))

  pub joined_is : (s : ℕ) → s < size c → s ≢ 0 → joined c s ≡ join (own c s) (carried_by c (parent_of c s))
  unfolding joined carried_by
  joined_is s h d = let l = tree.smaller s h d in ap (join (own c s)) (enough (suc s) (suc (parent_of c s)) (parent_of c s) (omega arith) (omega arith) (omega arith))

-- the active child of a sequential state
abbrev pub active_child : Chart → (ℕ → Bool) → ℕ → ℕ
active_child c p q = get_or (keep p (children c q)) 0 0

pub active_child_lem : (c : Chart) (p : ℕ → Bool) (q : ℕ) → (o : OneChild c p q) → active_child c p q ≡ o.child
active_child_lem c p q o =
    let k = keep_at p (children c q) (get_d_mem (keep p (children c q)) 0 0 (omega (arith, one_child_by c p q o))) in
    o.alone _ (children_at c q k.0) k.1

-- a state that is not the root, nor a parallel state's child, hands nothing down
keeps_none : (c : Chart) (cs : List ℕ) → ClockValues cs → (s : ℕ) → s ≢ 0 → parallel c (parent_of c s) ≡ false → keeps (carried_by c s) cs ≡ true
keeps_none c cs values s d z = ap (λ (r : List ℕ). keeps r cs) (carried_none c s d z) ∙ keeps_free cs values

module _ (c : Chart) (passed : Passed c) (ranges : Ranges c) (cs : List ℕ) where
  same_rows : (s n : ℕ) → s < size c → length (own c s) ≡ length (carried_by c n)
  unfolding carried_by
  same_rows s n h = own_row c ranges s h ∙ sym (carried_row c ranges (suc n) n)

  -- to keep what is a state's own is to keep its bounds and what is its sensors' own
  keeps_own : (s : ℕ) → s < size c → keeps (own c s) cs ≡ (all (λ r. keeps (own c r) cs) (sensors c s) && keeps (state_at c s).bounds cs)
  keeps_own s h =
      ap (λ (r : List ℕ). keeps r cs) (own_step c passed.tree s h)
      ∙ keeps_join_onto (state_at c s).bounds (map (own c) (sensors c s)) cs (bounds_long c ranges s h)
      (λ r m. let k = map_at (own c) (sensors c s) m in subst IsRow (sym k.2) (own_row c ranges k.0 (sensors_at c s k.1).1.known))
      ∙ ap (λ (b : Bool). b && keeps (state_at c s).bounds cs) (all_map (λ r. keeps r cs) (own c) (sensors c s))

  own_bounds : (s : ℕ) → s < size c → keeps (own c s) cs ≡ true → keeps (state_at c s).bounds cs ≡ true
  own_bounds s h k = and_r (all (λ r. keeps (own c r) cs) (sensors c s)) _ (sym (keeps_own s h) ∙ k)

  own_sensor : (s r : ℕ) → s < size c → Mem r (sensors c s) → keeps (own c s) cs ≡ true → keeps (own c r) cs ≡ true
  own_sensor s r h m k = all_at _ (sensors c s) (and_l (all (λ r. keeps (own c r) cs) (sensors c s)) _ (sym (keeps_own s h) ∙ k)) m

  -- a state keeps its joined bounds just when it keeps its own and those that it carries
  pub keeps_joined : (s : ℕ) → s < size c → s ≢ 0 → keeps (joined c s) cs ≡ (keeps (own c s) cs && keeps (carried_by c (parent_of c s)) cs)
  keeps_joined s h d = ap (λ (r : List ℕ). keeps r cs) (joined_is c passed.tree s h d) ∙ keeps_join (own c s) (carried_by c (parent_of c s)) cs (same_rows s (parent_of c s) h)

  -- of a parallel state's child
  keeps_carried : (s : ℕ) → s < size c → s ≢ 0 → parallel c (parent_of c s) ≡ true → keeps (carried_by c s) cs ≡ (keeps (own c s) cs && keeps (carried_by c (parent_of c s)) cs)
  keeps_carried s h d z = ap (λ (r : List ℕ). keeps r cs) (carried_parallel c passed.tree s h d z) ∙ keeps_join (own c s) (carried_by c (parent_of c s)) cs (same_rows s (parent_of c s) h)

  module _ (values : ClockValues cs) (p : ℕ → Bool) (active : IsTree c p) where
    -- where the active states keep their bounds, they keep their own: the sensors of an active state are active
    own_kept : ((s : ℕ) → s < size c → p s ≡ true → keeps (state_at c s).bounds cs ≡ true) → (n s : ℕ) → size c ≤ n + s → s < size c → p s ≡ true → keeps (own c s) cs ≡ true
    own_kept f zero s l h a = absurd (omega arith)
    own_kept f (suc n) s l h a = keeps_own s h ∙ both (all_by _ (sensors c s) (λ r m.
        let k = sensors_at c s m in
        own_kept f n r (omega (arith, child_above c passed.tree k.1)) k.1.known (active.every s r k.1 k.0 a))) (f s h a)

    -- .. and then those that are carried
    module _ (keep-own : (s : ℕ) → s < size c → p s ≡ true → keeps (own c s) cs ≡ true) where
      active_carried : (s : ℕ) → s < size c → p s ≡ true → keeps (carried_by c s) cs ≡ true
      active_carried = tree_induction c passed.tree (λ s. p s ≡ true → keeps (carried_by c s) cs ≡ true)
          (λ a. ap (λ (r : List ℕ). keeps r cs) (carried_root c) ∙ keep-own 0 (omega (arith, ranges.states_some)) a)
          (λ s h d f a. ⊎_elim (λ z. keeps_carried s h d z ∙ both (keep-own s h a) (f (active.up s h d a))) (λ z. keeps_none c cs values s d z) (decided (parallel c (parent_of c s))))

      pub active_joined : (s : ℕ) → s < size c → s ≢ 0 → p s ≡ true → keeps (joined c s) cs ≡ true
      active_joined s h d a = keeps_joined s h d ∙ both (keep-own s h a) (active_carried (parent_of c s) (parent_known c passed.tree s h d) (active.up s h d a))

    -- where the active children of sequential states keep their joined bounds, each active state keeps its own
    module _ (keep-joined : (q s : ℕ) → Child c q s → sequential c q ≡ true → p s ≡ true → keeps (joined c s) cs ≡ true) where
      child_carried : (q s : ℕ) → Child c q s → sequential c q ≡ true → p s ≡ true → keeps (carried_by c q) cs ≡ true
      child_carried q s k z a = ap (λ (x : ℕ). keeps (carried_by c x) cs) (sym k.parent_is) ∙ and_r (keeps (own c s) cs) _ (sym (keeps_joined s k.known k.below_root) ∙ keep-joined q s k z a)

      -- from a state that is not fixed on down to some active sequential state
      carried_down : (n s : ℕ) → size c ≤ n + s → s < size c → fixed c s ≡ false → p s ≡ true → keeps (carried_by c s) cs ≡ true
      carried_down zero s l h f a = absurd (omega arith)
      carried_down (suc n) s l h f a = ⊎_elim
          (λ z. let r = unfixed_child c passed.tree s z f in
          let k = r.1 in
          let g = child_above c passed.tree k in
          ap (λ (x : ℕ). keeps (carried_by c x) cs) (sym k.parent_is)
          ∙ and_r (keeps (own c r.0) cs) _ (sym (keeps_carried r.0 k.known k.below_root (ap (parallel c) k.parent_is ∙ z)) ∙ carried_down n r.0 (omega arith) k.known r.2 (active.every s r.0 k z a)))
          (λ z. let y = kinds_left c (kinds_of ranges) s h (unfixed_composite c passed.tree s f) z in let o = active.one s h y a in child_carried s o.child o.is_child_lem y o.passes)
          (decided (parallel c s))

      -- rule 7: some state below the root is sequential
      root_unfixed : fixed c 0 ≡ false
      root_unfixed =
          let q = some_mem (sequentials c) passed.at_least in
          let g = sequentials_at c q.1 in
          fails (fixed c 0) (λ f. clash (all_under_root c passed.tree q.0 g.known) (fixed_at c 0 f q.0 g.known g.is_sequential))

      -- what is a state's own: by the state itself, or as a sensor of its parent
      active_own : (s : ℕ) → s < size c → p s ≡ true → keeps (own c s) cs ≡ true
      active_own = tree_induction c passed.tree (λ s. p s ≡ true → keeps (own c s) cs ≡ true)
          (λ a. ap (λ (r : List ℕ). keeps r cs) (sym (carried_root c)) ∙ carried_down (size c) 0 (omega arith) (omega (arith, ranges.states_some)) root_unfixed a)
          (λ s h d g a. let k = own_child c h d in
          let l = parent_known c passed.tree s h d in
          ⊎_elim
          (λ z. ⊎_elim
          (λ f. own_sensor (parent_of c s) s l (sensors_by c z k f) (g (active.up s h d a)))
          (λ f. and_l (keeps (own c s) cs) _ (sym (keeps_carried s h d z) ∙ carried_down (size c) s (omega arith) h f a))
          (decided (fixed c s)))
          (λ z. let y = kinds_left c (kinds_of ranges) (parent_of c s) l (passed.tree.composite s h d) z in
          and_l (keeps (own c s) cs) _ (sym (keeps_joined s h d) ∙ keep-joined (parent_of c s) s k y a))
          (decided (parallel c (parent_of c s))))

    -- every active state keeps its bounds, just when the active child of every active sequential state keeps its joined ones
    pub bounds_of_children : all (λ s. implies (p s) (keeps (state_at c s).bounds cs)) (states c) ≡ all (λ q. implies (p q) (keeps (joined c (active_child c p q)) cs)) (sequentials c)
    bounds_of_children = same _ _
        (λ h. all_by _ (sequentials c) (λ q m. implies_by (p q) _ (λ a.
        let g = sequentials_at c m in
        let o = active.one q g.known g.is_sequential a in
        ap (λ (x : ℕ). keeps (joined c x) cs) (active_child_lem c p q o)
        ∙ active_joined (λ s k b. own_kept (λ s k b. implies_at (p s) _ (all_at _ (states c) h (states_by c k)) b) (size c) s (omega arith) k b) o.child o.is_child_lem.known o.is_child_lem.below_root o.passes)))
        (λ h. all_by _ (states c) (λ s m. implies_by (p s) _ (λ i. own_bounds s (states_at c m) (active_own (λ q s k z b.
        let l = parent_known c passed.tree s k.known k.below_root in
        let a = ap p (sym k.parent_is) ∙ active.up s k.known k.below_root b in
        let g : q < size c = omega (arith, k.parent_is) in
        let o = active.one q g z a in
        ap (λ (x : ℕ). keeps (joined c x) cs) (o.alone s k b ∙ sym (active_child_lem c p q o))
        ∙ implies_at (p q) _ (all_at _ (sequentials c) h (sequentials_by c (record { known = g; is_sequential = z }))) a) s (states_at c m) i))))

-- a configuration keeps its bounds, just when the places of its picture keep theirs
pub bounds_pictured : (c : Chart) → Passed c → Ranges c → (σ : Configuration) → is_tree c σ ≡ true → ClockValues σ.clocks
    → bounds_kept c σ ≡ all (λ q. keeps (bounds_of c (pictured c σ q)) σ.clocks) (sequentials c)
unfolding bounds_kept pictured bounds_of implies
bounds_pictured c passed ranges σ tree values =
    bounds_of_children c passed ranges σ.clocks values (is_active σ) (tree_at c σ tree)
    ∙ all_same _ _ (sequentials c) (λ q m. at_place q (is_active σ q))
  where
    at_place : (q : ℕ) (b : Bool) → implies b (keeps (joined c (active_child c (is_active σ) q)) σ.clocks) ≡ keeps (bounds_of c (cond b (child (active_child c (is_active σ) q)) (idle q))) σ.clocks
    at_place q true = refl
    at_place q false = sym (keeps_free σ.clocks values)

-- an exit changes no bounds: those where a transition departs to are those where it arrives
pub departure_arrives : (c : Chart) (t : ℕ) → bounds_of c (departure c t) ≡ bounds_of c (arrival c t)
unfolding departure bounds_of
departure_arrives c t = go (has_exit c t)
  where
    p : Pair
    p = record { state = (transition_at c t).destination; mark = (transition_at c t).entry }

    alike : (b : Bool) → arrival_bounds c (cond b (pre p) (child (transition_at c t).destination)) ≡ bounds_of c (cond b (pre p) (child (transition_at c t).destination))
    alike true = unfold arrival_bounds in refl
    alike false = unfold arrival_bounds in refl

    go : (b : Bool) → bounds_of c (cond b (post t) (arrival c t)) ≡ bounds_of c (arrival c t)
    go true = unfold arrival in alike (has_entry c t)
    go false = refl

module _ (c : Chart) (ranges : Ranges c) (cs : List ℕ) (values : ClockValues cs) where
  -- to keep the bounds before an entry is to keep the joined bounds of every state that it enters
  pub keeps_pre : (p : Pair) → keeps (pre_bounds c p) cs ≡ all_entered c p.state p.mark (λ s. keeps (joined c s) cs)
  unfolding pre_bounds
  keeps_pre p = keeps_join_all _ cs values (entered_rows c ranges p) ∙ all_map (λ r. keeps r cs) (joined c) _ ∙ all_keep _ (entered c p.state p.mark) (states c)

  -- a destination without an entry is entered alone
  keeps_alone : (d e : ℕ) → d < size c → e ≡ 255 → keeps (joined c d) cs ≡ all_entered c d e (λ s. keeps (joined c s) cs)
  keeps_alone d e h z = same _ _
      (λ k. all_entered_by c d e (λ s. keeps (joined c s) cs) (λ s l a. ap (λ (x : ℕ). keeps (joined c x) cs) (eqb-true s d (sym (entered_alone c d e s z) ∙ a)) ∙ k))
      (λ k. all_entered_at c d e (λ s. keeps (joined c s) cs) k d h (entered_alone c d e d z ∙ eq-eqb d d refl))

  -- to keep the bounds where a transition departs to is to keep the joined bounds of every state that it enters
  pub keeps_departure : (t : ℕ) → (transition_at c t).destination < size c
      → keeps (bounds_of c (departure c t)) cs ≡ all_entered c (transition_at c t).destination (transition_at c t).entry (λ s. keeps (joined c s) cs)
  unfolding arrival bounds_of has_entry
  keeps_departure t h = ap (λ (r : List ℕ). keeps r cs) (departure_arrives c t) ∙ go (eqb e 255) refl
    where
      d : ℕ
      d = (transition_at c t).destination

      e : ℕ
      e = (transition_at c t).entry

      go : (b : Bool) → eqb e 255 ≡ b → keeps (bounds_of c (cond (not b) (pre (record { state = d; mark = e })) (child d))) cs ≡ all_entered c d e (λ s. keeps (joined c s) cs)
      go true z = keeps_alone d e h (eqb-true e 255 z)
      go false z = keeps_pre (record { state = d; mark = e })

module _ (c : Chart) (passed : Passed c) (ranges : Ranges c) where
  -- transitions that are taken together
  module _ (σ : Configuration) (ms : List ℕ) (tree : is_tree c σ ≡ true) (values : ClockValues σ.clocks) (together : Together c σ ms) where
    abbrev next : Configuration
    next = after c (map (transition_at c) ms) σ

    enters : ℕ → ℕ → Bool
    enters m s = entered c (transition_at c m).destination (transition_at c m).entry s

    next_values : ClockValues next.clocks
    next_values = subst ClockValues (sym (after_clocks c σ ms)) (values_clocks_after _ σ.clocks values)

    next_departure : (m : ℕ) → Mem m ms → keeps (bounds_of c (departure c m)) next.clocks ≡ all_entered c (transition_at c m).destination (transition_at c m).entry (λ s. keeps (joined c s) next.clocks)
    next_departure m n = keeps_departure c ranges next.clocks next_values m (together_fires c passed ranges σ ms together m n).to.known

    next_below_root : (m : ℕ) → Mem m ms → (s : ℕ) → enters m s ≡ true → s ≢ 0
    unfolding enters
    next_below_root m n s a = let f = together_fires c passed ranges σ ms together m n in entered_below_root c passed.tree passed.entry_marks_lem _ f.to.known s f.entry_is f.to.below_root a

    next_tree : IsTree c (is_active next)
    next_tree = tree_at c next (together_tree c passed ranges σ ms tree together)

    -- what is entered is active then, and so keeps its joined bounds
    departure_kept : bounds_kept c next ≡ true → (m : ℕ) → Mem m ms → keeps (bounds_of c (departure c m)) next.clocks ≡ true
    unfolding enters
    departure_kept k m n = next_departure m n ∙ all_entered_by c _ _ (λ s. keeps (joined c s) next.clocks) (λ s h a.
        active_joined c passed ranges next.clocks next_values (is_active next) next_tree (λ s h b. own_kept c passed ranges next.clocks next_values (is_active next) next_tree (bounds_kept_at c next k) (size c) s (omega arith) h b)
        s h (next_below_root m n s a) (after_entered c σ _ ranges.states_few (map_by (transition_at c) n) s h a))

    -- what is active then was active, and no reset breaks its bounds, or is entered
    active_kept : bounds_kept c σ ≡ true → all (λ m. keeps (bounds_of c (departure c m)) next.clocks) ms ≡ true → (s : ℕ) → s < size c → is_active next s ≡ true → keeps (state_at c s).bounds next.clocks ≡ true
    unfolding enters
    active_kept kept k s h a = ⊎_elim
        (λ b. subst (λ (cs : List ℕ). keeps (state_at c s).bounds cs ≡ true) (sym (after_clocks c σ ms)) (keeps_clocks_after _ (state_at c s).bounds σ.clocks (bounds_kept_at c σ kept s h b)))
        (λ b. let r = map_at (transition_at c) ms b.1 in arrived r.0 r.1 (ap (λ (t : Transition). entered c t.destination t.entry s) (sym r.2) ∙ b.2))
        (after_cases c σ (map (transition_at c) ms) ranges.states_few s a)
      where
        arrived : (m : ℕ) → Mem m ms → enters m s ≡ true → keeps (state_at c s).bounds next.clocks ≡ true
        arrived m n b = own_bounds c passed ranges next.clocks s h (and_l (keeps (own c s) next.clocks) _ (sym (keeps_joined c passed ranges next.clocks s h (next_below_root m n s b))
            ∙ all_entered_at c _ _ (λ s. keeps (joined c s) next.clocks) (sym (next_departure m n) ∙ all_at _ ms k n) s h b))

    -- if the bounds were kept, they are kept then, just when those of the places are where the transitions depart to
    pub bounds_after : bounds_kept c σ ≡ true
        → bounds_kept c (after c (map (transition_at c) ms) σ) ≡ all (λ m. keeps (bounds_of c (departure c m)) (clocks_after (map (λ m. (transition_at c m).label) ms) σ.clocks)) ms
    bounds_after kept =
        same _ _ (λ k. all_by _ ms (λ m n. departure_kept k m n)) (λ k. bounds_kept_by c next (active_kept kept k))
        ∙ ap (λ (cs : List ℕ). all (λ m. keeps (bounds_of c (departure c m)) cs) ms) (after_clocks c σ ms)
