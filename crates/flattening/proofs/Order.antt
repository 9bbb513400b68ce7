-- The edges of a chart's network ascend strictly (`edges_ascend_lem`): by source, since they are listed place by place, and the
-- edges of one place by target, transition, automata tested and channel.
use mathlib.Core.Path.{◌≡◌, refl, sym, ap, ◌∙◌, subst}
use mathlib.Core.Logic.{◌≢◌}
use mathlib.Core.Bool.{Bool, true, false, cond, ◌&&◌, ◌||◌}
use mathlib.Core.List.Memᴰ.{head as here}
use mathlib.Core.List.Memᴰ.{not-nil}
use mathlib.Core.List.{List, [], ◌∷◌, map, Memᴰ as Mem}
use Prim.Native.Nat.{ℕ, ◌<◌}
use native.Mathlib.Omega.{arith}
use borrow.Author.Tests.{eqb-true, eq-eqb, lt-ltb}
use lib.Dec.{eqb, ltb}
use lib.ListN.{length}
use Rattle.lists.specs.Lists.{keep, concat}
use Rattle.lists.proofs.Bools.{parts, both, or_l, or_r}
use Rattle.lists.proofs.Lists.{keep_at, map_at}
use Rattle.lists.proofs.Ascending.{ascending_keep, ascending_below}
use Rattle.lists.proofs.Once.{Once}
use Rattle.lists.proofs.Pairwise.{Pairwise, pairwise_by, pairwise_keep, pairwise_left, pairwise_map, pairwise_of_map, pairwise_concat, pairwise_once, once_get_d, ascending_pairwise}
use Rattle.chart_records.specs.Chart.{Chart, Transition, transition_at, parent_of}
use Rattle.chart_records.specs.Tree.{children}
use Rattle.network_records.specs.Network.{Edge, edge_at, edges_ascend, key}
use Rattle.flattening.specs.Flatten.{Pair, Place, idle, child, pre, post, same_place, has_exit, transitions, places, all_places, number, place_home}
use Rattle.flattening.specs.Flatten.{alternatives, exit_pairs, enter_pairs, enter_channel, exit_channel, signalling, edge, own_edge, exit_tested, departure, bearing}
use Rattle.flattening.specs.Flatten.{bearing_all, heard_exits, heard_entries, to_place, from_place, flatten}
use Rattle.flattening.proofs.Sums.{sorted_ascending}
use Rattle.flattening.proofs.Automata.{Region}
use Rattle.flattening.proofs.Numbers.{IsPlace, places_at, all_places_at, numbers_ascend, numbers_ascend_within}
use Rattle.flattening.proofs.Channels.{enter_channels_ascend, exit_channels_ascend}
use Rattle.flattening.proofs.Edges.{bearing_at, bearing_all_at, to_place_at, from_place_at, source_of}

-- e stands before f: by source, target, transition, automata tested and channel
pub data Less (e f : Edge) : Type 0 where
  by_source : e.source < f.source → Less e f
  by_target : e.source ≡ f.source → e.target < f.target → Less e f
  by_transition : e.source ≡ f.source → e.target ≡ f.target → e.transition < f.transition → Less e f
  by_tested : e.source ≡ f.source → e.target ≡ f.target → e.transition ≡ f.transition → e.tested < f.tested → Less e f
  by_channel : e.source ≡ f.source → e.target ≡ f.target → e.transition ≡ f.transition → e.tested ≡ f.tested → e.label.channel < f.label.channel → Less e f

pub less_irreflexive : (e : Edge) → Less e e → ⊥
less_irreflexive e (by_source l) = omega arith
less_irreflexive e (by_target a l) = omega arith
less_irreflexive e (by_transition a b l) = omega arith
less_irreflexive e (by_tested a b d l) = omega arith
less_irreflexive e (by_channel a b d f l) = omega arith

-- the test of one number, and then of the rest
first : {x y : ℕ} (b : Bool) → x < y → (ltb x y || (eqb x y && b)) ≡ true
first {x} {y} b l = or_l _ (lt-ltb x y l)

later : {x y : ℕ} {b : Bool} → x ≡ y → b ≡ true → (ltb x y || (eqb x y && b)) ≡ true
later {x} {y} {b} e h = or_r (ltb x y) (both (eq-eqb x y e) h)

pub edges_ascend_by : (es : List Edge) → Pairwise Less es → edges_ascend es ≡ true
unfolding edges_ascend key
edges_ascend_by [] o = refl
edges_ascend_by (e ∷ []) o = refl
edges_ascend_by (e ∷ (f ∷ es)) o = both (go (o.0 f (here refl))) (edges_ascend_by (f ∷ es) o.1)
  where
    go : Less e f → (ltb e.source f.source || (eqb e.source f.source
        && (ltb e.target f.target || (eqb e.target f.target
        && (ltb e.transition f.transition || (eqb e.transition f.transition
        && (ltb e.tested f.tested || (eqb e.tested f.tested
        && (ltb e.label.channel f.label.channel || (eqb e.label.channel f.label.channel && false)))))))))) ≡ true
    go (by_source l) = first _ l
    go (by_target a l) = later a (first _ l)
    go (by_transition a b l) = later a (later b (first _ l))
    go (by_tested a b d l) = later a (later b (later d (first _ l)))
    go (by_channel a b d g l) = later a (later b (later d (later g (first _ l))))

module _ (c : Chart) where
  -- the edges that bear one transition: by the automata tested
  bearing_ascends : (r : Place) (t : ℕ) → Pairwise Less (bearing c r t)
  unfolding bearing alternatives edge
  bearing_ascends r t = go (has_exit c t)
    where
      u : Transition
      u = transition_at c t

      make : ℕ → Edge
      make set = edge c (child u.source) r t (exit_tested set u.exit) set u.label

      go : (b : Bool) → Pairwise Less (cond b (map make (alternatives c u.source u.exit)) (edge c (child u.source) r t 255 0 u.label ∷ []))
      go true = pairwise_map Less make (alternatives c u.source u.exit) (pairwise_by (λ x y. x < y) (λ x y. Less (make x) (make y)) (alternatives c u.source u.exit) (λ x y m n l. by_tested refl refl refl l)
          (ascending_pairwise (alternatives c u.source u.exit) (sorted_ascending _)))
      go false = (λ y m. absurd (not-nil m), tt)

  -- the edges that go from s to r: by transition
  bearing_all_ascends : (s : ℕ) (r : Place) → Pairwise Less (bearing_all c s r)
  unfolding bearing_all transitions edge
  bearing_all_ascends s r = pairwise_concat Less (bearing c r) ts (λ t m. bearing_ascends r t)
      (pairwise_by (λ t u. t < u) (λ t u. (e f : Edge) → Mem e (bearing c r t) → Mem f (bearing c r u) → Less e f) ts
      (λ t u m n l e f p q. let x = (bearing_at c t r p).edge_is in let y = (bearing_at c u r q).edge_is in
      by_transition
      (ap (λ (z : Edge). z.source) x ∙ ap (λ (z : ℕ). number c (child z)) (source t m ∙ sym (source u n)) ∙ sym (ap (λ (z : Edge). z.source) y))
      (ap (λ (z : Edge). z.target) x ∙ sym (ap (λ (z : Edge). z.target) y))
      (let a : e.transition ≡ t = ap (λ (z : Edge). z.transition) x in let b : f.transition ≡ u = ap (λ (z : Edge). z.transition) y in omega arith))
      (ascending_pairwise ts (ascending_keep _ (transitions c) (ascending_below _))))
    where
      ts : List ℕ
      ts = keep (λ t. eqb (transition_at c t).source s && same_place (departure c t) r) (transitions c)

      source : (t : ℕ) → Mem t ts → (transition_at c t).source ≡ s
      source t m = let h = (keep_at (λ t. eqb (transition_at c t).source s && same_place (departure c t) r) (transitions c) m).1 in eqb-true (transition_at c t).source s (search parts)

  -- the edges that the child s has to a place
  to_place_ascends : (s : ℕ) (r : Place) → Pairwise Less (to_place c s r)
  unfolding to_place heard_exits edge own_edge signalling
  to_place_ascends s (idle q) = pairwise_map Less make (heard_exits c s) (pairwise_by (λ p r. exit_channel c p < exit_channel c r) (λ p r. Less (make p) (make r)) (heard_exits c s) (λ p r m n l. by_channel refl refl refl refl l)
      (pairwise_keep (λ p r. exit_channel c p < exit_channel c r) _ (exit_pairs c) (exit_channels_ascend c)))
    where
      make : Pair → Edge
      make p = own_edge c (child s) (idle q) (signalling 2 (exit_channel c p))
  to_place_ascends s (child d) = bearing_all_ascends s (child d)
  to_place_ascends s (pre p) = bearing_all_ascends s (pre p)
  to_place_ascends s (post t) = bearing_all_ascends s (post t)

  to_place_target : (s : ℕ) (r : Place) (e : Edge) → Mem e (to_place c s r) → e.target ≡ number c r
  unfolding to_place edge own_edge
  to_place_target s (idle q) e m = let k = map_at _ (heard_exits c s) m in ap (λ (x : Edge). x.target) k.2
  to_place_target s (child d) e m = let k = bearing_all_at c s (child d) m in ap (λ (x : Edge). x.target) k.0.bears.edge_is ∙ ap (number c) k.1
  to_place_target s (pre p) e m = let k = bearing_all_at c s (pre p) m in ap (λ (x : Edge). x.target) k.0.bears.edge_is ∙ ap (number c) k.1
  to_place_target s (post t) e m = let k = bearing_all_at c s (post t) m in ap (λ (x : Edge). x.target) k.0.bears.edge_is ∙ ap (number c) k.1

  -- the edges of one place: by target
  from_child_ascends : (s : ℕ) → Region c (parent_of c s) → Pairwise Less (concat (to_place c s) (places c (parent_of c s)))
  from_child_ascends s g = pairwise_concat Less (to_place c s) (places c (parent_of c s)) (λ r m. to_place_ascends s r)
      (pairwise_by (λ p r. number c p < number c r) (λ p r. (e f : Edge) → Mem e (to_place c s p) → Mem f (to_place c s r) → Less e f) (places c (parent_of c s))
      (λ p r m n l e f a b. by_target
      (source_of c (child s) e (to_place_at c s p (places_at c (parent_of c s) m).0 a) ∙ sym (source_of c (child s) f (to_place_at c s r (places_at c (parent_of c s) n).0 b)))
      (omega (arith, to_place_target s p e a, to_place_target s r f b)))
      (numbers_ascend_within c g))

  children_ascend : (q : ℕ) → Region c q → Pairwise (λ s t. number c (child s) < number c (child t)) (children c q)
  unfolding places
  children_ascend q g = pairwise_of_map (λ p r. number c p < number c r) child (children c q) (pairwise_left (λ p r. number c p < number c r) (map child (children c q)) _ (numbers_ascend_within c g).1)

  from_idle_ascends : (q : ℕ) → Region c q → Pairwise Less (from_place c (idle q))
  unfolding from_place heard_entries edge own_edge signalling
  from_idle_ascends q g = pairwise_concat Less _ (children c q)
      (λ s m. pairwise_map Less (make s) (heard_entries c s) (pairwise_by (λ p r. enter_channel c p < enter_channel c r) (λ p r. Less (make s p) (make s r)) (heard_entries c s) (λ p r j k l. by_channel refl refl refl refl l)
      (pairwise_keep (λ p r. enter_channel c p < enter_channel c r) _ (enter_pairs c) (enter_channels_ascend c))))
      (pairwise_by (λ s t. number c (child s) < number c (child t)) (λ s t. (e f : Edge) → Mem e (map (make s) (heard_entries c s)) → Mem f (map (make t) (heard_entries c t)) → Less e f) (children c q)
      (λ s t m n l e f a b. let j = map_at (make s) (heard_entries c s) a in let k = map_at (make t) (heard_entries c t) b in
      by_target (ap (λ (x : Edge). x.source) j.2 ∙ sym (ap (λ (x : Edge). x.source) k.2))
      (let x : e.target ≡ number c (child s) = ap (λ (x : Edge). x.target) j.2 in let y : f.target ≡ number c (child t) = ap (λ (x : Edge). x.target) k.2 in omega arith))
      (children_ascend q g))
    where
      make : ℕ → Pair → Edge
      make s p = own_edge c (idle q) (child s) (signalling 2 (enter_channel c p))

  pub from_place_ascends : (p : Place) → IsPlace c p → Pairwise Less (from_place c p)
  unfolding from_place place_home
  from_place_ascends (idle q) k = from_idle_ascends q k.region
  from_place_ascends (child s) k = from_child_ascends s k.region
  from_place_ascends (pre p) k = (λ y m. absurd (not-nil m), tt)
  from_place_ascends (post t) k = (λ y m. absurd (not-nil m), tt)

  -- all edges: by source
  pub edges_pairwise : Pairwise Less (flatten c).edges
  unfolding flatten
  edges_pairwise = pairwise_concat Less (from_place c) (all_places c) (λ p m. from_place_ascends p (all_places_at c m))
      (pairwise_by (λ p r. number c p < number c r) (λ p r. (e f : Edge) → Mem e (from_place c p) → Mem f (from_place c r) → Less e f) (all_places c)
      (λ p r m n l e f a b. by_source (omega (arith, source_of c p e (from_place_at c p a), source_of c r f (from_place_at c r b)))) (numbers_ascend c))

  pub edges_ascend_lem : edges_ascend (flatten c).edges ≡ true
  edges_ascend_lem = edges_ascend_by (flatten c).edges edges_pairwise

  -- so none comes twice
  pub edges_once : Once (flatten c).edges
  edges_once = pairwise_once (flatten c).edges (pairwise_by Less (λ e f. e ≢ f) (flatten c).edges (λ e f m n l q. less_irreflexive f (subst (λ (x : Edge). Less x f) q l)) edges_pairwise)

  pub edge_at_injective : (m k : ℕ) → m < length (flatten c).edges → k < length (flatten c).edges → edge_at (flatten c) m ≡ edge_at (flatten c) k → m ≡ k
  unfolding edge_at
  edge_at_injective m k h l e = once_get_d (flatten c).edges _ m k edges_once h l e
