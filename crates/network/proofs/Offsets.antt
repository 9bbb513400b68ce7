-- The edges of a checked file, each at its offset.
use mathlib.Core.Path.{◌≡◌, refl, sym, ap, ap₂, ◌∙◌}
use mathlib.Core.Bool.{Bool, true, false, ◌&&◌}
use mathlib.Core.List.{List, [], ◌∷◌}
use Prim.Native.Nat.{ℕ, ◌+◌, ◌-◌, ◌≤◌, ◌<◌}
use native.Mathlib.Omega.{arith}
use lib.Dec.{eqb}
use lib.ListN.{length, get_or, drop, length-drop, drop_of_length-le}
use Rattle.reading.specs.Reading.{got, byte2, recorded}
use Rattle.reading.specs.Places.{onward}
use Rattle.lists.proofs.Parts.{drop_next}
use Rattle.network_records.specs.Network.{Edge, Network, location_at, edge_at, owner_of, key, lex_less, edges_ascend}
use Rattle.network_records.specs.Edges.{edge_in, Kept}
use Rattle.network_records.specs.Layout.{Laid}
use Rattle.network.specs.Keys.{key_of}
use Rattle.network_records.specs.declared.header.Counts.{Counts}
use Rattle.network_records.specs.declared.edge.Edge as code
use Rattle.network_records.proofs.Edges.{few_edges}

module _ {rest : List ℕ} {k : Counts} {offsets : List ℕ} {n : Network} (L : Laid rest k offsets n) where
  module _ (i : ℕ) (h : i < k.edges) where
    laid_edge : (t : List ℕ) × (recorded byte2 (edge_in k) (onward rest (get_or offsets i 0)) ≡ got (edge_at n i) t)
    unfolding edge_at
    laid_edge = L.placed i (omega (arith, L.edges)) _

    module _ {place : ℕ} (e : i < 1024 → place ≡ get_or offsets i 0) where
      pub there : (t : List ℕ) × (recorded byte2 (edge_in k) (onward rest place) ≡ got (edge_at n i) t)
      there = let w = laid_edge in (w.0, ap (λ (p : ℕ). recorded byte2 (edge_in k) (onward rest p)) (e (omega (arith, few_edges k L.located.in_range_lem))) ∙ w.1)

  -- what a loop over the edges has left to see
  pub edges_next : (i : ℕ) → i < k.edges → drop i n.edges ≡ edge_at n i ∷ drop (i + 1) n.edges
  unfolding edge_at
  edges_next i h = drop_next n.edges i _ (omega (arith, L.edges))

  pub edges_end : (i : ℕ) → k.edges ≤ i → drop i n.edges ≡ []
  edges_end i h = drop_of_length-le n.edges {i = i} (omega (arith, L.edges))

  -- whether an edge joins two locations of one automaton, and what it is ordered by
  module _ {c : code.Edge} {e : Edge} (K : Kept k rest c e) where
    pub edge_joins : {b : Bool} → b ≡ eqb (location_at n c.source).automaton (location_at n c.target).automaton
        → eqb (owner_of n e) (location_at n e.target).automaton ≡ b
    unfolding owner_of
    edge_joins h = sym (h ∙ ap₂ (λ (x y : ℕ). eqb (location_at n x).automaton (location_at n y).automaton) K.source K.target)

    pub kept_key : key_of c ≡ key e
    unfolding key
    kept_key = λ j. K.source j ∷ K.target j ∷ K.transition j ∷ K.tested j ∷ K.channel j ∷ []

  -- the order of the edges, from a place on
  module _ (i : ℕ) (o : 1 ≤ i) (h : i < k.edges) where
    ascend_two : edges_ascend (drop (i - 1) n.edges) ≡ (lex_less (key (edge_at n (i - 1))) (key (edge_at n i)) && edges_ascend (drop i n.edges))
    unfolding edges_ascend
    ascend_two =
        let x : drop (i - 1) n.edges ≡ edge_at n (i - 1) ∷ drop i n.edges = edges_next (i - 1) (omega arith) ∙ ap (λ (j : ℕ). edge_at n (i - 1) ∷ drop j n.edges) (let z : i - 1 + 1 ≡ i = omega arith in z) in
        rw (x, edges_next i h)

    pub ascend_next : {b : Bool} → b ≡ lex_less (key (edge_at n (i - 1))) (key (edge_at n i)) → b ≡ true → edges_ascend (drop (i - 1) n.edges) ≡ edges_ascend (drop (i + 1 - 1) n.edges)
    ascend_next e q = ascend_two ∙ ap (λ (x : Bool). x && edges_ascend (drop i n.edges)) (sym e ∙ q) ∙ ap (λ (j : ℕ). edges_ascend (drop j n.edges)) (let z : i ≡ i + 1 - 1 = omega arith in z)

    pub ascend_stop : {b : Bool} → b ≡ lex_less (key (edge_at n (i - 1))) (key (edge_at n i)) → b ≡ false → edges_ascend (drop (i - 1) n.edges) ≡ false
    ascend_stop e q = ascend_two ∙ ap (λ (x : Bool). x && edges_ascend (drop i n.edges)) (sym e ∙ q)

  pub ascend_end : (i : ℕ) → k.edges ≤ i → edges_ascend (drop (i - 1) n.edges) ≡ true
  unfolding edges_ascend
  ascend_end i h = go (drop (i - 1) n.edges) (omega (arith, length-drop (i - 1) n.edges, L.edges))
    where
      go : (es : List Edge) → length es ≤ 1 → edges_ascend es ≡ true
      go [] l = refl
      go (e ∷ []) l = refl
      go (e ∷ (f ∷ es)) l = absurd (omega arith)
