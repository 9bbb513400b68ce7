-- Laws of the edges that bear transitions.
use mathlib.Core.Path.{◌≡◌, refl, sym, ap, ◌∙◌, subst}
use mathlib.Core.Bool.{Bool, true, false, cond, not, ◌&&◌}
use mathlib.Core.Logic.{◌≢◌}
use mathlib.Core.List.{List, [], ◌∷◌, map, Memᴰ as Mem}
use Prim.Native.Nat.{ℕ, ◌+◌, ◌^◌, ◌≤◌, ◌<◌}
use native.Mathlib.Omega.{arith}
use native.Mathlib.Decide.{ℕ_discrete, dec_lt}
use borrow.Author.Tests.{eq-eqb, ne_eqb, lt-ltb}
use lib.Bits as Words
use lib.Dec.{eqb, ltb}
use lib.ListN.{length, get_or, set, take, replicate, length-map, length-set, length-replicate}
use lib.Seq.{get_or-set_same, get_or-set_other}
use Rattle.lists.specs.Lists.{has, concat}
use Rattle.labels.specs.Label.{Label}
use Rattle.lists.proofs.Bools.{clash, not_yes, cond_yes, cond_no}
use Rattle.lists.proofs.Lists.{get_d_mem}
use Rattle.lists.proofs.Bits.{has_ext, has_zero, has_and, has_bits, has_high}
use Rattle.chart_records.specs.Chart.{Chart, transition_at}
use Rattle.chart_records.specs.Tree.{sequentials}
use Rattle.chart_records.specs.Laid.{Laid}
use Rattle.chart_records.specs.declared.header.Counts.{Counts}
use Rattle.chart_records.proofs.Tree.{size}
use Rattle.chart_records.proofs.Rules.{Passed}
use Rattle.chart_records.proofs.Ranges.{Ranges}
use Rattle.network_records.specs.Network.{Edge}
use Rattle.flattening.specs.Flatten.{Place, child, has_exit, all_places, number, at_exit, initial_place, alternatives, on_values, edge, exit_tested, bearing}
use Rattle.flattening.proofs.Numbers.{all_places_by}
use Rattle.flattening.proofs.Arrivals.{ends, exit_lt, source_place}
use Rattle.flattening.proofs.Edges.{tested_some, tested_none}
use Rattle.flattening.proofs.Printable.{alternative_lt}
use Rattle.flatten_places.specs.Walking.{Tabulated, Spread}
use Rattle.flatten_places.specs.declared.walk.Tables.{Tables}
use Rattle.flatten_places.proofs.Chartered.{passed_of, ranges_of}
use Rattle.flatten_alternatives.specs.Choosing.{choices, Kept}
use Rattle.flatten_alternatives.proofs.Keeping.{kept_at, kept_over}
use Rattle.flatten_edges.specs.Gathering.{head_of}
use Rattle.flatten_edges.specs.Adding.{Adds}
use Rattle.flatten_edges.specs.Ends.{Flagged, Joins, Signalled, start_off}
use Rattle.flatten_edges.specs.Bearing.{BearsEach, Recalled, Recalls}
use Rattle.flatten_edges.specs.declared.flag.Ends.{Ends}
use Rattle.flatten_edges.specs.declared.flag.Signals.{Signals}
use Rattle.flatten_edges.specs.declared.head.Head.{Head}
use Rattle.flatten_edges.proofs.Gathers.{walk_more, walk_all, adds_over}
use Rattle.flatten_edges.proofs.Walks.{flagged_of}
use Rattle.lists.proofs.Concat.{map_ones}

-- the values that mean "at", of a set of automata
pub needed_bits : (c : Chart) (e x : ℕ) → x < 2 ^ length (sequentials c) → length (sequentials c) ≤ 16 → Words.bit_and x (start_off c e) ≡ on_values c e x
unfolding start_off on_values
needed_bits c e x h l = has_ext _ _ (λ a. has_and x _ a ∙ ap (λ (b : Bool). has x a && b) (has_bits f n a) ∙ go a (has x a) refl ∙ sym (has_bits (λ a. has x a && f a) 16 a))
  where
    n : ℕ
    n = length (sequentials c)

    f : ℕ → Bool
    f a = not (at_exit c (initial_place c (get_or (sequentials c) a 0)) e)

    none : (b : Bool) → false ≡ (b && false)
    none true = refl
    none false = refl

    go : (a : ℕ) (b : Bool) → has x a ≡ b → (b && (ltb a n && f a)) ≡ (ltb a 16 && (b && f a))
    go a true z = elim (dec_lt a n) [
      | yes k ↦ rw (lt-ltb a n k, lt-ltb a 16 (omega arith))
      | no k ↦ clash z (has_high n x a h (omega arith))
    ]
    go a false z = none (ltb a 16)

-- of no automaton there are none
and_none : (y : ℕ) → Words.bit_and 0 y ≡ 0
and_none y = has_ext _ _ (λ i. has_and 0 y i ∙ ap (λ (b : Bool). b && has y i) (has_zero i) ∙ sym (has_zero i))

-- an edge for each set
abbrev pub set_edge : Chart → Place → Place → Label → ℕ → ℕ → ℕ → List Edge
set_edge c p q l transition exit x = edge c p q transition (exit_tested x exit) x l ∷ []

module _ (c : Chart) (p q : Place) (l : Label) (xs : List ℕ) (e : Ends) (s : Signals) (transition exit off : ℕ) (sets : List ℕ) (size : ℕ) (B : BearsEach c p q l xs e s exit off sets size) where
  -- the values needed where no automaton is tested, and where some are
  needed_is : (tested by needed : ℕ) → by ≡ exit_tested tested exit → needed ≡ Words.bit_and tested off → tested < 2 ^ length (sequentials c) → needed ≡ cond (eqb by 255) 0 (on_values c by tested)
  needed_is tested by needed y d small = elim (ℕ_discrete tested 0) [
    | yes z ↦ d ∙ ap (λ (w : ℕ). Words.bit_and w off) z ∙ and_none off ∙ sym (cond_yes 0 _ (eq-eqb by 255 (y ∙ tested_none tested exit z)))
    | no z ↦ let e = y ∙ tested_some tested exit z in
        d ∙ ap (Words.bit_and tested) B.off_is ∙ needed_bits c exit tested small B.automata_few ∙ ap (λ (w : ℕ). on_values c w tested) (sym e) ∙ sym (cond_no 0 _ (ne_eqb by 255 (λ w. omega (arith, B.exit_known, e))))
  ]

  pub set_more : (k tested by needed : ℕ) {h : Head} {b g j : List ℕ} {n m i : ℕ} → Adds b n g m (concat (set_edge c p q l transition exit) (take k xs)) → k < length xs → tested ≡ get_or xs k 0 → by ≡ exit_tested tested exit → needed ≡ Words.bit_and tested off
      → ((c : Chart) (p q : Place) (l : Label) → Joins c p q e → Signalled l s → needed ≡ cond (eqb by 255) 0 (on_values c by tested) → h ≡ head_of (edge c p q transition by tested l))
      → ((e : Edge) → h ≡ head_of e → Adds g m j i (e ∷ [])) → Adds b n j i (concat (set_edge c p q l transition exit) (take (k + 1) xs))
  set_more k tested by needed {g = g} {j = j} {m = m} {i = i} W known x y d H A =
      let small : tested < 2 ^ length (sequentials c) = subst (λ (y : ℕ). y < 2 ^ length (sequentials c)) (sym x) (B.small _ (get_d_mem xs k 0 known)) in
      let value = needed_is tested by needed y d small in
      walk_more (set_edge c p q l transition exit) xs k 0 W known (subst (λ (w : ℕ). Adds g m j i (set_edge c p q l transition exit w)) x
      (A _ (H c p q l B.joins B.signals value ∙ ap (λ (w : ℕ). head_of (edge c p q transition w tested l)) y)))

  pub set_all : (k : ℕ) {b g : List ℕ} {n m : ℕ} → Adds b n g m (concat (set_edge c p q l transition exit) (take k xs)) → length xs ≤ k → Adds b n g m (map (λ x. edge c p q transition (exit_tested x exit) x l) xs)
  set_all k {b} {g} {n} {m} W z = subst (Adds b n g m) (map_ones (λ x. edge c p q transition (exit_tested x exit) x l) xs) (walk_all (set_edge c p q l transition exit) xs k W z)

module _ (c : Chart) (t : Tables) (exits homes : List ℕ) (T : Tabulated c t) (S : Spread c exits homes) (counts : Counts) (rest offsets : List ℕ) (L : Laid rest counts offsets c)
    (u : ℕ) (h : u < length c.transitions) (home : ℕ) (o : (transition_at c u).source ≡ home) (i j : ℕ) (q : Place) (f : i ≡ number c (child home)) (g : j ≡ number c q) (m : Mem q (all_places c)) {e : Ends} {s : Signals}
    (J : (c : Chart) (p q : Place) → Flagged c exits homes t.initials → Mem p (all_places c) → Mem q (all_places c) → i ≡ number c p → j ≡ number c q → Joins c p q e)
    (G : (c : Chart) (n : Counts) → Laid rest n offsets c → u < n.transitions → Signalled (transition_at c u).label s)
    (exit : ℕ) (x : exit ≡ get_or t.transitions.exits u 0) where
  passed : Passed c
  passed = passed_of T.chart

  ranges : Ranges c
  ranges = ranges_of T.chart

  joins : Joins c (child (transition_at c u).source) q e
  joins = J c _ q (flagged_of c t exits homes T S) (all_places_by c (source_place c passed ranges u h).is_place) m (f ∙ ap (λ (x : ℕ). number c (child x)) (sym o)) g

  signals : Signalled (transition_at c u).label s
  signals = G c counts L (omega (arith, L.transitions))

  exit_is : exit ≡ (transition_at c u).exit
  exit_is = x ∙ T.transitions.exit u h

  -- without an exit there is one edge
  pub bear_none : {b k : List ℕ} {n d : ℕ} {w : Head} → exit ≡ 255
      → ((c : Chart) (p q : Place) (l : Label) → Joins c p q e → Signalled l s → 0 ≡ cond (eqb 255 255) 0 (on_values c 255 0) → w ≡ head_of (edge c p q u 255 0 l))
      → ((e : Edge) → w ≡ head_of e → Adds b n k d (e ∷ [])) → Adds b n k d (bearing c q u)
  unfolding bearing has_exit
  bear_none {b} {k} {n} {d} z H A = rw (eq-eqb (transition_at c u).exit 255 (sym exit_is ∙ z)) (A _ (H c _ q _ joins signals refl))

  module _ (some : exit ≡ 255 → ⊥) where
    has_exit_lem : has_exit c u ≡ true
    unfolding has_exit
    has_exit_lem = not_yes (ne_eqb (transition_at c u).exit 255 (λ z. some (exit_is ∙ z)))

    all_sets : bearing c q u ≡ map (λ x. edge c (child (transition_at c u).source) q u (exit_tested x exit) x (transition_at c u).label) (alternatives c (transition_at c u).source (transition_at c u).exit)
    unfolding bearing
    all_sets = rw has_exit_lem (ap (λ (y : ℕ). map (λ x. edge c (child (transition_at c u).source) q u (exit_tested x y) x (transition_at c u).label) (alternatives c (transition_at c u).source (transition_at c u).exit)) (sym exit_is))

    module _ {source : ℕ} (from : source ≡ get_or t.transitions.sources u 0) {sets listed sets' listed' : List ℕ} {size : ℕ}
        (A : Recalls t.tree t.fixed t.automata source exit sets listed sets' listed' size) (R : Recalled c home sets listed) where
      exit_small : exit < 8
      exit_small = omega (arith, exit_is, exit_lt c passed ranges u h has_exit_lem, ranges.exits_few)

      source_is : source ≡ home
      source_is = from ∙ T.transitions.source u h ∙ o

      recalls : Kept sets' size (choices c exit source) × Recalled c source sets' listed'
      recalls = A c T.chart T.tree T.fixed T.automata (omega (arith, source_is, o, (ends c passed ranges u h).from.known)) exit_small
          (subst (λ (y : ℕ). Recalled c y sets listed) (sym source_is) R)

      kept : Kept sets' size (choices c (transition_at c u).exit (transition_at c u).source)
      kept = subst (λ (y : ℕ). Kept sets' size (choices c y (transition_at c u).source)) exit_is
          (subst (λ (y : ℕ). Kept sets' size (choices c exit y)) (source_is ∙ sym o) recalls.0)

      recalled : Recalled c home sets' listed'
      recalled = subst (λ (y : ℕ). Recalled c y sets' listed') source_is recalls.1

      -- too many sets
      pub bear_over : (b : List ℕ) (n : ℕ) → 1024 < size → Adds b n b 1025 (bearing c q u) × Recalled c home sets' listed'
      unfolding alternatives
      bear_over b n z = (subst (Adds b n b 1025) (sym all_sets) (adds_over b n _ (simp length-map (kept_over kept z).1)), recalled)

      -- an edge for each set
      pub bear_some : {b k : List ℕ} {n d off : ℕ} → size ≤ 1024
          → ((c : Chart) (homes : List ℕ) → Flagged c exits homes t.initials → t.automata.count ≡ length (sequentials c) → exit < 8 → off ≡ start_off c exit)
          → ((c : Chart) (p q : Place) (l : Label) (xs : List ℕ) → BearsEach c p q l xs e s exit off sets' size → Adds b n k d (map (λ x. edge c p q u (exit_tested x exit) x l) xs))
          → Adds b n k d (bearing c q u) × Recalled c home sets' listed'
      unfolding alternatives
      bear_some {b} {k} {n} {d} {off} z O B =
          let w = kept_at kept z in (
            subst (Adds b n k d) (sym all_sets) (B c _ q _ _ (record {
              joins = joins;
              signals = signals;
              exit_known = exit_small;
              off_is = O c homes (flagged_of c t exits homes T S) T.automata.count exit_small;
              automata_few = passed.at_most;
              few = z;
              counted = w.0;
              stand = w.1;
              small = λ y k. alternative_lt c passed ranges u h has_exit_lem k;
            })),
            recalled,
          )

-- no sets stand in the table to begin with
pub recalled_none : (c : Chart) (s : ℕ) → Recalled c s (replicate 1024 0) (255 ∷ 0 ∷ [])
recalled_none c s = record { long = length-replicate {A = ℕ} 1024 0; two = refl; held = λ z. absurd (z refl) }

-- those of the exit that is asked for stand there already, or they do afterwards
pub recalled_same : (c : Chart) (s e : ℕ) {sets listed : List ℕ} → Recalled c s sets listed → e ≢ 255 → get_or listed 0 0 ≡ e → Kept sets (get_or listed 1 0) (choices c e s)
recalled_same c s e {sets} {listed} R some same = subst (λ (x : ℕ). Kept sets (get_or listed 1 0) (choices c x s)) same (R.held (λ z. some (sym same ∙ z)))

pub recalled_one : (c : Chart) (s e size : ℕ) {sets sets' listed : List ℕ} → Recalled c s sets listed → Kept sets' size (choices c e s) → Recalled c s sets' (set (set listed 0 e) 1 size)
recalled_one c s e size {listed = listed} R k =
    let two = R.two in
    let exit-at : get_or (set (set listed 0 e) 1 size) 0 0 ≡ e =
    get_or-set_other (set listed 0 e) 1 0 size 0 (λ z. omega (arith, z)) ∙ get_or-set_same listed 0 e 0 (omega (arith, two)) in
    let size-at : get_or (set (set listed 0 e) 1 size) 1 0 ≡ size =
    get_or-set_same (set listed 0 e) 1 size 0 (omega (arith, two, length-set listed 0 e)) in
    record {
      long = k.long;
      two = length-set (set listed 0 e) 1 size ∙ length-set listed 0 e ∙ two;
      held = λ z. rw (exit-at, size-at) k;
    }
