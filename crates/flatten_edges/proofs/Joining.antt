-- Laws of an edge's ends: what the tables of places say of them, and the heads of edges that join them.
use mathlib.Core.Path.{◌≡◌, refl, sym, ap, ap₂, ◌∙◌}
use mathlib.Core.Bool.{Bool, cond, not}
use mathlib.Core.List.{List, map, Memᴰ as Mem}
use Prim.Native.Nat.{ℕ, ◌+◌, ◌-◌, ◌*◌, ◌^◌, ◌≤◌, ◌<◌}
use native.Mathlib.Nat.{le_of_eq, lt_of_le_of_lt}
use native.Mathlib.Omega.{arith}
use lib.Bits as Words
use lib.Dec.{eqb}
use lib.ListN.{length, get_or, take}
use lib.Seq.{get_or-take}
use Rattle.lists.specs.Lists.{has, bits_from, bits_of}
use Rattle.labels.specs.Label.{Label}
use Rattle.lists.proofs.Lists.{get_d_map}
use Rattle.lists.proofs.Bits.{has_bits_of, bits_none, bits_step, bits_all, low_lt, few_bits}
use Rattle.chart_records.specs.Chart.{Chart}
use Rattle.chart_records.specs.Tree.{sequentials}
use Rattle.flattening.specs.Flatten.{Place, all_places, number, automaton, place_home, at_exit, initial_place, on_values, written_by, edge, own_edge, signalling}
use Rattle.flattening.proofs.Automata.{automaton_lt, region_at_lem, region_of_automaton}
use Rattle.flattening.proofs.Numbers.{IsPlace, all_places_at, number_lt, place_of_number}
use Rattle.flattening.proofs.Arrivals.{initial_place_lem}
use Rattle.flatten_places.specs.Tables.{exits_at}
use Rattle.flatten_places.proofs.Chartered.{passed_of, ranges_of}
use Rattle.flatten_edges.specs.Gathering.{head_of}
use Rattle.flatten_edges.specs.Ends.{Flagged, Joins, Signalled, start_off}
use Rattle.flatten_edges.specs.declared.flag.Ends.{Ends}
use Rattle.flatten_edges.specs.declared.flag.Signals.{Signals}
use Rattle.flatten_edges.specs.declared.head.Head.{Head}
use Rattle.flatten_edges.proofs.Xors.{written_bits, values_bits}

-- a column has a field of each element of a list
pub column_at : {A : Type 0} (f : A → ℕ) (ps : List A) (l : List ℕ) (i : ℕ) (d : A) → map f ps ≡ take (length ps) l → i < length ps → get_or l i 0 ≡ f (get_or ps i d)
column_at f ps l i d e h = sym (get_or-take (length ps) l i 0 h) ∙ ap (λ (x : List ℕ). get_or x i 0) (sym e) ∙ get_d_map f ps i d 0 h

-- a column of places, at a place's number
pub place_at_lem : (c : Chart) (f : Place → ℕ) (l : List ℕ) {p : Place} → map f (all_places c) ≡ take (length (all_places c)) l → IsPlace c p → get_or l (number c p) 0 ≡ f p
place_at_lem c f l {p} e k = column_at f (all_places c) l (number c p) p e (number_lt c k) ∙ ap f (place_of_number c p k)

-- the numbers are those of two places
pub joins_by : (c : Chart) (p q : Place) (marks homes firsts : List ℕ) (e : Ends) → Flagged c marks homes firsts → Mem p (all_places c) → Mem q (all_places c) → e.source ≡ number c p → e.target ≡ number c q
    → e.written ≡ Words.bit_xor (get_or marks e.source 0) (get_or marks e.target 0)
    → e.values ≡ Words.bit_and e.written (Words.bit_xor (get_or marks (get_or firsts (get_or homes e.target 0) 0) 0) (get_or marks e.target 0))
    → Joins c p q e
joins_by c p q marks homes firsts e F m n s t w v =
    let j = all_places_at c m in
    let k = all_places_at c n in
    let from : get_or marks e.source 0 ≡ exits_at c p = ap (λ (i : ℕ). get_or marks i 0) s ∙ place_at_lem c (exits_at c) marks F.exits j in
    let to : get_or marks e.target 0 ≡ exits_at c q = ap (λ (i : ℕ). get_or marks i 0) t ∙ place_at_lem c (exits_at c) marks F.exits k in
    let home : get_or homes e.target 0 ≡ automaton c (place_home c q) = ap (λ (i : ℕ). get_or homes i 0) t ∙ place_at_lem c (λ x. automaton c (place_home c x)) homes F.automata k in
    let first : get_or firsts (get_or homes e.target 0) 0 ≡ number c (initial_place c (place_home c q)) = ap (λ (i : ℕ). get_or firsts i 0) home ∙ F.initials _ (automaton_lt c k.region) ∙ ap (λ (x : ℕ). number c (initial_place c x)) (region_of_automaton c k.region) in
    let start : get_or marks (get_or firsts (get_or homes e.target 0) 0) 0 ≡ exits_at c (initial_place c (place_home c q)) = ap (λ (i : ℕ). get_or marks i 0) first ∙ place_at_lem c (exits_at c) marks F.exits (initial_place_lem c (passed_of F.chart) (ranges_of F.chart) k.region).is_place in
    let write : e.written ≡ written_by c p q = w ∙ ap₂ Words.bit_xor from to ∙ written_bits c p q in
    record { source = s; target = t; written = write; values = v ∙ ap₂ Words.bit_and write (ap₂ Words.bit_xor start to) ∙ values_bits c p q }

-- the head of an edge between them
pub bearing_head_by : (c : Chart) (p q : Place) (l : Label) (e : Ends) (s : Signals) (t exit set needed : ℕ) → Joins c p q e → Signalled l s → needed ≡ cond (eqb exit 255) 0 (on_values c exit set)
    → ◌≡◌ {A = Head} (record { source = e.source; target = e.target; transition = t; exit = exit; tested = set; needed = needed; written = e.written; values = e.values; signal = s.signal; channel = s.channel; resets = s.resets }) (head_of (edge c p q t exit set l))
unfolding edge
bearing_head_by c p q l e s t exit set needed J S n = λ i. record {
  source = J.source i;
  target = J.target i;
  transition = t;
  exit = exit;
  tested = set;
  needed = n i;
  written = J.written i;
  values = J.values i;
  signal = S.signal i;
  channel = S.channel i;
  resets = S.resets i;
}

pub own_head_by : (c : Chart) (p q : Place) (e : Ends) (signal channel : ℕ) → Joins c p q e
    → ◌≡◌ {A = Head} (record { source = e.source; target = e.target; transition = 255; exit = 255; tested = 0; needed = 0; written = e.written; values = e.values; signal = signal; channel = channel; resets = 0 }) (head_of (own_edge c p q (signalling signal channel)))
unfolding own_edge signalling
own_head_by c p q e signal channel J = bearing_head_by c p q (signalling signal channel) e (record { signal = signal; channel = channel; resets = 0 }) 255 255 0 0 J (record { signal = refl; channel = refl; resets = refl }) refl

-- whether an automaton's initial place is at an exit
pub start_at : (c : Chart) (marks homes firsts : List ℕ) (a e : ℕ) → Flagged c marks homes firsts → a < length (sequentials c) → e < 8
    → has (get_or marks (get_or firsts a 0) 0) e ≡ at_exit c (initial_place c (get_or (sequentials c) a 0)) e
unfolding exits_at
start_at c marks homes firsts a e F h l =
    let q = get_or (sequentials c) a 0 in
    let k = initial_place_lem c (passed_of F.chart) (ranges_of F.chart) (region_at_lem c a h) in
    ap (λ (x : ℕ). has x e) (ap (λ (i : ℕ). get_or marks i 0) (F.initials a h) ∙ place_at_lem c (exits_at c) marks F.exits k.is_place) ∙ has_bits_of (at_exit c (initial_place c q)) 8 e l

-- the set of those where it is not, as far as the bits from a on are made
pub record OffFrom (marks firsts : List ℕ) (n e x a : ℕ) : Type 0 where
  pub left : a ≤ n
  pub few : n ≤ 16
  pub small : x < 2 ^ (n - a)
  pub bits : (c : Chart) (homes : List ℕ) → Flagged c marks homes firsts → n ≡ length (sequentials c) → e < 8 → x ≡ bits_from (λ a. not (at_exit c (initial_place c (get_or (sequentials c) a 0)) e)) a (n - a)

module _ (marks firsts : List ℕ) (n e : ℕ) where
  pub off_none : n ≤ 16 → OffFrom marks firsts n e 0 n
  off_none h = record {
    left = omega arith;
    few = h;
    small = omega (arith, ap (λ (i : ℕ). 2 ^ i) (let z : n - n ≡ 0 = omega arith in z));
    bits = λ c homes F l k. sym (bits_none _ n);
  }

  pub off_more : (x y a : ℕ) (b : Bool) → OffFrom marks firsts n e x a → 0 < a → b ≡ has (get_or marks (get_or firsts (a - 1) 0) 0) e → (x < 32768 → y ≡ cond (not b) 1 0 + 2 * x) → OffFrom marks firsts n e y (a - 1)
  off_more x y a b O h t f =
      let few = few_bits x (n - a) 15 O.small (omega (arith, O.left, O.few)) in
      record {
        left = omega (arith, O.left);
        few = O.few;
        small = lt_of_le_of_lt (le_of_eq (f few)) (low_lt (not b) x (n - a) (n - (a - 1)) O.small (omega (arith, O.left)));
        bits = λ c homes F l k.
            f few ∙ ap (λ (z : Bool). cond (not z) 1 0 + 2 * x) (t ∙ start_at c marks homes firsts (a - 1) e F (omega (arith, O.left)) k)
            ∙ bits_step _ n a x h O.left (O.bits c homes F l k);
      }

  pub off_all : (x a : ℕ) → OffFrom marks firsts n e x a → a ≤ 0 → (c : Chart) (homes : List ℕ) → Flagged c marks homes firsts → n ≡ length (sequentials c) → e < 8 → x ≡ start_off c e
  unfolding start_off
  off_all x a O h c homes F l k = O.bits c homes F l k ∙ bits_all _ n a h ∙ ap (bits_of _) l

  pub off_many : (x : ℕ) → 16 < n → (c : Chart) (homes : List ℕ) → Flagged c marks homes firsts → n ≡ length (sequentials c) → e < 8 → x ≡ start_off c e
  off_many x h c homes F l k = absurd (omega (arith, (passed_of F.chart).at_most))
