-- Tables that are filled from their first place on.
use mathlib.Core.Path.{◌≡◌, refl, sym, ap, ◌∙◌, subst}
use mathlib.Core.Logic.{◌≢◌}
use mathlib.Core.List.{List, [], ◌∷◌, ◌++◌, append_assoc, append-nil, Memᴰ as Mem}
use Prim.Native.Nat.{ℕ, suc, ◌+◌, ◌≤◌, ◌<◌}
use native.Mathlib.Omega.{arith}
use native.Mathlib.Decide.{ℕ_discrete}
use borrow.Author.Tests.{eqb-true}
use lib.Dec.{eqb}
use lib.ListN.{length, get_or, set, take, length-append, get_or-append}
use lib.Seq.{get_or-set_same, get_or-set_other, get_or-append_seam, take-suc-set}
use Rattle.lists.proofs.Lists.{any_at}
use Rattle.lists.proofs.Columns.{field_more}
use Rattle.lists.proofs.Loops.{FilledTo, filled_to_none, filled_to_more}
use Rattle.lists.proofs.Position.{position_some}
use Rattle.lists.proofs.Pairwise.{once_get_d}
use Rattle.chart_records.specs.Chart.{Chart, transition_at}
use Rattle.chart_records.specs.Tree.{sequentials}
use Rattle.flattening.specs.Flatten.{Pair, automaton}
use Rattle.flattening.proofs.Automata.{sequentials_at, sequentials_once, region_of_automaton}
use Rattle.flatten_places.specs.Tables.{Columned, Automated, Paired}
use Rattle.flatten_places.specs.Filling.{AutomatedTo, PairedTo}
use Rattle.flatten_places.specs.declared.automaton.Automata.{Automata}
use Rattle.flatten_places.specs.declared.pair.Pairs.{Pairs}

-- the columns of the first n transitions
pub record ColumnedTo (c : Chart) (sources destinations exits entries : List ℕ) (n : ℕ) : Type 0 where
  pub source : FilledTo 64 (λ t. (transition_at c t).source) sources n
  pub destination : FilledTo 64 (λ t. (transition_at c t).destination) destinations n
  pub exit : FilledTo 64 (λ t. (transition_at c t).exit) exits n
  pub entry : FilledTo 64 (λ t. (transition_at c t).entry) entries n

pub columned_none : (c : Chart) (s d x e : List ℕ) → ColumnedTo c s d x e 0
columned_none c s d x e = record {
  source = filled_to_none 64 _ s;
  destination = filled_to_none 64 _ d;
  exit = filled_to_none 64 _ x;
  entry = filled_to_none 64 _ e;
}

module _ (c : Chart) (s d x e : List ℕ) (n : ℕ) where
  pub columned_more : ColumnedTo c s d x e n → length s ≡ 64 → length d ≡ 64 → length x ≡ 64 → length e ≡ 64 → n < 64
      → {a b g h : ℕ} → a ≡ (transition_at c n).source → b ≡ (transition_at c n).destination → g ≡ (transition_at c n).exit → h ≡ (transition_at c n).entry
      → ColumnedTo c (set s n a) (set d n b) (set x n g) (set e n h) (n + 1)
  columned_more C ls ld lx le l p q u v = record {
    source = filled_to_more 64 _ s n _ C.source (omega arith) (λ r. p);
    destination = filled_to_more 64 _ d n _ C.destination (omega arith) (λ r. q);
    exit = filled_to_more 64 _ x n _ C.exit (omega arith) (λ r. u);
    entry = filled_to_more 64 _ e n _ C.entry (omega arith) (λ r. v);
  }

  pub columned_all : ColumnedTo c s d x e n → (m : ℕ) → m ≡ length c.transitions → m ≤ 64 → m ≤ n → Columned c (record { sources = s; destinations = d; exits = x; entries = e; count = m })
  columned_all C m k l h = record {
    count = k;
    few = omega arith;
    source = λ t i. C.source t (omega arith) (omega arith);
    destination = λ t i. C.destination t (omega arith) (omega arith);
    exit = λ t i. C.exit t (omega arith) (omega arith);
    entry = λ t i. C.entry t (omega arith) (omega arith);
  }

-- the automata
module _ (c : Chart) (a : Automata) where
  pub automated_none : a.count ≡ 0 → AutomatedTo c (sequentials c) a
  automated_none e = record { seen = []; split = refl; count = e; states = refl; number = λ i h. absurd (omega arith) }

  pub automated_by : {l m : List ℕ} → l ≡ m → AutomatedTo c l a → AutomatedTo c m a
  automated_by e A = subst (λ (l : List ℕ). AutomatedTo c l a) e A

  pub automated_room : (s : ℕ) (rest : List ℕ) → AutomatedTo c (s ∷ rest) a → a.count < length (sequentials c)
  automated_room s rest A = omega (arith, A.count, ap length A.split, length-append A.seen (s ∷ rest))

  pub automated_more : (s : ℕ) (rest : List ℕ) → AutomatedTo c (s ∷ rest) a → length a.states ≡ 16 → length a.numbers ≡ 48 → length (sequentials c) ≤ 16 → s < 48
      → AutomatedTo c rest (record { states = set a.states a.count s; numbers = set a.numbers s a.count; count = a.count + 1 })
  automated_more s rest A ls ln f h = record {
    seen = seen ++ (s ∷ []);
    split = A.split ∙ sym (append_assoc seen (s ∷ []) rest);
    count = omega (arith, A.count, grown);
    states = ap (λ (l : List ℕ). l ++ (s ∷ [])) (A.states ∙ ap (λ (n : ℕ). take n a.states) (sym A.count)) ∙ sym (take-suc-set a.states a.count s (omega (arith, A.count, room)))
        ∙ ap (λ (n : ℕ). take n (set a.states a.count s)) (let z : suc a.count ≡ length (seen ++ (s ∷ [])) = omega (arith, A.count, grown) in z);
    number = λ i k. elim (ℕ_discrete i (length seen)) [
      | yes q ↦ ap (λ (x : ℕ). get_or (set a.numbers s a.count) x 0) (ap (λ (x : ℕ). get_or (seen ++ (s ∷ [])) x 0) q ∙ get_or-append_seam seen s [] 0) ∙ get_or-set_same a.numbers s a.count 0 (omega arith) ∙ A.count ∙ sym q
      | no q ↦ let l : i < length seen = omega (arith, grown) in
          let other : get_or seen i 0 ≢ s = λ e. q (once_get_d (sequentials c) 0 i (length seen) (sequentials_once c) (omega (arith, room)) room (at i l ∙ e ∙ sym last)) in
          ap (λ (x : ℕ). get_or (set a.numbers s a.count) x 0) (get_or-append seen (s ∷ []) 0 i l)
          ∙ get_or-set_other a.numbers s (get_or seen i 0) a.count 0 other
          ∙ A.number i l
    ];
  }
    where
      seen : List ℕ
      seen = A.seen

      grown : length (seen ++ (s ∷ [])) ≡ length seen + 1
      grown = length-append seen (s ∷ [])

      room : length seen < length (sequentials c)
      room = omega (arith, A.count, automated_room s rest A)

      at : (i : ℕ) → i < length seen → get_or (sequentials c) i 0 ≡ get_or seen i 0
      at i l = ap (λ (x : List ℕ). get_or x i 0) A.split ∙ get_or-append seen (s ∷ rest) 0 i l

      last : get_or (sequentials c) (length seen) 0 ≡ s
      last = ap (λ (x : List ℕ). get_or x (length seen) 0) A.split ∙ get_or-append_seam seen s rest 0

  pub automated_all : AutomatedTo c [] a → length (sequentials c) ≤ 16 → Automated c a
  unfolding automaton
  automated_all A f = record {
    count = A.count ∙ ap length (sym all);
    few = f;
    states = all ∙ A.states ∙ ap (λ (n : ℕ). take n a.states) (ap length (sym all));
    number = λ q h. let m = any_at (eqb q) (sequentials c) (position_some (eqb q) (sequentials c) h) in
        let r = sequentials_at c (subst (λ (x : ℕ). Mem x (sequentials c)) (sym (eqb-true q m.0 m.2)) m.1) in
        ap (λ (x : ℕ). get_or a.numbers x 0) (sym (region_of_automaton c r) ∙ ap (λ (x : List ℕ). get_or x (automaton c q) 0) all) ∙ A.number (automaton c q) (omega (arith, ap length all));
  }
    where
      all : sequentials c ≡ A.seen
      all = A.split ∙ append-nil A.seen

-- the pairs
module _ (whole : List Pair) (p : Pairs) where
  pub paired_none : p.count ≡ 0 → PairedTo whole whole p
  paired_none e = record { seen = []; split = refl; paired = record { count = e; few = omega arith; states = refl; marks = refl } }

  pub paired_by : {l m : List Pair} → l ≡ m → PairedTo whole l p → PairedTo whole m p
  paired_by e P = subst (λ (l : List Pair). PairedTo whole l p) e P

  pub paired_room : (x : Pair) (rest : List Pair) → PairedTo whole (x ∷ rest) p → p.count < length whole
  paired_room x rest P = omega (arith, P.paired.count, ap length P.split, length-append P.seen (x ∷ rest))

  pub paired_more : (x : Pair) (rest : List Pair) → PairedTo whole (x ∷ rest) p → length p.states ≡ 64 → length p.marks ≡ 64 → length whole ≤ 64
      → PairedTo whole rest (record { states = set p.states p.count x.state; marks = set p.marks p.count x.mark; count = p.count + 1 })
  paired_more x rest P ls lm f =
      let k = P.paired in
      let room = paired_room x rest P in
      record {
        seen = P.seen ++ (x ∷ []);
        split = P.split ∙ sym (append_assoc P.seen (x ∷ []) rest);
        paired = record {
          count = omega (arith, k.count, length-append P.seen (x ∷ []));
          few = omega (arith, k.count, length-append P.seen (x ∷ []));
          states = field_more (λ x. x.state) P.seen x p.states _ p.count k.states k.count (omega arith) refl;
          marks = field_more (λ x. x.mark) P.seen x p.marks _ p.count k.marks k.count (omega arith) refl;
        };
      }

  pub paired_all : PairedTo whole [] p → Paired whole p
  paired_all P = subst (λ (l : List Pair). Paired l p) (sym (P.split ∙ append-nil P.seen)) P.paired
