-- The pairs that transitions name: the marks of each state as bits, and the walk over states and marks.
use mathlib.Core.Path.{◌≡◌, refl, sym, ap, ap₂, ◌∙◌, subst}
use mathlib.Core.Bool.{Bool, true, false, ◌&&◌, ◌||◌, or-false}
use mathlib.Core.List.Memᴰ.{head as here}
use mathlib.Core.List.Memᴰ.{tail as there}
use mathlib.Core.List.{List, [], ◌∷◌, ◌++◌, map, Memᴰ as Mem}
use Prim.Native.Nat.{ℕ, zero, suc, ◌+◌, ◌*◌, ◌%◌, ◌^◌, ◌≤◌, ◌<◌}
use native.Mathlib.Omega.{arith}
use native.Mathlib.Nat.{one-mul, mod-eq_of_lt, pow-le-pow_right}
use lib.Bits as Words
use native.Mathlib.Decide.{ℕ_discrete}
use borrow.Author.Tests.{eq-eqb, ne_eqb}
use lib.Dec.{eqb}
use lib.ListN.{length, get_or, set, drop, replicate}
use lib.Seq.{get_or-set_same, get_or-set_other}
use Rattle.lists.specs.Lists.{has, any, below, keep, concat}
use Rattle.lists.proofs.Bits.{has_zero, has_one, has_or}
use Rattle.lists.proofs.Lists.{any_more, any_same, keep_none, keep_same, keep_next, keep_left}
use Rattle.lists.proofs.Below.{below_more, below_at, below_next, below_end}
use Rattle.chart_records.specs.Chart.{Chart, states}
use Rattle.flattening.specs.Flatten.{Pair, pairs, transitions, enters_by, leaves_by, enter_pairs, exit_pairs}
use Rattle.flatten_places.specs.Tables.{Columned}
use Rattle.flatten_places.specs.Filling.{pairs_of, names, Named}
use Rattle.flatten_places.specs.declared.transition.Transitions.{Transitions}

-- a mark is put into a set
pub mark_put : (marks m : ℕ) → m < 16 → (i : ℕ) → has (Words.bit_or marks (1 * 2 ^ m % 65536)) i ≡ (has marks i || eqb m i)
mark_put marks m h i = has_or marks (1 * 2 ^ m % 65536) i ∙ ap (λ (b : Bool). has marks i || b) (ap (λ (x : ℕ). has x i) (ap (λ (x : ℕ). x % 65536) (one-mul (2 ^ m)) ∙ mod-eq_of_lt (omega (arith, small))) ∙ has_one m i)
  where
    small : 2 ^ m ≤ 2 ^ 15
    small = pow-le-pow_right {n = 2} (omega arith) {i = m} {j = 15} (omega arith)

-- the walk over the marks of a state
module _ (s marks width : ℕ) (rest : List Pair) where
  pub marks_yes : (m : ℕ) → m < width → has marks m ≡ true → pairs_of s marks (drop m (below width)) ++ rest ≡ record { state = s; mark = m } ∷ (pairs_of s marks (drop (m + 1) (below width)) ++ rest)
  unfolding pairs_of
  marks_yes m h e = ap (λ (l : List ℕ). map (λ m. record { state = s; mark = m }) l ++ rest) (keep_next (has marks) (below_next refl m h) e)

  pub marks_no : (m : ℕ) → m < width → has marks m ≡ false → pairs_of s marks (drop m (below width)) ++ rest ≡ pairs_of s marks (drop (m + 1) (below width)) ++ rest
  unfolding pairs_of
  marks_no m h e = ap (λ (l : List ℕ). map (λ m. record { state = s; mark = m }) l ++ rest) (keep_left (has marks) (below_next refl m h) e)

  pub marks_end : (m : ℕ) → width ≤ m → pairs_of s marks (drop m (below width)) ++ rest ≡ rest
  unfolding pairs_of keep
  marks_end m h = ap (λ (l : List ℕ). map (λ m. record { state = s; mark = m }) (keep (has marks) l) ++ rest) (below_end refl m h)

-- the walk over the states
module _ (named : List ℕ) (width count : ℕ) where
  abbrev pub pairs_from : ℕ → List Pair
  pairs_from s = pairs (λ s. has (get_or named s 0)) width (drop s (below count))

  pub states_next : (s : ℕ) → s < count → pairs_from s ≡ pairs_of s (get_or named s 0) (below width) ++ pairs_from (s + 1)
  unfolding pairs pairs_of concat
  states_next s h = ap (λ (l : List ℕ). concat (λ s. map (λ m. record { state = s; mark = m }) (keep (has (get_or named s 0)) (below width))) l) (below_next refl s h)

  pub states_none : (s : ℕ) → s < count → get_or named s 0 ≡ 0 → pairs_from s ≡ pairs_from (s + 1)
  unfolding pairs_of
  states_none s h e = states_next s h ∙ ap (λ (l : List ℕ). map (λ m. record { state = s; mark = m }) l ++ pairs_from (s + 1)) (keep_none (has (get_or named s 0)) (below width) (λ m k. ap (λ (x : ℕ). has x m) e ∙ has_zero m))

  pub states_end : (s : ℕ) → count ≤ s → pairs_from s ≡ []
  unfolding pairs concat
  states_end s h = ap (λ (l : List ℕ). pairs (λ s. has (get_or named s 0)) width l) (below_end refl s h)

-- the marks with which transitions name states
module _ (states marks : List ℕ) where
  pub named_none : Named states marks 0 (replicate 48 0)
  unfolding any below
  named_none = record { marked = λ s m h k. ap (λ (x : ℕ). has x m) (zeros 48 s) ∙ has_zero m }
    where
      zeros : (w s : ℕ) → get_or (replicate {A = ℕ} w 0) s 0 ≡ 0
      zeros zero s = refl
      zeros (suc w) zero = refl
      zeros (suc w) (suc s) = zeros w s

  module _ (n : ℕ) (l : List ℕ) (N : Named states marks n l) where
    grown : (s m : ℕ) → any (names states marks s m) (below (n + 1)) ≡ (any (names states marks s m) (below n) || names states marks s m n)
    grown s m = ap (any (names states marks s m)) (below_more n) ∙ any_more (names states marks s m) (below n) n

    pub named_not : 48 ≤ get_or states n 0 → Named states marks (n + 1) l
    named_not d = record { marked = λ s m h k. N.marked s m h k ∙ sym (grown s m ∙ rw (ne_eqb (get_or states n 0) s (λ e. omega arith)) (or-false (any (names states marks s m) (below n)))) }

    pub named_more : (s m v : ℕ) → s ≡ get_or states n 0 → m ≡ get_or marks n 0 → length l ≡ 48 → s < 48 → ((i : ℕ) → i < 16 → has v i ≡ (has (get_or l s 0) i || eqb m i)) → Named states marks (n + 1) (set l s v)
    named_more s m v es em len j f = record {
      marked = λ a b h k. elim (ℕ_discrete a s) [
        | yes q ↦ ap (λ (x : ℕ). has (get_or (set l s v) x 0) b) q ∙ ap (λ (x : ℕ). has x b) (get_or-set_same l s v 0 (omega arith)) ∙ f b k
            ∙ ap₂ ◌||◌ (ap (λ (x : ℕ). has (get_or l x 0) b) (sym q) ∙ N.marked a b h k) (ap (λ (x : ℕ). eqb x b) em ∙ sym (ap (λ (x : Bool). x && eqb (get_or marks n 0) b) (eq-eqb (get_or states n 0) a (sym es ∙ sym q))))
            ∙ sym (grown a b)
        | no q ↦ ap (λ (x : ℕ). has x b) (get_or-set_other l s a v 0 q) ∙ N.marked a b h k ∙ sym (grown a b ∙ rw (ne_eqb (get_or states n 0) a (λ e. q (sym e ∙ sym es))) (or-false (any (names states marks a b) (below n))))
      ];
    }

    pub named_all : (m : ℕ) → m ≤ n → n ≤ m → Named states marks m l
    named_all m h k = subst (λ (x : ℕ). Named states marks x l) (let e : n ≡ m = omega arith in e) N

-- pairs by tests that agree
pairs_same : (p q : ℕ → ℕ → Bool) (n : ℕ) (ss : List ℕ) → ((s m : ℕ) → Mem s ss → m < n → p s m ≡ q s m) → pairs p n ss ≡ pairs q n ss
unfolding pairs concat
pairs_same p q n [] f = refl
pairs_same p q n (s ∷ ss) f = ap₂ ◌++◌ (ap (map (λ m. record { state = s; mark = m })) (keep_same (p s) (q s) (below n) (λ m k. f s m (here refl) (below_at n k)))) (pairs_same p q n ss (λ t m k l. f t m (there k) l))

module _ (c : Chart) (t : Transitions) (C : Columned c t) (named : List ℕ) (count width : ℕ) (few : count ≤ 48) (narrow : width ≤ 16) where
  pub enter_named : Named t.destinations t.entries t.count named → count ≡ length c.states → width ≡ c.entries → enter_pairs c ≡ pairs_from named width count 0
  unfolding enter_pairs states enters_by transitions
  enter_named N e w = pairs_same _ _ c.entries _ (λ s m k l. sym (N.marked s m (omega (arith, below_at _ k)) (omega arith) ∙ ap (λ (n : ℕ). any (names t.destinations t.entries s m) (below n)) C.count
      ∙ any_same _ _ (below (length c.transitions)) (λ u z. ap₂ ◌&&◌ (ap (λ (x : ℕ). eqb x s) (C.destination u (below_at _ z))) (ap (λ (x : ℕ). eqb x m) (C.entry u (below_at _ z)))))) ∙ ap₂ (λ (n k : ℕ). pairs (λ s. has (get_or named s 0)) n (below k)) (sym w) (sym e)

  pub exit_named : Named t.sources t.exits t.count named → count ≡ length c.states → width ≡ c.exits → exit_pairs c ≡ pairs_from named width count 0
  unfolding exit_pairs states leaves_by transitions
  exit_named N e w = pairs_same _ _ c.exits _ (λ s m k l. sym (N.marked s m (omega (arith, below_at _ k)) (omega arith) ∙ ap (λ (n : ℕ). any (names t.sources t.exits s m) (below n)) C.count
      ∙ any_same _ _ (below (length c.transitions)) (λ u z. ap₂ ◌&&◌ (ap (λ (x : ℕ). eqb x s) (C.source u (below_at _ z))) (ap (λ (x : ℕ). eqb x m) (C.exit u (below_at _ z)))))) ∙ ap₂ (λ (n k : ℕ). pairs (λ s. has (get_or named s 0)) n (below k)) (sym w) (sym e)
