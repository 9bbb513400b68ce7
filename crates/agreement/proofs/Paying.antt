-- One pending transition makes a move, from f to g: the others stay pending, since their homes are not nested. It has made all
-- its moves (`placed_rest`), or goes on to its entry (`placed_next`).
use mathlib.Core.Path.{◌≡◌, refl, sym, ap, ◌∙◌, subst}
use mathlib.Core.Bool.{true, false}
use mathlib.Core.Logic.{◌⊎◌, inl, inr, ⊎_elim, ◌≢◌}
use mathlib.Core.List.Memᴰ.{cases_cons}
use mathlib.Core.List.Memᴰ.{cast}
use mathlib.Core.List.Memᴰ.{head as here}
use mathlib.Core.List.Memᴰ.{tail as there}
use mathlib.Core.List.{List, ◌∷◌, Memᴰ as Mem}
use Prim.Native.Nat.{ℕ, ◌+◌, ◌<◌}
use native.Mathlib.Omega.{arith}
use native.Mathlib.Decide.{ℕ_discrete}
use Rattle.clocks.specs.Clocks.{keeps}
use Rattle.lists.proofs.Bools.{clash, decided}
use Rattle.lists.proofs.Once.{Once}
use Rattle.chart_records.specs.Chart.{Chart, transition_at, home}
use Rattle.chart_records.specs.Tree.{under}
use Rattle.chart_moves.specs.Machine.{is_tree}
use Rattle.chart_records.proofs.Tree.{size, under_refl, comparable}
use Rattle.chart_records.proofs.Rules.{Passed}
use Rattle.chart_records.proofs.Ranges.{Ranges}
use Rattle.flattening.specs.Flatten.{Place, bounds_of, has_entry}
use Rattle.flattening.specs.Picture.{pictured}
use Rattle.flattening.proofs.Automata.{Region}
use Rattle.flattening.proofs.Arrivals.{ends}
use Rattle.agreement.specs.Agreement.{ChartConfiguration}
use Rattle.agreement.proofs.Relation.{Pending, owes, owes_all, Concerns, IsPending, Placed}
use Rattle.agreement.proofs.Broadcast.{Broadcast}
use Rattle.agreement.proofs.Pending.{concerns_home}

-- a list of pending transitions without one of them
pub record Without (c : Chart) (ps : List Pending) (p : Pending) : Type 0 where
  pub rest : List Pending
  pub kept : (r : Pending) → Mem r rest → Mem r ps × (r ≢ p)
  pub each : (r : Pending) → Mem r ps → (r ≡ p) ⊎ Mem r rest
  pub once : Once rest
  pub owes_is : owes_all c ps ≡ owes c p + owes_all c rest

pub without : (c : Chart) (ps : List Pending) {p : Pending} → Once ps → Mem p ps → Without c ps p
unfolding owes_all
without c (x ∷ xs) {p} o (here e) = record {
  rest = xs;
  kept = λ r m. (there m, λ q. o.0 (cast (sym e ∙ sym q) m));
  each = λ r m. ⊎_elim (λ q. inl (q ∙ sym e)) inr (cases_cons m);
  once = o.1;
  owes_is = ap (λ (z : Pending). owes c z + owes_all c xs) (sym e);
}
without c mathlib.Core.List.[] o m = elim m [ ]
without c (x ∷ xs) {p} o (there m) =
    let w = without c xs o.1 m in
    record {
      rest = x ∷ w.rest;
      kept = λ r k. ⊎_elim (λ q. (here q, λ z. o.0 (cast (sym q ∙ z) m))) (λ j. (there (w.kept r j).0, (w.kept r j).1)) (cases_cons k);
      each = λ r k. ⊎_elim (λ q. inr (here q)) (λ j. ⊎_elim inl (λ i. inr (there i)) (w.each r j)) (cases_cons k);
      once = (λ k. o.0 (w.kept x k).0, w.once);
      owes_is = omega (arith, w.owes_is);
    }

-- how many moves one owes
pub owes_both : (c : Chart) (p : Pending) → p.leaving ≡ true → has_entry c p.transition ≡ true → owes c p ≡ 2
unfolding owes
owes_both c p l e = rw (l, e)

pub owes_exit : (c : Chart) (p : Pending) → p.leaving ≡ true → has_entry c p.transition ≡ false → owes c p ≡ 1
unfolding owes
owes_exit c p l e = rw (l, e)

pub owes_entry : (c : Chart) (p : Pending) → p.leaving ≡ false → owes c p ≡ 1
unfolding owes
owes_entry c p l = rw l

module _ (c : Chart) (passed : Passed c) (ranges : Ranges c) (σ : ChartConfiguration) (tree : is_tree c σ ≡ true) (f g : ℕ → Place) (ps : List Pending) (placed : Placed c σ f ps)
    (p : Pending) (m : Mem p ps) (elsewhere : (q : ℕ) → Region c q → q ≢ home c p.transition → (Concerns c p q → ⊥) → g q ≡ f q) where
  abbrev others_left : Without c ps p
  others_left = without c ps placed.once m

  -- below the home of another nothing changes
  off_home : (r : Pending) → Mem r ps → r ≢ p → (x : ℕ) → x < size c → under c (home c r.transition) x ≡ true → under c (home c p.transition) x ≡ true → ⊥
  off_home r n d x h u v = ⊎_elim (λ w. d (placed.apart r p n m w)) (λ w. d (sym (placed.apart p r m n w))) (comparable c passed.tree (home c r.transition) (home c p.transition) x h u v)

  unchanged : (r : Pending) → Mem r ps → r ≢ p → (x : ℕ) → Region c x → under c (home c r.transition) x ≡ true → g x ≡ f x
  unchanged r n d x z u = elsewhere x z
      (λ e. off_home r n d x z.known u (subst (λ (y : ℕ). under c y x ≡ true) e (under_refl c x)))
      (λ w. off_home r n d x z.known u (concerns_home c passed ranges σ tree f p (placed.each p m) x z.known w))

  still_pending : (r : Pending) → Mem r ps → r ≢ p → IsPending c σ g r
  still_pending r n d = let k = placed.each r n in record {
    known = k.known;
    leaves = k.leaves;
    enters = k.enters;
    arrived = k.arrived;
    home_at = unchanged r n d (home c r.transition) (ends c passed ranges r.transition k.known).region (under_refl c _) ∙ k.home_at;
    below_at = λ x z w.
        let e = unchanged r n d x z (concerns_home c passed ranges σ tree f r k x z.known w) in
        ⊎_elim (λ i. inl (e ∙ i)) (λ h. inr (record { still = h.still; below_source = h.below_source; at = h.at; is_child_lem = h.is_child_lem; hears = h.hears; stands = e ∙ h.stands })) (k.below_at x z w);
  }

  apart_rest : (r s : Pending) → Mem r others_left.rest → Mem s others_left.rest → under c (home c r.transition) (home c s.transition) ≡ true → r ≡ s
  apart_rest r s i j u = placed.apart r s (others_left.kept r i).0 (others_left.kept s j).0 u

  -- where no pending transition has an automaton it stays where the picture has it
  others_rest : (q : ℕ) → Region c q → q ≢ home c p.transition → (Concerns c p q → ⊥)
      → ((r : Pending) → Mem r others_left.rest → (q ≡ home c r.transition → ⊥) × (Concerns c r q → ⊥)) → g q ≡ pictured c σ q
  others_rest q z d n h = elsewhere q z d n ∙ placed.others q z (λ r k. ⊎_elim
      (λ e. (λ y. d (y ∙ ap (λ (x : Pending). home c x.transition) e), λ w. n (subst (λ (x : Pending). Concerns c x q) e w)))
      (λ i. h r i) (others_left.each r k))

  -- all its moves are made
  pub placed_rest : g (home c p.transition) ≡ pictured c σ (home c p.transition) → ((q : ℕ) → Region c q → Concerns c p q → g q ≡ pictured c σ q) → Placed c σ g others_left.rest
  placed_rest at_home below = record {
    each = λ r i. let k = others_left.kept r i in still_pending r k.0 k.1;
    apart = apart_rest;
    once = others_left.once;
    others = λ q z h. elim (ℕ_discrete q (home c p.transition)) [
      | yes e ↦ subst (λ (x : ℕ). g x ≡ pictured c σ x) (sym e) at_home
      | no d ↦ ⊎_elim
          (λ u. below q z (inl u))
          (λ u. ⊎_elim (λ v. below q z (inr v)) (λ v. others_rest q z d (λ w. ⊎_elim (λ x. clash x u) (λ x. clash x v) w) h) (decided (under c (transition_at c p.transition).destination q)))
          (decided (under c (transition_at c p.transition).source q))
    ];
  }

  -- or the next one is to come
  module _ (n : Pending) (same : n.transition ≡ p.transition) (k : IsPending c σ g n) where
    home_of_next : home c n.transition ≡ home c p.transition
    home_of_next = ap (home c) same

    pub placed_next : Placed c σ g (n ∷ others_left.rest)
    placed_next = record {
      each = λ r i. ⊎_elim (λ e. subst (IsPending c σ g) (sym e) k) (λ j. let w = others_left.kept r j in still_pending r w.0 w.1) (cases_cons i);
      apart = λ r s i j u. ⊎_elim
          (λ e. ⊎_elim (λ d. e ∙ sym d)
          (λ y. let w = others_left.kept s y in absurd (w.1 (sym (placed.apart p s m w.0 (subst (λ (x : ℕ). under c x (home c s.transition) ≡ true) (ap (λ (x : Pending). home c x.transition) e ∙ home_of_next) u))))) (cases_cons j))
          (λ x. ⊎_elim
          (λ d. let w = others_left.kept r x in absurd (w.1 (placed.apart r p w.0 m (subst (λ (y : ℕ). under c (home c r.transition) y ≡ true) (ap (λ (y : Pending). home c y.transition) d ∙ home_of_next) u))))
          (λ y. apart_rest r s x y u) (cases_cons j))
          (cases_cons i);
      once = (λ i. let w = others_left.kept n i in w.1 (placed.apart n p w.0 m (subst (λ (x : ℕ). under c x (home c p.transition) ≡ true) (sym home_of_next) (under_refl c _))), others_left.once);
      others = λ q z h. others_rest q z (λ e. (h n (here refl)).0 (e ∙ sym home_of_next)) (λ w. (h n (here refl)).1 (subst (λ (x : ℕ). (under c (transition_at c x).source q ≡ true) ⊎ (under c (transition_at c x).destination q ≡ true)) (sym same) w)) (λ r i. h r (there i));
    }

-- a move that pays: the automata go from f to `places`, and one less is owed
pub record Payment (c : Chart) (σ : ChartConfiguration) (f : ℕ → Place) (ps : List Pending) (home : ℕ) : Type 0 where
  pub places : ℕ → Place
  pub channel : ℕ
  pub pending : List Pending
  pub broadcast : Broadcast c f places home channel
  pub placed : Placed c σ places pending
  pub pays : owes_all c ps ≡ owes_all c pending + 1
  pub bounds : ((q : ℕ) → Region c q → keeps (bounds_of c (f q)) σ.clocks ≡ true) → (q : ℕ) → Region c q → keeps (bounds_of c (places q)) σ.clocks ≡ true
