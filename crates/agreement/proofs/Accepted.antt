-- What it says that a network accepts a step or a wait, and that two answers are alike.
use mathlib.Core.Path.{◌≡◌, refl, sym, ap, ◌∙◌, subst}
use mathlib.Core.Bool.{Bool, true, false}
use mathlib.Core.List.{List, map, map-map, Memᴰ as Mem}
use Prim.Native.Nat.{ℕ}
use native.Mathlib.Omega.{arith}
use borrow.Author.Tests.{not-true}
use lib.ListN.{length}
use Rattle.lists.specs.Lists.{any}
use Rattle.reading.specs.Answer.{Answer, done, refused, unless}
use Rattle.labels.specs.Label.{Label}
use Rattle.steps.specs.Moves.{all_stay}
use Rattle.lists.proofs.Bools.{implies_at, implies_by}
use Rattle.lists.proofs.Lists.{all_at, all_by, any_at, any_by, map_at, map_by}
use Rattle.steps.proofs.Last.{Late, done_late, late_past}
use Rattle.steps.proofs.Moves.{Known, known_at, known_by}
use Rattle.reading.proofs.Answer.{unless_at, unless_by, refused_not, done_injective, refused_injective}
use Rattle.network_records.specs.Network.{Edge, Network, urgent_at, edge_at, owner_of}
use Rattle.network_moves.specs.Machine.{is_configuration, bounds_kept, active_edge, urgent, after, tested, step, wait}
use Rattle.agreement.specs.Agreement.{NetworkConfiguration, Accepts, Alike, is_urgent}
use Rattle.steps.proofs.Sets.{AllowedSet, allowed_set_at, allowed_set_by}

-- where two are alike and one is no refusal, nor is the other
pub alike_accepts : {A B : Type 0} (a : Answer A) (b : Answer B) → Alike a b → Accepts a → Accepts b
unfolding Alike Accepts
alike_accepts (done a) (done b) h k = (b, refl)
alike_accepts (done a) (refused j) h k = absurd h
alike_accepts (refused i) (done b) h k = absurd h
alike_accepts (refused i) (refused j) h k = refused_not k.1

-- then they are refused by the same number
pub alike_refused : {A B : Type 0} {k : ℕ} (a : Answer A) (b : Answer B) → Alike a b → a ≡ refused k → b ≡ refused k
unfolding Alike
alike_refused (done a) b h e = refused_not (sym e)
alike_refused (refused i) (done b) h e = absurd h
alike_refused (refused i) (refused j) h e = ap refused (sym h ∙ refused_injective e)

pub alike_back : {A B : Type 0} (a : Answer A) (b : Answer B) → Alike a b → Alike b a
unfolding Alike
alike_back (done a) (done b) h = tt
alike_back (done a) (refused j) h = h
alike_back (refused i) (done b) h = h
alike_back (refused i) (refused j) h = sym h

-- two that make the same two tests, by the same numbers, and then lead on
pub alike_by : {A B : Type 0} (m n : ℕ) (a : A) (b : B) (t u : Bool) → Alike (unless m t (unless n u (done a))) (unless m t (unless n u (done b)))
unfolding Alike unless
alike_by m n a b true true = tt
alike_by m n a b true false = refl
alike_by m n a b false u = refl

abbrev pub Move : Network → NetworkConfiguration → List ℕ → Type 0
Move n ν ms = AllowedSet (λ m. (edge_at n m).label) (λ m. owner_of n (edge_at n m)) (λ m. active_edge n ν (edge_at n m)) (length n.edges) n.rendezvous ms

-- a step that passes the tests up to 20
pub record AllowedMove (n : Network) (ν : NetworkConfiguration) (ms : List ℕ) : Type 0 where
  pub given : is_configuration n ν ≡ true
  pub are_known : Known (length n.edges) ms
  pub each_active : (m : ℕ) → Mem m ms → active_edge n ν (edge_at n m) ≡ true
  pub urgent_first : urgent n ν ≡ true → is_urgent n ms ≡ true
  pub is_allowed_lem : Move n ν ms

-- a step that the network accepts
pub record Accepted (n : Network) (ν : NetworkConfiguration) (ms : List ℕ) (μ : NetworkConfiguration) : Type 0 where
  pub tests : AllowedMove n ν ms
  pub all_stay_lem : all_stay (map (λ m. (edge_at n m).label) ms) ν.variables ≡ true
  pub bounds_kept_lem : bounds_kept n μ ≡ true
  pub result : after n (map (edge_at n) ms) ν ≡ μ

module _ (n : Network) where
  -- some member leaves an urgent location
  urgent_edges : (ms : List ℕ) → any (λ e. urgent_at n e.source) (map (edge_at n) ms) ≡ true → is_urgent n ms ≡ true
  unfolding is_urgent
  urgent_edges ms h =
      let r = any_at (λ e. urgent_at n e.source) (map (edge_at n) ms) h in
      let k = map_at (edge_at n) ms r.1 in
      any_by (λ m. urgent_at n (edge_at n m).source) k.1 (ap (λ (e : Edge). urgent_at n e.source) (sym k.2) ∙ r.2)

  edges_urgent : (ms : List ℕ) → is_urgent n ms ≡ true → any (λ e. urgent_at n e.source) (map (edge_at n) ms) ≡ true
  unfolding is_urgent
  edges_urgent ms h = let r = any_at (λ m. urgent_at n (edge_at n m).source) ms h in any_by (λ e. urgent_at n e.source) (map_by (edge_at n) r.1) r.2

  pub urgent_at_lem : (ms : List ℕ) → is_urgent n ms ≡ true → (m : ℕ) × Mem m ms × (urgent_at n (edge_at n m).source ≡ true)
  unfolding is_urgent
  urgent_at_lem ms h = any_at (λ m. urgent_at n (edge_at n m).source) ms h

  pub urgent_by : {m : ℕ} (ms : List ℕ) → Mem m ms → urgent_at n (edge_at n m).source ≡ true → is_urgent n ms ≡ true
  unfolding is_urgent
  urgent_by ms k h = any_by (λ m. urgent_at n (edge_at n m).source) k h

  -- a step that is accepted, or refused by 28 or 21, passes the tests up to 20
  pub allowed_move_at : (ν : NetworkConfiguration) (ms : List ℕ) {x : Answer NetworkConfiguration} → Late x → step n ν ms ≡ x → AllowedMove n ν ms
  unfolding step
  allowed_move_at ν ms late h =
      let a = late_past 26 _ _ late (λ e. omega arith) (λ e. omega arith) h in
      let b = late_past 18 _ _ late (λ e. omega arith) (λ e. omega arith) a.1 in
      let d = late_past 19 _ _ late (λ e. omega arith) (λ e. omega arith) b.1 in
      let e = late_past 27 _ _ late (λ e. omega arith) (λ e. omega arith) d.1 in
      let g = late_past 20 _ _ late (λ e. omega arith) (λ e. omega arith) e.1 in
      record {
        given = a.0;
        are_known = known_at _ ms b.0;
        each_active = λ m k. all_at (active_edge n ν) _ d.0 (map_by (edge_at n) k);
        urgent_first = λ u. urgent_edges ms (implies_at (urgent n ν) _ e.0 u);
        is_allowed_lem = allowed_set_at _ _ _ _ _ ms g.0;
      }

  -- and then it answers by those two
  pub allowed_move_by : (ν : NetworkConfiguration) (ms : List ℕ) → AllowedMove n ν ms
      → step n ν ms ≡ unless 28 (all_stay (map (λ m. (edge_at n m).label) ms) ν.variables) (tested n (after n (map (edge_at n) ms) ν))
  unfolding step
  allowed_move_by ν ms h =
      unless_by 26 _ h.given
      ∙ (unless_by 18 _ (known_by _ ms h.are_known)
      ∙ (unless_by 19 _ (all_by (active_edge n ν) _ (λ x k. let r = map_at (edge_at n) ms k in ap (active_edge n ν) r.2 ∙ h.each_active r.0 r.1))
      ∙ (unless_by 27 _ (implies_by (urgent n ν) _ (λ u. edges_urgent ms (h.urgent_first u)))
      ∙ (unless_by 20 _ (allowed_set_by _ _ _ _ _ ms h.is_allowed_lem)
      ∙ ap (λ (ls : List Label). unless 28 (all_stay ls ν.variables) (tested n (after n (map (edge_at n) ms) ν))) (map-map (λ (e : Edge). e.label) (edge_at n) ms)))))

  pub accepted_at : (ν : NetworkConfiguration) (ms : List ℕ) {μ : NetworkConfiguration} → step n ν ms ≡ done μ → Accepted n ν ms μ
  unfolding tested
  accepted_at ν ms h =
      let a = allowed_move_at ν ms done_late h in
      let b = unless_at 28 _ _ (sym (allowed_move_by ν ms a) ∙ h) in
      let d = unless_at 21 _ _ b.1 in
      let e = done_injective d.1 in
      record { tests = a; all_stay_lem = b.0; bounds_kept_lem = subst (λ (x : NetworkConfiguration). bounds_kept n x ≡ true) e d.0; result = e }

  pub accepted_by : (ν : NetworkConfiguration) (ms : List ℕ) {μ : NetworkConfiguration} → Accepted n ν ms μ → step n ν ms ≡ done μ
  unfolding tested
  accepted_by ν ms h =
      allowed_move_by ν ms h.tests
      ∙ (unless_by 28 _ h.all_stay_lem
      ∙ (unless_by 21 _ (ap (bounds_kept n) h.result ∙ h.bounds_kept_lem) ∙ ap done h.result))

  -- a wait is accepted only where no urgent location is occupied
  pub wait_not_urgent : (ν : NetworkConfiguration) (d : ℕ) → Accepts (wait n ν d) → urgent n ν ≡ false
  unfolding wait Accepts
  wait_not_urgent ν d h = let a = unless_at 26 _ _ h.1 in let b = unless_at 22 _ _ a.1 in not-true _ (unless_at 27 _ _ b.1).0
