-- The transitions that a step is asked for: what the code has of them, by their numbers.
use mathlib.Core.Path.{◌≡◌, sym, ap, ap₂, ◌∙◌, subst}
use mathlib.Core.Bool.{Bool, true, false, cond, ◌&&◌, beq}
use mathlib.Core.Logic.{◌≢◌, ⊎_elim}
use mathlib.Core.List.{List, map, map-map}
use Prim.Native.Nat.{ℕ, ◌+◌, ◌≤◌, ◌<◌, min}
use native.Mathlib.Omega.{arith}
use native.Mathlib.Decide.{dec_lt}
use borrow.Author.Tests.{eq-eqb, ne_eqb, eqb-false, not-true}
use lib.Dec.{ltb, eqb}
use lib.IntN.{ℤ}
use lib.ListN.{length, get_or, take}
use Rattle.lists.specs.Lists.{has, below}
use Rattle.reading.specs.Reading.{got}
use Rattle.reading.specs.Places.{onward}
use Rattle.labels.specs.declared.label.Limits.{Limits}
use Rattle.labels.specs.Label.{limits, Label, body, guards_hold, receives}
use Rattle.steps.specs.Moves.{known, none_fits, maximal, variables_after, clocks_after}
use Rattle.steps.specs.Cases.{member, case_of, case_allows}
use Rattle.steps.specs.declared.step.Member.{Member}
use Rattle.steps.specs.declared.step.Case.{Case}
use Rattle.lists.proofs.Bools.{clash, beq_false}
use Rattle.lists.proofs.Lists.{all_at}
use Rattle.steps.proofs.Moves.{known_each, known_few}
use Rattle.steps.proofs.Steps.{allowed_case, maximal_none}
use Rattle.chart_records.specs.Chart.{Chart, Transition, state_at, transition_at, basic, home}
use Rattle.chart_moves.specs.Machine.{is_active, completed, active_transition, active_after, after}
use Rattle.chart_moves.specs.Active.{is_allowed}
use Rattle.chart_records.specs.Laid.{Laid}
use Rattle.chart_records.specs.Rules.{exits}
use Rattle.chart_steps.specs.Asked.{Prepared, receiving_home, is_maximal}
use Rattle.chart_records.specs.declared.header.Counts.{Counts}
use Rattle.chart_moves.specs.declared.configuration.Configuration.{Configuration}
use Rattle.chart_records.proofs.Ranges.{counts_range}
use Rattle.chart_records.proofs.Transitions.{laid_parts, laid_exit}
use Rattle.chart_records.proofs.Tree.{size, unknown_basic}
use Rattle.chart_rules.proofs.TransitionRules.{transition_mem}
use Rattle.chart_rules.proofs.Crossings.{home_known}
use Rattle.chart_moves.proofs.CompleteSets.{complete_in_is, completed_by_set}

-- a chart has at most 64 transitions
pub transitions_few : {rest : List ℕ} {n : Counts} {offsets : List ℕ} {c : Chart} → Laid rest n offsets c → n.transitions ≤ 64
transitions_few {n = n} L = (counts_range n L.stated.in_range_lem).transitions_few

-- what the code has of one of them, of which it has the number t
module _ {rest : List ℕ} {n : Counts} {offsets : List ℕ} {c : Chart} (L : Laid rest n offsets c) (list : List ℕ) (h : known n.transitions list ≡ true) (i : ℕ) (l : i < length list)
    {t : ℕ} (e : get_or list i 0 < 64 → t ≡ get_or list i 0) where
  pub chosen_at : {A : Type 0} (f : ℕ → A) {r : A} → (t < n.transitions → r ≡ f t) → r ≡ f (get_or list i 0)
  chosen_at f g =
      let k = known_each n.transitions list h i l in
      let q = e (omega (arith, transitions_few L, k)) in
      g (subst (λ (m : ℕ). m < n.transitions) (sym q) k) ∙ ap f q

-- the body of a transition's label, at its place
pub body_here : {rest : List ℕ} {n : Counts} {offsets : List ℕ} {c : Chart} → Laid rest n offsets c → (t : ℕ) → t < n.transitions → {p : ℕ} → p ≡ get_or offsets t 0 + 9
    → {l : Limits} → l ≡ limits n.version n.clocks n.variables → (u : List ℕ) × (body l (onward rest p) ≡ got (transition_at c t).label.body u)
body_here {rest} {n} L t h {p} e q =
    let b = (laid_parts L t h).content in
    (b.0, ap (λ (k : Limits). body k (onward rest p)) q ∙ ap (λ (p : ℕ). body (limits n.version n.clocks n.variables) (onward rest p)) e ∙ b.1)

-- whether a transition is active, by its source, its guards and what is completed
module _ (c : Chart) (σ : Configuration) (t : Transition) {s : ℕ} (e : s ≡ t.source) {a : Bool} (p : a ≡ get_or σ.active s false) where
  pub source_idle : a ≡ false → false ≡ active_transition c σ t
  unfolding active_transition is_active
  source_idle q = rw (← e, ← p, q)

  module _ (q : a ≡ true) {g : Bool} (u : g ≡ guards_hold σ.variables σ.clocks t.label) where
    pub guards_fail : g ≡ false → false ≡ active_transition c σ t
    unfolding active_transition is_active
    guards_fail v = rw (← e, ← p, q, ← u, v)

    module _ (v : g ≡ true) {k : ℕ} (w : k ≡ (state_at c s).kind) where
      pub basic_active : k ≡ 0 → true ≡ active_transition c σ t
      unfolding active_transition is_active basic
      basic_active z = rw (← e, ← p, q, ← u, v, ← w, eq-eqb k 0 z)

      pub composite_active : k ≢ 0 → {x : ℕ} {b : Bool} → x ≡ t.exit → b ≡ completed c σ s x → b ≡ active_transition c σ t
      unfolding active_transition is_active basic
      composite_active z f r = rw (← e, ← p, q, ← u, v, ← w, ne_eqb k 0 z, ← f) r

-- whether the composite source of a transition is completed, by the sets
pub source_complete : {rest : List ℕ} {n : Counts} {offsets rows : List ℕ} {c : Chart} {σ : Configuration} → Prepared rest n offsets σ rows c → (t : ℕ) → t < n.transitions
    → {s x k : ℕ} {a : Bool} → s ≡ (transition_at c t).source → x ≡ (transition_at c t).exit → a ≡ get_or σ.active s false → a ≡ true → k ≡ (state_at c s).kind → k ≢ 0
    → has (get_or rows s 0) x ≡ completed c σ s x
unfolding is_active basic exits
source_complete {n = n} {rows = rows} {c} {σ} R t h {s} {x} p q u v w z =
    let L = R.ready.laid in
    let composite : basic c s ≡ false = ap (λ (k : ℕ). eqb k 0) (sym w) ∙ ne_eqb _ 0 z in
    let rule = all_at (exits c) c.transitions R.ready.exits (transition_mem c t (omega (arith, L.transitions))) in
    let some : eqb x 255 ≡ false = ap (λ (y : ℕ). eqb y 255) q ∙ not-true (eqb (transition_at c t).exit 255) (sym (beq_false (eqb (transition_at c t).exit 255)) ∙ ap (λ (b : Bool). beq b (eqb (transition_at c t).exit 255)) (sym (ap (basic c) (sym p) ∙ composite)) ∙ rule) in
    let declared : x < 8 = ⊎_elim (λ l. omega (arith, q, (counts_range n L.stated.in_range_lem).exits_few)) (λ e. absurd (eqb-false x 255 some (q ∙ e))) (laid_exit L t h) in
    let known : s < size c = elim (dec_lt s (size c)) [ yes l ↦ l | no l ↦ clash (unknown_basic c s (omega arith)) composite ] in
    complete_in_is c σ rows R.complete s x known declared ∙ sym (completed_by_set c σ s x known (sym u ∙ v) composite)

-- the owner of an active receiver of a channel, and 255 of what is none
module _ (x : Label) (ch : ℕ) (a : Bool) (o : ℕ) {s : ℕ} (p : s ≡ x.signal) where
  pub owner_unheard : s ≢ 2 → 255 ≡ cond (receives x ch && a) o 255
  unfolding receives
  owner_unheard v = rw (← p, ne_eqb s 2 v)

  module _ (v : s ≡ 2) {d : ℕ} (q : d ≡ x.channel) where
    pub owner_elsewhere : d ≢ ch → 255 ≡ cond (receives x ch && a) o 255
    unfolding receives
    owner_elsewhere w = rw (← p, eq-eqb s 2 v, ← q, ne_eqb d ch w)

    module _ (w : d ≡ ch) {b : Bool} (r : b ≡ a) where
      pub owner_idle : b ≡ false → 255 ≡ cond (receives x ch && a) o 255
      unfolding receives
      owner_idle z = rw (← p, eq-eqb s 2 v, ← q, eq-eqb d ch w, ← r, z)

      pub owner_hears : b ≡ true → {h : ℕ} → h ≡ o → h ≡ cond (receives x ch && a) o 255
      unfolding receives
      owner_hears z e = rw (← p, eq-eqb s 2 v, ← q, eq-eqb d ch w, ← r, z) e

module _ {rest : List ℕ} {n : Counts} {offsets rows : List ℕ} {c : Chart} (σ : Configuration) (R : Prepared rest n offsets σ rows c) (list : List ℕ) (h : known n.transitions list ≡ true) where
  -- no further active receiver fits, by the tables of the code
  pub maximal_by : (ch : ℕ) {a b : ℕ} (rs hs : List ℕ) → a ≡ min n.transitions 64 → b ≡ min (length list) 16
      → take n.transitions rs ≡ map (receiving_home c σ ch) (below n.transitions) → take (length list) hs ≡ map (home c) list
      → none_fits (take a rs) (take b hs) ≡ is_maximal c σ ch list
  maximal_by ch {a} {b} rs hs p q f g =
      let x : a ≡ n.transitions = omega (arith, p, transitions_few R.ready.laid) in
      let y : b ≡ length list = omega (arith, q, known_few n.transitions list h) in
      ap₂ none_fits (ap (λ (m : ℕ). take m rs) x ∙ f) (ap (λ (m : ℕ). take m hs) y ∙ g)
      ∙ sym (maximal_none (λ m. (transition_at c m).label) (home c) (λ m. active_transition c σ (transition_at c m)) n.transitions ch list
      (λ m l z. absurd (omega (arith, home_known R.ready.laid R.ready.siblings m l, R.ready.tabled.few, z))))
      ∙ ap (λ (k : ℕ). maximal (λ m. (transition_at c m).label) (home c) (λ m. active_transition c σ (transition_at c m)) k ch list) (sym R.ready.laid.transitions)

  -- whether the set is allowed, by its case
  pub allowed_by : {x : Case} {a : ℕ} (ms : List Member) → x ≡ case_of n.rendezvous (take a ms) → a ≡ min (length list) 16
      → take (length list) ms ≡ map (member (λ m. (transition_at c m).label) (home c)) list
      → is_allowed c σ list ≡ case_allows x (λ ch. is_maximal c σ ch list)
  allowed_by {a = a} ms e p f =
      let y : a ≡ length list = omega (arith, p, known_few n.transitions list h) in
      allowed_case (λ m. (transition_at c m).label) (home c) (λ m. active_transition c σ (transition_at c m)) (length c.transitions) c.rendezvous list
      ∙ ap (λ (y : Case). case_allows y (λ ch. is_maximal c σ ch list))
      (ap₂ case_of R.ready.laid.stated.rendezvous (sym (ap (λ (m : ℕ). take m ms) y ∙ f)) ∙ sym e)

-- the configuration after a step, by its parts
pub after_by : (c : Chart) (σ : Configuration) (ms : List ℕ) {a : List Bool} {vs : List ℤ} {cs : List ℕ} → a ≡ map (λ s. ltb s (length c.states) && active_after c σ (map (transition_at c) ms) s) (below 48)
    → vs ≡ variables_after (map (λ m. (transition_at c m).label) ms) σ.variables → cs ≡ clocks_after (map (λ m. (transition_at c m).label) ms) σ.clocks
    → ◌≡◌ {A = Configuration} (record { active = a; variables = vs; clocks = cs }) (after c (map (transition_at c) ms) σ)
unfolding after
after_by c σ ms p q r =
    let e = sym (map-map (λ (t : Transition). t.label) (transition_at c) ms) in
    let v = q ∙ ap (λ (ls : List Label). variables_after ls σ.variables) e in
    let w = r ∙ ap (λ (ls : List Label). clocks_after ls σ.clocks) e in
    λ j. record { active = p j; variables = v j; clocks = w j }
