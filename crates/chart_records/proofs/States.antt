-- State records in a checked file: where each stands, and where its fields do.
use mathlib.Core.Path.{◌≡◌, refl, sym, ap, ◌∙◌, subst}
use mathlib.Core.Bool.{true}
use mathlib.Core.List.{List, []}
use Prim.Native.Nat.{ℕ, ◌+◌, ◌*◌, ◌≤◌, ◌<◌}
use native.Mathlib.Omega.{arith}
use native.Mathlib.Nat.{mul-le-mul}
use lib.ListN.{get_or, get_or-eq_default}
use Rattle.reading.specs.Reading.{got, byte, byte2, recorded}
use Rattle.clocks.specs.Clocks.{row}
use Rattle.reading.specs.Places.{onward}
use Rattle.reading.proofs.Reading.{bind_at, then_at, yield_at, yield_rest, such_at, many_at}
use Rattle.reading.proofs.Places.{onward_all, onward_onward}
use Rattle.reading.proofs.Many.{many_nth}
use Rattle.reading.proofs.InFront.{InFront, yield_front, bind_front, such_front, byte_front, byte2_front}
use Rattle.chart_records.specs.Chart.{Chart, State, state, records, in_range, state_at}
use Rattle.chart_records.specs.Layout.{state_size, state_place, Stated}
use Rattle.chart_records.specs.declared.header.Counts.{Counts}
use Rattle.reading.proofs.Sizes.{Takes, byte_takes, byte2_takes, onto, byte_value, recorded_inside}
use Rattle.clocks.proofs.Rows.{row_takes, row_front}
use Rattle.chart_records.proofs.Ranges.{StateRange, state_range}

module _ (clocks entries exits : ℕ) where
  pub state_front : InFront (state clocks entries exits)
  unfolding state
  state_front =
      bind_front _ _ byte_front λ p. bind_front _ _ (such_front _ _ byte_front) λ k. bind_front _ _ (such_front _ _ byte2_front) λ i.
      bind_front _ _ (such_front _ _ byte_front) λ o. bind_front _ _ (row_front clocks) λ r. yield_front _

  -- the fields of a state that is read at a place
  pub record Fields (s : List ℕ) (at : ℕ) (x : State) (t : List ℕ) : Type 0 where
    pub parent : byte (onward s at) ≡ got x.parent (onward s (at + 1))
    pub kind : byte (onward s (at + 1)) ≡ got x.kind (onward s (at + 2))
    pub entry_marks_lem : byte2 (onward s (at + 2)) ≡ got x.entries (onward s (at + 4))
    pub exit_marks_lem : byte (onward s (at + 4)) ≡ got x.exits (onward s (at + 5))
    pub bounds : row clocks (onward s (at + 5)) ≡ got x.bounds t
    pub range : clocks ≤ 8 → StateRange clocks entries exits x

  pub fields : (s : List ℕ) (at : ℕ) (x : State) (t : List ℕ) → state clocks entries exits (onward s at) ≡ got x t → Fields s at x t
  unfolding state
  fields s at x t h =
      let a = bind_at _ _ (onward s at) h in
      let k = bind_at _ _ a.1 a.3 in
      let i = bind_at _ _ k.1 k.3 in
      let o = bind_at _ _ i.1 i.3 in
      let r = bind_at _ _ o.1 o.3 in
      let p1 = onto s at 1 byte (at + 1) refl byte_takes refl a.2 in
      let p2 = onto s (at + 1) 1 byte (at + 2) p1.1 byte_takes (omega arith) (such_at _ _ a.1 k.2).1 in
      let p3 = onto s (at + 2) 2 byte2 (at + 4) p2.1 byte2_takes (omega arith) (such_at _ _ k.1 i.2).1 in
      let p4 = onto s (at + 4) 1 byte (at + 5) p3.1 byte_takes (omega arith) (such_at _ _ i.1 o.2).1 in
      subst (λ (y : State). Fields s at y t) (yield_at r.1 r.3) (record {
        parent = p1.0;
        kind = p2.0;
        entry_marks_lem = p3.0;
        exit_marks_lem = p4.0;
        bounds = ap (row clocks) (sym p4.1) ∙ r.2 ∙ ap (got r.0) (yield_rest _ r.1 r.3);
        range = λ few. subst (StateRange clocks entries exits) (sym (yield_at r.1 r.3)) (state_range clocks entries exits (onward s at) few h);
      })

  pub state_takes : Takes (state clocks entries exits) (5 + 4 * clocks)
  state_takes s x t h = row_takes clocks _ _ t (fields s 0 x t (ap (state clocks entries exits) (onward_all s) ∙ h)).bounds ∙ onward_onward s 5 (4 * clocks)

  pub record_takes : Takes (recorded byte (state clocks entries exits)) (state_size clocks)
  record_takes s x t h =
      let w = recorded_inside byte _ state_front s h in
      state_takes w.1 x t w.3 ∙ ap (λ (l : List ℕ). onward l (5 + 4 * clocks)) (byte_takes s w.0 w.1 w.2) ∙ onward_onward s 1 (5 + 4 * clocks) ∙ ap (onward s) (omega arith)

-- what is no state
abbrev pub no_state_lem : State
no_state_lem = record { parent = 255; kind = 0; entries = 0; exits = 0; bounds = [] }

-- a chart that is read: its state records stand at their places
pub stated : (rest : List ℕ) (n : Counts) {c : Chart} {t : List ℕ} → in_range n ≡ true → records n (onward rest 8) ≡ got c t → Stated rest n c
unfolding records state_at
stated rest n {c} {t} ok h =
    let a = bind_at _ _ (onward rest 8) h in
    let b = bind_at _ _ a.1 a.3 in
    let z = then_at _ _ b.1 b.3 in
    subst (Stated rest n) (yield_at z.1 z.3) (record {
      in_range_lem = ok;
      version = refl;
      clocks = refl;
      variables = refl;
      rendezvous = refl;
      broadcasts = refl;
      entries = refl;
      exits = refl;
      states = (many_at n.states _ (onward rest 8) a.2).0;
      here = λ s l.
          ap (recorded byte (state n.clocks n.entries n.exits)) (sym (onward_onward rest 8 (s * state_size n.clocks)))
          ∙ many_nth _ (state_size n.clocks) no_state_lem (record_takes n.clocks n.entries n.exits) n.states (onward rest 8) a.0 a.1 a.2 s l
          ∙ ap (got (get_or a.0 s no_state_lem)) (onward_onward rest 8 (s * state_size n.clocks + state_size n.clocks) ∙ ap (onward rest) (let z : 8 + (s * state_size n.clocks + state_size n.clocks) ≡ state_place n.clocks s + state_size n.clocks = omega arith in z));
    })

-- the fields of a state, where they stand
pub stated_fields : (rest : List ℕ) (n : Counts) {c : Chart} → Stated rest n c → (s : ℕ) → s < n.states → Fields n.clocks n.entries n.exits rest (state_place n.clocks s + 1) (state_at c s) (onward rest (state_place n.clocks s + state_size n.clocks))
stated_fields rest n {c} S s h =
    let w = recorded_inside byte _ (state_front n.clocks n.entries n.exits) (onward rest (state_place n.clocks s)) (S.here s h) in
    let e : w.1 ≡ onward rest (state_place n.clocks s + 1) = byte_takes _ w.0 w.1 w.2 ∙ onward_onward rest (state_place n.clocks s) 1 in
    fields n.clocks n.entries n.exits rest _ (state_at c s) _ (ap (state n.clocks n.entries n.exits) (sym e) ∙ w.3)

-- what is no state of the chart
pub unknown : {rest : List ℕ} {n : Counts} {c : Chart} → Stated rest n c → (s : ℕ) → n.states ≤ s → state_at c s ≡ no_state_lem
unfolding state_at
unknown {c = c} S s h = get_or-eq_default c.states _ (omega (arith, S.states))

module _ {rest : List ℕ} {n : Counts} {c : Chart} (S : Stated rest n c) (s : ℕ) (h : s < n.states) (p : ℕ) (e : p ≡ state_place n.clocks s) where
  there : Fields n.clocks n.entries n.exits rest (p + 1) (state_at c s) (onward rest (p + state_size n.clocks))
  there = rw e (stated_fields rest n S s h)

  pub parent_here : get_or rest (p + 1) 0 ≡ (state_at c s).parent
  parent_here = byte_value rest (p + 1) there.parent

  pub kind_here : get_or rest (p + 2) 0 ≡ (state_at c s).kind
  kind_here = ap (λ (i : ℕ). get_or rest i 0) (omega arith) ∙ byte_value rest (p + 1 + 1) there.kind

  pub entries_here : byte2 (onward rest (p + 3)) ≡ got (state_at c s).entries (onward rest (p + 5))
  entries_here = ap (λ (i : ℕ). byte2 (onward rest i)) (omega arith) ∙ there.entry_marks_lem ∙ ap (λ (i : ℕ). got (state_at c s).entries (onward rest i)) (omega arith)

  pub exits_here : get_or rest (p + 5) 0 ≡ (state_at c s).exits
  exits_here = ap (λ (i : ℕ). get_or rest i 0) (omega arith) ∙ byte_value rest (p + 1 + 4) there.exit_marks_lem

  pub bounds_here : row n.clocks (onward rest (p + 6)) ≡ got (state_at c s).bounds (onward rest (p + state_size n.clocks))
  bounds_here = ap (λ (i : ℕ). row n.clocks (onward rest i)) (omega arith) ∙ there.bounds

-- a state's place is not far
pub place_small : (clocks s : ℕ) → clocks < 256 → s < 256 → s * (6 + 4 * clocks) < 262136
place_small clocks s h k = let l : s * (6 + 4 * clocks) ≤ 255 * 1026 = mul-le-mul {n₁ = s} {m₁ = 6 + 4 * clocks} {n₂ = 255} {m₂ = 1026} (omega arith) (omega arith) in omega arith
