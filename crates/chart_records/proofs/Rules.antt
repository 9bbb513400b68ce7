-- What it says that a chart keeps the rules.
use mathlib.Core.Path.{◌≡◌}
use mathlib.Core.Bool.{true, false}
use Prim.Native.Nat.{ℕ, ◌≤◌, ◌<◌}
use native.Mathlib.Omega.{arith}
use borrow.Author.Tests.{eqb-true, eqb-false, eq-eqb, leb-true}
use lib.ListN.{length}
use Rattle.lists.specs.Lists.{all}
use Rattle.reading.specs.Answer.{done}
use Rattle.labels.specs.Label.{assigns_once}
use Rattle.lists.proofs.Bools.{or_else}
use Rattle.lists.proofs.Lists.{all_at}
use Rattle.reading.proofs.Answer.{unless_at, then_at, done_injective}
use Rattle.chart_records.specs.Chart.{Chart, state_at, basic, sequential, parallel}
use Rattle.chart_records.specs.Tree.{sequentials}
use Rattle.chart_records.specs.Rules.{few, some_sequential, exit_marks, siblings, exits, entries, apart, state_rules, transition_rules, keeps_rules}
use Rattle.chart_records.proofs.Tree.{size, states_by, Parents, parents_at}
use Rattle.chart_records.proofs.Entered.{EntryMarks, entry_marks_at}

-- every kind is one of three: this is not a rule, but a field's range
abbrev pub Kinds : Chart → Type 0
Kinds c = (s : ℕ) → s < size c → (state_at c s).kind < 3

pub kinds_left : (c : Chart) → Kinds c → (s : ℕ) → s < size c → basic c s ≡ false → parallel c s ≡ false → sequential c s ≡ true
unfolding basic parallel sequential
kinds_left c k s h a b = eq-eqb (state_at c s).kind 1 (omega (arith, k s h, eqb-false (state_at c s).kind 0 a, eqb-false (state_at c s).kind 2 b))

-- the rules 5 to 14
pub record Passed (c : Chart) : Type 0 where
  pub tree : Parents c
  pub at_most : length (sequentials c) ≤ 16
  pub at_least : 1 ≤ length (sequentials c)
  pub entry_marks_lem : EntryMarks c
  pub exit_marks_lem : (s : ℕ) → s < size c → basic c s ≡ false → (state_at c s).exits ≡ 0
  pub transitions : all (siblings c) c.transitions ≡ true
  pub leave : all (exits c) c.transitions ≡ true
  pub enter : all (entries c) c.transitions ≡ true
  pub assign_once : all (λ t. assigns_once t.label) c.transitions ≡ true
  pub not_nested : apart c ≡ true

exit_marks_at : (c : Chart) → exit_marks c ≡ true → (s : ℕ) → s < size c → basic c s ≡ false → (state_at c s).exits ≡ 0
unfolding exit_marks
exit_marks_at c h s k b = eqb-true _ 0 (or_else (basic c s) _ (all_at _ _ h (states_by c k)) b)

few_at : (c : Chart) → few c ≡ true → length (sequentials c) ≤ 16
unfolding few
few_at c h = leb-true _ 16 h

some_at : (c : Chart) → some_sequential c ≡ true → 1 ≤ length (sequentials c)
unfolding some_sequential
some_at c h = leb-true 1 _ h

-- a chart that is not refused keeps them, and is answered as it is
pub passed_at : (c : Chart) {d : Chart} → keeps_rules c ≡ done d → Passed c × (c ≡ d)
unfolding keeps_rules state_rules transition_rules
passed_at c h =
    let of-states = then_at (state_rules c) _ h in
    let of-transitions = then_at (transition_rules c) _ of-states.2 in
    let r5 = unless_at 5 _ _ of-states.1 in
    let r6 = unless_at 6 _ _ r5.1 in
    let r7 = unless_at 7 _ _ r6.1 in
    let r8 = unless_at 8 _ _ r7.1 in
    let r9 = unless_at 9 _ _ r8.1 in
    let r10 = unless_at 10 _ _ of-transitions.1 in
    let r11 = unless_at 11 _ _ r10.1 in
    let r12 = unless_at 12 _ _ r11.1 in
    let r13 = unless_at 13 _ _ r12.1 in
    let r14 = unless_at 14 _ _ r13.1 in (
      record {
        tree = parents_at c r5.0;
        at_most = few_at c r6.0;
        at_least = some_at c r7.0;
        entry_marks_lem = entry_marks_at c r8.0;
        exit_marks_lem = exit_marks_at c r9.0;
        transitions = r10.0;
        leave = r11.0;
        enter = r12.0;
        assign_once = r13.0;
        not_nested = r14.0;
      },
      done_injective of-transitions.2,
    )
