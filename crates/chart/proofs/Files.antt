-- The check of a file, record by record and rule by rule.
use mathlib.Core.Path.{◌≡◌, refl, sym, ap, ◌∙◌, subst}
use mathlib.Core.Bool.{Bool, true}
use mathlib.Core.List.{List}
use Prim.Native.Nat.{ℕ, ◌-◌, ◌≤◌, ◌<◌}
use native.Mathlib.Omega.{arith}
use lib.ListN.{length, take, drop}
use Rattle.std.specs.Prelude.{Result, Ok, Err}
use Rattle.std.specs.Result.{IsErrAnd, IfOk, MatchResult}
use Rattle.lists.specs.Lists.{all}
use Rattle.reading.specs.Answer.{Answer, done, refused, ◌>>=◌}
use Rattle.reading.specs.Reading as reading
use Rattle.reading.specs.Reading.{Reader, got, fault, length_fault, yield, ◌>>◌, byte, byte2, many, end, recorded, mapped, skipped}
use Rattle.reading.specs.Places.{onward, fault_of, read_of}
use Rattle.reading.specs.Verdict.{number, verdict_of}
use Rattle.reading.specs.declared.refusal.Refusal.{Refusal}
use Rattle.reading.specs.declared.field.Fault.{Fault}
use Rattle.reading.specs.declared.field.Fault.TheVariants as Fl
use Rattle.reading.proofs.Answer.{unless_at, then_at as then-at-answer, done_injective}
use Rattle.reading.proofs.Reading.{got_rest, bind_at, then_at, yield_at, many_at, mapped_got, mapped_at, fault_at}
use Rattle.reading.proofs.Places.{bind_got, bind_fault, then_got, then_fault, end_none, end_some, onward_onward, part_onward, length_onward, handed_on}
use Rattle.chart_records.specs.Chart.{Chart, State, Transition, state, records, numbered, in_range, counts_of, read_chart}
use Rattle.chart_records.specs.Rules.{parents, state_rules, transition_rules, keeps_rules, chart_of}
use Rattle.chart_records.specs.Layout.{transition_by, once}
use Rattle.chart_records.specs.Laid.{Placed, Laid}
use Rattle.chart_tree.specs.Table.{Tabled}
use Rattle.chart.specs.Ready.{chart_from, fault_number, Ready}
use Rattle.chart_records.specs.declared.header.Counts.{Counts}
use Rattle.chart_tree.specs.declared.table.Tree.{Tree}
use Rattle.chart.specs.declared.check.CheckedFile.{CheckedFile}
use Rattle.chart.specs.declared.transition_list.Transitions.{Transitions}
use Rattle.chart_records.proofs.States.{stated}
use Rattle.chart_records.proofs.Ranges.{counts_of_at, headed_long, headed_short}

-- what is looked at as f has it is at fault where `?` met the fault, if the definition is
pub mapped_err : {A B : Type 0} (f : A → B) (s : List ℕ) (r : Result (A × ℕ) Fault) (e : Fault) {d : reading.Read B} → IsErrAnd r (λ x. x ≡ e) → d ≡ fault (fault_of e) → mapped f (read_of s r) ≡ d
unfolding mapped
mapped_err f s r e h k = rw (handed_on r h, k)

abbrev states_of : Counts → Reader (List State)
states_of n = many n.states (recorded byte (state n.clocks n.entries n.exits))

abbrev transitions_of : Counts → Reader (List Transition)
transitions_of n = many n.transitions (recorded byte2 (transition_by n))

-- the records of a file, by its states, its transitions and its end
module _ (rest : List ℕ) (n : Counts) where
  pub records_unstated : {f : reading.Fault} → skipped (states_of n (onward rest 8)) ≡ fault f → records n (onward rest 8) ≡ fault f
  unfolding records skipped
  records_unstated h = bind_fault _ _ _ (fault_at _ _ h)

  module _ (at : ℕ) (h : skipped (states_of n (onward rest 8)) ≡ got tt (onward rest at)) where
    pub records_unread : {f : reading.Fault} → mapped (all once) (transitions_of n (onward rest at)) ≡ fault f → records n (onward rest 8) ≡ fault f
    unfolding records skipped
    records_unread k = bind_got _ _ _ (mapped_at _ _ h).1 ∙ bind_fault _ _ _ (fault_at _ _ k)

    module _ (to : ℕ) {x : Bool} (k : mapped (all once) (transitions_of n (onward rest at)) ≡ got x (onward rest to)) where
      pub records_longer : to < length rest → records n (onward rest 8) ≡ fault length_fault
      unfolding records skipped
      records_longer l = bind_got _ _ _ (mapped_at _ _ h).1 ∙ bind_got _ _ _ (mapped_at _ _ k).1 ∙ then_fault end _ _ (end_some rest to l)

      pub records_whole : length rest ≤ to → mapped (λ c. all once c.transitions) (records n (onward rest 8)) ≡ got x (onward rest to)
      unfolding records skipped yield
      records_whole l =
          mapped_got (λ (c : Chart). all once c.transitions) (bind_got _ _ _ (mapped_at _ _ h).1 ∙ bind_got _ _ _ (mapped_at _ _ k).1 ∙ then_got end _ _ (end_none rest to l))
          ∙ ap (λ (b : Bool). got b (onward rest to)) (mapped_at _ _ k).2

    -- a chart that is read stands in the bytes
    pub records_laid : in_range n ≡ true → (offsets : List ℕ) → ((ts : List Transition) (t : List ℕ) → transitions_of n (onward rest at) ≡ got ts t → Placed rest n offsets ts)
        → {c : Chart} {t : List ℕ} → records n (onward rest 8) ≡ got c t → Laid rest n offsets c
    unfolding records skipped
    records_laid ok offsets f {c} {t} r =
        let a = bind_at (states_of n) _ (onward rest 8) r in
        let b = bind_at (transitions_of n) _ a.1 a.3 in
        let z = then_at end _ b.1 b.3 in
        let e : a.1 ≡ onward rest at = got_rest (sym a.2 ∙ (mapped_at _ _ h).1) in
        let q = yield_at z.1 z.3 in
        record {
          stated = stated rest n ok r;
          transitions = sym (ap (λ (d : Chart). length d.transitions) q) ∙ (many_at n.transitions _ a.1 b.2).0;
          placed = subst (λ (d : Chart). Placed rest n offsets d.transitions) q (f b.0 b.1 (ap (transitions_of n) (sym e) ∙ b.2));
        }

-- the rules of the states, then those of the transitions
pub states_refused : (c : Chart) {k : ℕ} → state_rules c ≡ refused k → verdict_of (keeps_rules c) ≡ refused k
unfolding keeps_rules ◌>>=◌
states_refused c h = rw h

pub states_passed : (c : Chart) {x : Unit {0}} {v : Answer (Unit {0})} → state_rules c ≡ done x → v ≡ verdict_of (transition_rules c) → v ≡ verdict_of (keeps_rules c)
unfolding keeps_rules ◌>>=◌
states_passed c h e = e ∙ rw h (go (transition_rules c))
  where
    go : (a : Answer (Unit {0})) → verdict_of a ≡ verdict_of (a >>= λ v. done c)
    go (done x) = refl
    go (refused k) = refl

pub parents_passed : (c : Chart) {x : Unit {0}} → state_rules c ≡ done x → parents c ≡ true
unfolding state_rules
parents_passed c h = (unless_at 5 _ _ h).0

-- a chart that keeps the rules is ready
pub ready_of : {rest : List ℕ} {n : Counts} {offsets : List ℕ} {t : Tree} {c d : Chart} → Laid rest n offsets c → Tabled c t → keeps_rules c ≡ done d → Ready rest n offsets t d
unfolding keeps_rules state_rules transition_rules
ready_of {rest} {n} {offsets} {t} {c} {d} L T h =
    let s = then-at-answer (state_rules c) _ h in
    let u = then-at-answer (transition_rules c) _ s.2 in
    let five = unless_at 5 _ _ s.1 in
    let six = unless_at 6 _ _ five.1 in
    let seven = unless_at 7 _ _ six.1 in
    let eight = unless_at 8 _ _ seven.1 in
    let ten = unless_at 10 _ _ u.1 in
    let eleventh = unless_at 11 _ _ ten.1 in
    subst (Ready rest n offsets t) (done_injective u.2) (record { laid = L; tabled = T; parents = five.0; entry_marks_lem = eight.0; siblings = ten.0; exits = eleventh.0 })

-- the chart of the records, or the number of their fault
module _ (n : Counts) (s : List ℕ) where
  pub from_fault : (f : Fault) → records n s ≡ fault (fault_of f) → chart_from n s ≡ refused (fault_number f)
  unfolding chart_from numbered ◌>>=◌
  from_fault Fl.Length h = rw h
  from_fault Fl.Range h = rw h

  pub from_got : {c : Chart} {t : List ℕ} → records n s ≡ got c t → chart_from n s ≡ keeps_rules c
  unfolding chart_from numbered ◌>>=◌
  from_got h = rw h

-- the records of a file as the code answers them, and then with the refusal of a fault
abbrev Answers : Counts → List ℕ → Result (Transitions × ℕ) Fault → Type 0
Answers n rest r = mapped (λ t. t.once) (read_of rest r) ≡ mapped (λ c. all once c.transitions) (records n (onward rest 8))

pub records_refused : (n : Counts) (rest : List ℕ) (r : Result (Transitions × ℕ) Fault) (k : Refusal) → Answers n rest r
    → MatchResult r (λ x. Err k ≡ Ok x) (λ f. number k ≡ fault_number f) → chart_from n (onward rest 8) ≡ refused (number k)
unfolding mapped
records_refused n rest (Ok x) k read h = cc
records_refused n rest (Err f) k read h = from_fault n _ f (fault_at _ _ (sym read)) ∙ ap refused (sym h)

pub records_read : (n : Counts) (rest : List ℕ) (r : Result (Transitions × ℕ) Fault) (x : Transitions) (to : ℕ) → Answers n rest r
    → IfOk r (λ y. (c : Chart) (t : List ℕ) → length rest ≤ 65536 → records n (onward rest 8) ≡ got c t → Laid rest n y.0.offsets c)
    → length rest ≤ 65536 → MatchResult r (λ y. ◌≡◌ {A = Result (Transitions × ℕ) Refusal} (Ok (x, to)) (Ok y)) (λ f. ⊥)
    → (c : Chart) × (records n (onward rest 8) ≡ got c (onward rest to)) × (x.once ≡ all once c.transitions) × Laid rest n x.offsets c
unfolding mapped
records_read n rest (Ok (y, at)) x to read laid l h =
    let e : ◌≡◌ {A = Transitions × ℕ} (y, at) (x, to) = cc in
    let m = mapped_at _ _ (sym read) in (
      m.0,
      m.1 ∙ ap (λ (z : Transitions × ℕ). got m.0 (onward rest z.1)) e,
      ap (λ (z : Transitions × ℕ). z.0.once) (sym e) ∙ sym m.2,
      subst (λ (z : Transitions × ℕ). Laid rest n z.0.offsets m.0) e (laid m.0 _ l m.1),
    )
records_read n rest (Err f) x to read laid l h = absurd h

-- the chart of a file, by its header
pub header_refused : (file : List ℕ) {k : ℕ} → counts_of file ≡ refused k → chart_of file ≡ refused k
unfolding chart_of read_chart ◌>>=◌
header_refused file h = rw h

eleven : (l : List ℕ) → onward (onward l 3) 8 ≡ drop 11 l
unfolding onward
eleven l = onward_onward l 3 8

pub header_passed : (file : List ℕ) {n : Counts} → counts_of file ≡ done n → chart_of file ≡ chart_from n (onward (onward file 3) 8)
unfolding chart_of read_chart chart_from ◌>>=◌
header_passed file {n} h = rw h (ap (λ (l : List ℕ). numbered (records n l) >>= keeps_rules) (sym (eleven file)))

-- and what the check hands over
pub file_ready : (file : List ℕ) {n : Counts} (r : Result CheckedFile Refusal) → counts_of file ≡ done n
    → IfOk r (λ f. (c : Chart) → chart_from n (onward (take (length file - 3) (drop 3 file)) 8) ≡ done c → Ready (take (length file - 3) (drop 3 file)) f.counts f.offsets f.tree c)
    → IfOk r (λ f. (c : Chart) → chart_of file ≡ done c → Ready (onward file 3) f.counts f.offsets f.tree c)
file_ready file {n} (Ok f) h g = λ c q.
    let p = part_onward file 3 in
    subst (λ (l : List ℕ). Ready l f.counts f.offsets f.tree c) p (g c (ap (λ (l : List ℕ). chart_from n (onward l 8)) p ∙ sym (header_passed file h) ∙ q))
file_ready file (Err e) h g = tt

-- what follows version and length is not too long
pub rest_short : (file : List ℕ) {n : Counts} → counts_of file ≡ done n → length (take (length file - 3) (drop 3 file)) ≤ 65536
rest_short file h = omega (arith, ap length (part_onward file 3), length_onward file 3, headed_short file (counts_of_at file h).0)

-- a file that holds a chart has a header
pub chart_long : (file : List ℕ) {c : Chart} → chart_of file ≡ done c → 11 ≤ length file
unfolding chart_of read_chart
chart_long file h =
    let r = then-at-answer (read_chart file) _ h in
    let s = then-at-answer (counts_of file) _ r.1 in
    headed_long file (counts_of_at file s.1).0
