-- A chart's file as it was read when there was but the first version, and that a file which does not begin with 2 is read so.
-- The readers differ from those of Chart.antt in the header, which asked for the version 1, and in the labels of transitions,
-- whose updates were assignments alone. The rules of the whole chart are those of Rules.antt.
use mathlib.Core.Path.{◌≡◌, refl, ap}
use mathlib.Core.Bool.{Bool, true, false, ◌&&◌, ◌||◌}
use mathlib.Core.Logic.{◌≢◌}
use mathlib.Core.List.{List}
use native.Mathlib.Omega.{arith}
use Prim.Native.Nat.{ℕ, ◌+◌, ◌*◌, ◌-◌, ◌≤◌}
use borrow.Author.Tests.{leb-true, eqb-true}
use lib.Dec.{leb, ltb, eqb}
use lib.ListN.{length, get_or, drop}
use Rattle.reading.specs.Reading.{Reader, yield, ◌>>=◌, ◌>>◌, byte, byte2, such, many, end, recorded}
use Rattle.reading.specs.Answer.{Answer, done, unless}
use Rattle.reading.specs.Answer as answer
use Rattle.lists.proofs.Bools.{parts}
use Rattle.reading.proofs.Reading.{bind_same, many_same, recorded_same}
use Rattle.reading.proofs.Versions.{only_first}
use Rattle.labels.proofs.FirstVersion.{first_label, first_label_lem}
use Rattle.chart_records.specs.Chart.{Chart, Transition, state, transition, records, numbered, headed, counts_at, in_range, counts_of, read_chart}
use Rattle.chart_records.specs.Layout.{transition_by}
use Rattle.chart_records.specs.Rules.{keeps_rules, chart_of}
use Rattle.chart_records.specs.declared.header.Counts.{Counts}

-- the readers
unfoldable pub first_transition : Counts → Reader Transition
first_transition n = do
  s ← such byte (λ x. ltb x n.states)
  d ← such byte (λ x. ltb x n.states)
  x ← such byte (λ x. ltb x n.exits || eqb x 255)
  i ← such byte (λ x. ltb x n.entries || eqb x 255)
  b ← first_label n.clocks n.variables (n.rendezvous + n.broadcasts)
  yield (record { source = s; destination = d; exit = x; entry = i; label = b })

unfoldable pub first_records : Counts → Reader Chart
first_records n = do
  ss ← many n.states (recorded byte (state n.clocks n.entries n.exits))
  ts ← many n.transitions (recorded byte2 (first_transition n))
  end
  yield (record { version = n.version; clocks = n.clocks; variables = n.variables; rendezvous = n.rendezvous; broadcasts = n.broadcasts; entries = n.entries; exits = n.exits; states = ss; transitions = ts })

unfoldable pub first_headed : List ℕ → Bool
first_headed file =
    leb 11 (length file) && (leb (length file) 65536
    && (eqb (get_or file 0 0) 1 && eqb (256 * get_or file 1 0 + get_or file 2 0) (length file - 3)))

unfoldable pub first_read : List ℕ → Answer Chart
first_read file = unless 1 (first_headed file) (unless 2 (in_range (counts_at file)) (numbered (first_records (counts_at file) (drop 11 file))))

-- the check
unfoldable pub first_chart : List ℕ → Answer Chart
first_chart file = answer.◌>>=◌ (first_read file) keeps_rules

-- of the first bytes but 2, 1 alone is a version
first_headed_lem : (file : List ℕ) → get_or file 0 0 ≢ 2 → headed file ≡ first_headed file
unfolding headed first_headed
first_headed_lem file n = ap (λ (b : Bool). leb 11 (length file) && (leb (length file) 65536 && (b && eqb (256 * get_or file 1 0 + get_or file 2 0) (length file - 3)))) (only_first (get_or file 0 0) n)

first_transition_lem : (n : Counts) → n.version ≡ 1 → n.variables ≤ 255 → (s : List ℕ) → transition_by n s ≡ first_transition n s
unfolding transition first_transition
first_transition_lem n one few =
    bind_same _ _ _ _ (λ s. refl) λ a.
    bind_same _ _ _ _ (λ s. refl) λ d.
    bind_same _ _ _ _ (λ s. refl) λ x.
    bind_same _ _ _ _ (λ s. refl) λ i.
    bind_same _ _ _ _ (λ s. rw one (first_label_lem n.clocks n.variables (n.rendezvous + n.broadcasts) few s)) λ b s. refl

first_records_lem : (n : Counts) → n.version ≡ 1 → n.variables ≤ 255 → (s : List ℕ) → records n s ≡ first_records n s
unfolding records first_records
first_records_lem n one few =
    bind_same _ _ _ _ (λ s. refl) λ ss.
    bind_same _ _ _ _ (many_same _ _ (recorded_same byte2 _ _ (first_transition_lem n one few)) n.transitions) λ ts s. refl

-- a file that does not begin with 2 is read as before there was a second version
pub first_read_lem : (file : List ℕ) → get_or file 0 0 ≢ 2 → read_chart file ≡ first_read file
unfolding read_chart counts_of first_read first_headed counts_at in_range unless answer.◌>>=◌
first_read_lem file n = rw (first_headed_lem file n) (go (first_headed file) refl (in_range (counts_at file)) refl)
  where
    go : (h : Bool) → first_headed file ≡ h → (r : Bool) → in_range (counts_at file) ≡ r
        → answer.◌>>=◌ (unless 1 h (unless 2 r (done (counts_at file)))) (λ n. numbered (records n (drop 11 file)))
        ≡ unless 1 h (unless 2 r (numbered (first_records (counts_at file) (drop 11 file))))
    go false e r f = refl
    go true e false f = refl
    go true e true f =
        let one : eqb (get_or file 0 0) 1 ≡ true = search parts in
        let few : leb (get_or file 5 0) 16 ≡ true = search parts depth 9 in
        ap numbered (first_records_lem (counts_at file) (eqb-true (get_or file 0 0) 1 one) (omega (arith, leb-true (get_or file 5 0) 16 few)) (drop 11 file))

-- and judged so
pub first_chart_lem : (file : List ℕ) → get_or file 0 0 ≢ 2 → chart_of file ≡ first_chart file
unfolding chart_of first_chart
first_chart_lem file n = ap (λ (a : Answer Chart). answer.◌>>=◌ a keeps_rules) (first_read_lem file n)
