-- What the operation answers for a chart that passes.
use mathlib.Core.Path.{◌≡◌, refl, sym, ap, ◌∙◌, subst}
use mathlib.Core.Bool.{Bool, true, false}
use mathlib.Core.List.{List}
use Prim.Native.Nat.{ℕ, ◌+◌, ◌≤◌, ◌<◌}
use native.Mathlib.Omega.{arith}
use borrow.Author.Tests.{le-leb, lt-leb, leb-true}
use lib.Dec.{leb}
use lib.ListN.{length}
use Rattle.std.specs.Prelude.{Result, Ok, Err}
use Rattle.reading.specs.Answer.{Answer, done, refused, unless, ◌>>=◌}
use Rattle.reading.specs.Verdict.{number, answer_of}
use Rattle.reading.specs.declared.refusal.Refusal.{Refusal}
use Rattle.reading.specs.declared.refusal.Refusal.TheVariants as Rf
use Rattle.network_records.specs.Network.{Network}
use Rattle.chart_records.specs.Chart.{Chart}
use Rattle.chart_records.specs.Rules.{chart_of}
use Rattle.chart.specs.Ready.{Ready}
use Rattle.chart_records.specs.declared.header.Counts.{Counts}
use Rattle.chart_tree.specs.declared.table.Tree.{Tree}
use Rattle.flattening.specs.Flatten.{flatten}
use Rattle.flattening.specs.File.{out4, record_bytes, content_bytes, network_bytes, fitted, flatten_of}
use Rattle.flatten_tables.specs.Summing.{Summed}
use Rattle.flatten_tables.specs.declared.summary.Summary.{Summary}
use Rattle.flatten_edges.specs.Gathering.{Gathered}
use Rattle.flattener.specs.Records.{Writable}
use Rattle.flattener.specs.Writing.{Wrote}
use Rattle.flattener.specs.Outcomes.{length_of, lent_after, network_for, Answered}
use Rattle.flattener.proofs.Bodies.{edges_bodied}
use Rattle.flattener.proofs.Outputs.{wrote_all}

pub file_length : (n : Network) {size : ℕ} → size ≡ length (content_bytes n) → 5 + size ≡ length (network_bytes n)
unfolding network_bytes record_bytes out4
file_length n e = omega arith

-- an answer that is known
pub answered_by : (a b : Answer (List ℕ)) → a ≡ b → {before after : List ℕ} {r : Result ℕ Refusal} → answer_of r ≡ length_of b → after ≡ lent_after before b → Answered a before r after
answered_by a b e {before} f g = record { is = f ∙ ap length_of (sym e); bytes = g ∙ ap (lent_after before) (sym e) }

module _ (c : Chart) (room : ℕ) where
  too_many : 1024 < length (flatten c).edges → network_for room c ≡ refused 15
  unfolding unless
  too_many h = rw (lt-leb (length (flatten c).edges) 1024 h)

  too_long : length (flatten c).edges ≤ 1024 → room < length (network_bytes (flatten c)) → network_for room c ≡ refused 16
  unfolding unless fitted
  too_long h k = rw (le-leb (length (flatten c).edges) 1024 h, lt-leb (length (network_bytes (flatten c))) room k)

  all_fits : length (flatten c).edges ≤ 1024 → length (network_bytes (flatten c)) ≤ room → network_for room c ≡ done (network_bytes (flatten c))
  unfolding unless fitted
  all_fits h k = rw (le-leb (length (flatten c).edges) 1024 h, le-leb (length (network_bytes (flatten c))) room k)

module _ (c : Chart) (s : Summary) (S : Summed c s) {heads : List ℕ} {edges : ℕ} (G : Gathered heads edges (flatten c).edges) (before : List ℕ) where
  pub delivered_many : 1024 < edges → Answered (network_for (length before) c) before (Err Rf.ManyEdges) before
  delivered_many h = answered_by _ (refused 15) (too_many c (length before) (omega (arith, G.counted))) refl refl

  few : edges ≤ 1024 → length (flatten c).edges ≤ 1024
  few h = omega (arith, G.counted)

  pub delivered_writable : edges ≤ 1024 → {rest offsets : List ℕ} {n : Counts} {tree : Tree} → Ready rest n offsets tree c → Writable heads edges rest offsets c (flatten c).edges
  delivered_writable h {n = n} R = record { counts = n; laid = R.laid; gathered = G; few = few h; bodied = edges_bodied c S.columned.few }

  pub delivered_long : edges ≤ 1024 → {size : ℕ} → size ≡ length (content_bytes (flatten c)) → length before < 5 + size → Answered (network_for (length before) c) before (Err Rf.ShortBuffer) before
  delivered_long h e k = answered_by _ (refused 16) (too_long c (length before) (few h) (omega (arith, file_length (flatten c) e))) refl refl

  pub delivered_all : edges ≤ 1024 → {size : ℕ} → size ≡ length (content_bytes (flatten c)) → 5 + size ≤ length before
      → {after : List ℕ} {end : ℕ} → Wrote before 0 (network_bytes (flatten c)) after end → Answered (network_for (length before) c) before (Ok (5 + size)) after
  delivered_all h e k w =
      let l = file_length (flatten c) e in
      let fits : length (network_bytes (flatten c)) ≤ length before = omega arith in
      answered_by _ (done (network_bytes (flatten c))) (all_fits c (length before) (few h) fits) (ap done l) (wrote_all w fits)

-- a file that is refused, and one that passes
pub flatten_refused : (file : List ℕ) (before : List ℕ) {k : Refusal} → chart_of file ≡ refused (number k) → Answered (flatten_of file (length before)) before (Err k) before
unfolding flatten_of ◌>>=◌
flatten_refused file before {k} h = answered_by _ (refused (number k)) (rw h) refl refl

pub flatten_passed : (file : List ℕ) (before : List ℕ) {c : Chart} → chart_of file ≡ done c → {r : Result ℕ Refusal} {after : List ℕ} → Answered (network_for (length before) c) before r after → Answered (flatten_of file (length before)) before r after
unfolding flatten_of ◌>>=◌
flatten_passed file before h {r} {after} a = subst (λ (x : Answer (List ℕ)). Answered x before r after) (rw h) a

-- a length that is answered is within the buffer
abbrev Within : ℕ → Answer ℕ → Type 0
Within room (done n) = n ≤ room
Within room (refused k) = Unit {0}

within_fitted : (room : ℕ) (s : List ℕ) → Within room (length_of (fitted room s))
unfolding unless fitted
within_fitted room s = go (leb (length s) room) refl
  where
    go : (b : Bool) → leb (length s) room ≡ b → Within room (length_of (unless 16 b (done s)))
    go true e = leb-true (length s) room e
    go false e = tt

within_unless : (room k : ℕ) (b : Bool) (a : Answer (List ℕ)) → Within room (length_of a) → Within room (length_of (unless k b a))
unfolding unless
within_unless room k true a w = w
within_unless room k false a w = tt

pub flatten_within : (file : List ℕ) (room : ℕ) {r : Result ℕ Refusal} {n : ℕ} → answer_of r ≡ length_of (flatten_of file room) → r ≡ Ok n → n ≤ room
unfolding flatten_of ◌>>=◌
flatten_within file room e f = subst (Within room) (sym (sym (ap answer_of f) ∙ e)) (go (chart_of file))
  where
    go : (a : Answer Chart) → Within room (length_of (a >>= λ c. network_for room c))
    go (done c) = within_unless room 15 (leb (length (flatten c).edges) 1024) _ (within_fitted room (network_bytes (flatten c)))
    go (refused k) = tt
