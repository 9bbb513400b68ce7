-- A network's file as it was read when there was but the first version, and that a file which does not begin with 2 is read so.
-- The readers differ from those of Network.antt in the header, which asked for the version 1, and in the labels of edges, whose
-- updates were assignments alone. What makes a network sound is the same.
use mathlib.Core.Path.{◌≡◌, refl, ap}
use mathlib.Core.Bool.{Bool, true, false, ◌&&◌, ◌||◌}
use mathlib.Core.Logic.{◌≢◌}
use mathlib.Core.List.{List}
use native.Mathlib.Omega.{arith}
use Prim.Native.Nat.{ℕ, ◌+◌, ◌*◌, ◌-◌, ◌^◌, ◌≤◌}
use borrow.Author.Tests.{leb-true, eqb-true}
use lib.Dec.{leb, ltb, eqb}
use lib.ListN.{length, get_or}
use Rattle.lists.specs.Lists.{implies, subset}
use Rattle.reading.specs.Reading.{Reader, yield, ◌>>=◌, ◌>>◌, byte, byte2, such, many, end, recorded}
use Rattle.reading.specs.Places.{onward}
use Rattle.reading.specs.Answer.{Answer, done, unless}
use Rattle.reading.specs.Answer as answer
use Rattle.labels.specs.Label.{limits}
use Rattle.lists.proofs.Bools.{parts}
use Rattle.reading.proofs.Reading.{bind_same, many_same, recorded_same}
use Rattle.reading.proofs.Versions.{only_first}
use Rattle.labels.proofs.FirstVersion.{first_label, first_label_lem}
use Rattle.network_records.specs.Network.{Network, Edge, location, edge, records, numbered, headed, counts_at, in_range, counts_of, read_network, sound, network_of}
use Rattle.network_records.specs.declared.header.Counts.{Counts}

-- the readers
unfoldable pub first_edge : Counts → Reader Edge
first_edge k = do
  s ← such byte (λ n. ltb n k.locations)
  d ← such byte (λ n. ltb n k.locations)
  t ← such byte (λ n. ltb n 64 || eqb n 255)
  x ← such byte (λ n. ltb n 8 || eqb n 255)
  m ← such byte2 (λ n. ltb n (2 ^ k.automata) && implies (eqb x 255) (eqb n 0))
  v ← such byte2 (λ n. subset 16 n m)
  w ← byte
  y ← such byte (λ n. subset 8 n w)
  b ← first_label k.clocks k.variables (k.rendezvous + k.broadcasts)
  yield (record { source = s; target = d; transition = t; exit = x; tested = m; needed = v; written = w; values = y; label = b })

unfoldable pub first_records : Counts → Reader Network
first_records k = do
  ls ← many k.locations (recorded byte (location k.automata k.clocks))
  es ← many k.edges (recorded byte2 (first_edge k))
  end
  yield (record { version = k.version; automata = k.automata; clocks = k.clocks; variables = k.variables; rendezvous = k.rendezvous; broadcasts = k.broadcasts; locations = ls; edges = es })

unfoldable pub first_headed : List ℕ → Bool
first_headed file =
    leb 13 (length file)
    && (eqb (get_or file 0 0) 1
    && eqb (256 * (256 * (256 * get_or file 1 0 + get_or file 2 0) + get_or file 3 0) + get_or file 4 0) (length file - 5))

unfoldable pub first_read : List ℕ → Answer Network
first_read file = unless 24 (first_headed file && in_range (counts_at file)) (numbered (first_records (counts_at file) (onward file 13)))

-- the check
unfoldable pub first_network : List ℕ → Answer Network
first_network file = answer.◌>>=◌ (first_read file) (λ n. unless 25 (sound n) (done n))

-- of the first bytes but 2, 1 alone is a version
first_headed_lem : (file : List ℕ) → get_or file 0 0 ≢ 2 → headed file ≡ first_headed file
unfolding headed first_headed
first_headed_lem file n = ap (λ (b : Bool). leb 13 (length file) && (b
    && eqb (256 * (256 * (256 * get_or file 1 0 + get_or file 2 0) + get_or file 3 0) + get_or file 4 0) (length file - 5))) (only_first (get_or file 0 0) n)

first_edge_lem : (k : Counts) → k.version ≡ 1 → k.variables ≤ 255 → (s : List ℕ)
    → edge k.automata k.locations (limits k.version k.clocks k.variables) (k.rendezvous + k.broadcasts) s ≡ first_edge k s
unfolding edge first_edge
first_edge_lem k one few =
    bind_same _ _ _ _ (λ s. refl) λ a.
    bind_same _ _ _ _ (λ s. refl) λ d.
    bind_same _ _ _ _ (λ s. refl) λ t.
    bind_same _ _ _ _ (λ s. refl) λ x.
    bind_same _ _ _ _ (λ s. refl) λ m.
    bind_same _ _ _ _ (λ s. refl) λ v.
    bind_same _ _ _ _ (λ s. refl) λ w.
    bind_same _ _ _ _ (λ s. refl) λ y.
    bind_same _ _ _ _ (λ s. rw one (first_label_lem k.clocks k.variables (k.rendezvous + k.broadcasts) few s)) λ b s. refl

first_records_lem : (k : Counts) → k.version ≡ 1 → k.variables ≤ 255 → (s : List ℕ) → records k s ≡ first_records k s
unfolding records first_records
first_records_lem k one few =
    bind_same _ _ _ _ (λ s. refl) λ ls.
    bind_same _ _ _ _ (many_same _ _ (recorded_same byte2 _ _ (first_edge_lem k one few)) k.edges) λ es s. refl

-- a file that does not begin with 2 is read as before there was a second version
pub first_read_lem : (file : List ℕ) → get_or file 0 0 ≢ 2 → read_network file ≡ first_read file
unfolding read_network counts_of first_read first_headed unless answer.◌>>=◌
first_read_lem file n = rw (first_headed_lem file n) (go (first_headed file && in_range (counts_at file)) refl)
  where
    go : (h : Bool) → (first_headed file && in_range (counts_at file)) ≡ h
        → answer.◌>>=◌ (unless 24 h (done (counts_at file))) (λ k. numbered (records k (onward file 13)))
        ≡ unless 24 h (numbered (first_records (counts_at file) (onward file 13)))
    go false e = refl
    go true e =
        let one : eqb (get_or file 0 0) 1 ≡ true = search parts in
        let few : leb (get_or file 10 0) 16 ≡ true = search parts depth 12 in
        ap numbered (first_records_lem (counts_at file) (eqb-true (get_or file 0 0) 1 one) (omega (arith, leb-true (get_or file 10 0) 16 few)) (onward file 13))

-- and judged so
pub first_network_lem : (file : List ℕ) → get_or file 0 0 ≢ 2 → network_of file ≡ first_network file
unfolding network_of first_network
first_network_lem file n = ap (λ (a : Answer Network). answer.◌>>=◌ a (λ n. unless 25 (sound n) (done n))) (first_read_lem file n)
