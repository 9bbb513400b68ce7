-- What the reading of a file says of the labels of the network's edges.
use mathlib.Core.Path.{◌≡◌, ap, ◌∙◌, subst}
use mathlib.Core.Bool.{true}
use mathlib.Core.List.{List, [], Memᴰ as Mem}
use Prim.Native.Nat.{ℕ, ◌+◌, ◌≤◌}
use borrow.Author.Tests.{leb-true}
use lib.Dec.{leb}
use Rattle.lists.specs.Lists.{all}
use Rattle.reading.specs.Answer.{done}
use Rattle.reading.specs.Reading.{got, byte2}
use Rattle.reading.specs.Places.{onward}
use Rattle.labels.specs.Label.{limits, assigns_once}
use Rattle.labels.specs.declared.label.Limits.{Limits}
use Rattle.lists.proofs.Bools.{parts}
use Rattle.lists.proofs.Lists.{all_at}
use Rattle.reading.proofs.Answer.{unless_at, done_injective, then_at as then-at-answer}
use Rattle.reading.proofs.Reading.{bind_at, then_at, yield_at, yield_rest, many_at}
use Rattle.reading.proofs.Lengths.{byte2_consumes, recorded_all}
use Rattle.labels.proofs.LabelRanges.{LabelRange, label_at}
use Rattle.network_records.specs.Network.{Edge, Network, edge, records, in_range, counts_of, read_network, network_of, sound}
use Rattle.network_records.specs.declared.header.Counts.{Counts}
use Rattle.network_records.proofs.Headers.{counts_at_lem}
use Rattle.network_records.proofs.Records.{numbered_at}

-- the label of an edge that was read
edge_label : (automata locations : ℕ) (l : Limits) (channels : ℕ) (s : List ℕ) {e : Edge} → edge automata locations l channels s ≡ got e []
    → LabelRange l channels e.label
unfolding edge
edge_label automata locations l channels s h =
    let a = bind_at _ _ s h in
    let d = bind_at _ _ a.1 a.3 in
    let t = bind_at _ _ d.1 d.3 in
    let x = bind_at _ _ t.1 t.3 in
    let m = bind_at _ _ x.1 x.3 in
    let v = bind_at _ _ m.1 m.3 in
    let w = bind_at _ _ v.1 v.3 in
    let y = bind_at _ _ w.1 w.3 in
    let b = bind_at _ _ y.1 y.3 in
    let r = label_at l channels y.1 (b.2 ∙ ap (λ t. got b.0 t) (yield_rest _ b.1 b.3)) in
    subst (λ (e : Edge). LabelRange l channels e.label) (yield_at b.1 b.3) r.0

-- what the labels of a network that was read are
pub record EdgeLabels (n : Network) : Type 0 where
  pub variables_few : n.variables ≤ 16
  pub of_edge : (e : Edge) → Mem e n.edges → LabelRange (limits n.version n.clocks n.variables) (n.rendezvous + n.broadcasts) e.label

records_labels : (k : Counts) (s : List ℕ) {n : Network} {t : List ℕ} → in_range k ≡ true → records k s ≡ got n t → EdgeLabels n
unfolding records
records_labels k s r h =
    let a = bind_at _ _ s h in
    let b = bind_at _ _ a.1 a.3 in
    let z = then_at _ _ b.1 b.3 in
    let few : leb k.variables 16 ≡ true = search parts depth 9 in
    subst EdgeLabels (yield_at z.1 z.3) (record {
      variables_few = leb-true k.variables 16 few;
      of_edge = λ e m.
          let q = (many_at k.edges _ a.1 b.2).1 e m in
          let u = recorded_all 2 byte2 byte2_consumes _ q.0 q.2 in
          edge_label k.automata k.locations (limits k.version k.clocks k.variables) (k.rendezvous + k.broadcasts) u.0 u.1;
    })

-- those of a network that is accepted keep rule 13 too
pub network_labels : (file : List ℕ) {n : Network} → network_of file ≡ done n
    → EdgeLabels n × ((e : Edge) → Mem e n.edges → assigns_once e.label ≡ true)
unfolding network_of read_network sound
network_labels file h =
    let a = then-at-answer (read_network file) _ h in
    let s = unless_at 25 (sound a.0) (done a.0) a.2 in
    let b = then-at-answer (counts_of file) _ a.1 in
    let w = numbered_at (records b.0 (onward file 13)) b.2 in
    let once : all (λ e. assigns_once e.label) a.0.edges ≡ true = let k = s.0 in search parts in
    subst (λ (n : Network). EdgeLabels n × ((e : Edge) → Mem e n.edges → assigns_once e.label ≡ true)) (done_injective s.1) (
      records_labels b.0 (onward file 13) (counts_at_lem file b.1).1 w.1,
      λ e m. all_at (λ (e : Edge). assigns_once e.label) a.0.edges once m,
    )
