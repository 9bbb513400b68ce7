-- What stands in the location records of a checked file.
use mathlib.Core.Path.{◌≡◌, refl, sym, ap, ◌∙◌, subst}
use mathlib.Core.Bool.{true}
use mathlib.Core.List.{List}
use Prim.Native.Nat.{ℕ, ◌+◌, ◌*◌, ◌≤◌, ◌<◌}
use native.Mathlib.Omega.{arith}
use native.Mathlib.Decide.{dec_lt}
use borrow.Author.Tests.{ltb-true, leb-true}
use lib.Dec.{leb}
use lib.ListN.{get_or, get_or-eq_default}
use Rattle.reading.specs.Reading.{length_fault, range_fault, Read, got, fault, byte, many, recorded}
use Rattle.reading.specs.Answer.{done}
use Rattle.reading.specs.Places.{onward}
use Rattle.clocks.specs.Clocks.{row}
use Rattle.reading.proofs.Answer as answer
use Rattle.reading.proofs.Answer.{unless_at, refused_not}
use Rattle.reading.proofs.Places.{onward_all, onward_onward}
use Rattle.reading.proofs.Reading.{bind_at, then_at, yield_at, yield_rest, such_at, many_at, recorded_at}
use Rattle.reading.proofs.InFront.{InFront, bind_front, yield_front, such_front, byte_front}
use Rattle.reading.proofs.Sizes.{Takes, byte_takes, recorded_inside, onto, byte_value}
use Rattle.clocks.proofs.Rows.{row_takes, row_front}
use Rattle.reading.proofs.Many.{many_nth}
use Rattle.network_records.specs.Network.{Location, Network, location, records, numbered, counts_of, read_network, network_of, sound, location_at, zero_location, in_range}
use Rattle.network_records.specs.Layout.{location_size, location_place, Located}
use Rattle.network_records.specs.declared.header.Counts.{Counts}
use Rattle.network_records.proofs.Headers.{counts_at_lem}
use Rattle.lists.proofs.Bools.{parts}

-- the fields of a location that is read at a place
record Fields (clocks : ℕ) (s : List ℕ) (at : ℕ) (l : Location) (t : List ℕ) : Type 0 where
  automaton : byte (onward s at) ≡ got l.automaton (onward s (at + 1))
  urgent : byte (onward s (at + 1)) ≡ got l.urgent (onward s (at + 2))
  initial : byte (onward s (at + 2)) ≡ got l.initial (onward s (at + 3))
  bounds : row clocks (onward s (at + 3)) ≡ got l.bounds t

module _ (automata clocks : ℕ) where
  location_front : InFront (location automata clocks)
  unfolding location
  location_front =
      bind_front _ _ (such_front _ _ byte_front) λ a. bind_front _ _ (such_front _ _ byte_front) λ u. bind_front _ _ (such_front _ _ byte_front) λ i.
      bind_front _ _ (row_front clocks) λ r. yield_front _

  fields : (s : List ℕ) (at : ℕ) (l : Location) (t : List ℕ) → location automata clocks (onward s at) ≡ got l t → Fields clocks s at l t
  unfolding location
  fields s at l t h =
      let a = bind_at _ _ (onward s at) h in
      let u = bind_at _ _ a.1 a.3 in
      let i = bind_at _ _ u.1 u.3 in
      let r = bind_at _ _ i.1 i.3 in
      let x = onto s at 1 byte (at + 1) refl byte_takes refl (such_at _ _ (onward s at) a.2).1 in
      let y = onto s (at + 1) 1 byte (at + 2) x.1 byte_takes (omega arith) (such_at _ _ a.1 u.2).1 in
      let z = onto s (at + 2) 1 byte (at + 3) y.1 byte_takes (omega arith) (such_at _ _ u.1 i.2).1 in
      subst (λ (m : Location). Fields clocks s at m t) (yield_at r.1 r.3) (record {
        automaton = x.0;
        urgent = y.0;
        initial = z.0;
        bounds = ap (row clocks) (sym z.1) ∙ r.2 ∙ ap (got r.0) (yield_rest _ r.1 r.3);
      })

  location_takes : Takes (location automata clocks) (3 + 4 * clocks)
  location_takes s l t h = row_takes clocks _ _ t (fields s 0 l t (ap (location automata clocks) (onward_all s) ∙ h)).bounds ∙ onward_onward s 3 (4 * clocks)

  -- a record is as long as location_size says
  pub record_takes : Takes (recorded byte (location automata clocks)) (location_size clocks)
  record_takes s l t h =
      let w = recorded_inside byte _ location_front s h in
      location_takes w.1 l t w.3 ∙ ap (λ (b : List ℕ). onward b (3 + 4 * clocks)) (byte_takes s w.0 w.1 w.2) ∙ onward_onward s 1 (3 + 4 * clocks) ∙ ap (onward s) (omega arith)

-- where the locations are read, they stand at their places
module _ (rest : List ℕ) (k : Counts) (r : in_range k ≡ true) (n : Network) where
  pub located : n.automata ≡ k.automata → n.clocks ≡ k.clocks → n.variables ≡ k.variables → n.rendezvous ≡ k.rendezvous
      → (t : List ℕ) → many k.locations (recorded byte (location k.automata k.clocks)) (onward rest 8) ≡ got n.locations t → Located rest k n
  unfolding location_at
  located a c v z t h = record {
    in_range_lem = r;
    automata = a;
    clocks = c;
    variables = v;
    rendezvous = z;
    locations = (many_at k.locations _ (onward rest 8) h).0;
    here = λ i l.
        ap (recorded byte (location k.automata k.clocks)) (sym (onward_onward rest 8 (i * location_size k.clocks)))
        ∙ many_nth _ (location_size k.clocks) zero_location (record_takes k.automata k.clocks) k.locations (onward rest 8) n.locations t h i l
        ∙ ap (got (get_or n.locations i zero_location)) (after (location_size k.clocks) i);
  }
    where
      -- the place after location i, counted from the first
      after : (size i : ℕ) → onward (onward rest 8) (i * size + size) ≡ onward rest (8 + i * size + size)
      after size i = onward_onward rest 8 (i * size + size) ∙ ap (onward rest) (let e : 8 + (i * size + size) ≡ 8 + i * size + size = omega arith in e)

  -- the network that the records give
  pub records_located : (t : List ℕ) → records k (onward rest 8) ≡ got n t → Located rest k n
  unfolding records
  records_located t h =
      let a = bind_at (many k.locations (recorded byte (location k.automata k.clocks))) _ (onward rest 8) h in
      let b = bind_at _ _ a.1 a.3 in
      let c = then_at _ _ b.1 b.3 in
      let e = yield_at c.1 c.3 in
      located (ap (λ (m : Network). m.automata) (sym e)) (ap (λ (m : Network). m.clocks) (sym e)) (ap (λ (m : Network). m.variables) (sym e)) (ap (λ (m : Network). m.rendezvous) (sym e)) a.1 (a.2 ∙ ap (λ (m : Network). got m.locations a.1) e)

-- the same of a file that is accepted: its bytes after version and length have the locations
pub numbered_at : {A : Type 0} (q : Read A) {a : A} → numbered q ≡ done a → (t : List ℕ) × (q ≡ got a t)
unfolding numbered
numbered_at (got b t) h = (t, cc)
numbered_at (fault length_fault) h = refused_not h
numbered_at (fault range_fault) h = refused_not h

pub network_located : (file : List ℕ) (n : Network) → network_of file ≡ done n → (k : Counts) × (counts_of file ≡ done k) × Located (onward file 5) k n
unfolding network_of read_network
network_located file n h =
    let a = answer.then_at (read_network file) _ h in
    let b = answer.then_at (counts_of file) _ a.1 in
    let k = b.0 in
    let w = numbered_at (records k (onward file 13)) b.2 in
    let same : a.0 ≡ n = let q = (unless_at 25 (sound a.0) (done a.0) a.2).1 in cc in (
      k,
      b.1,
      records_located (onward file 5) k (counts_at_lem file b.1).1 n w.0 (ap (records k) (onward_onward file 5 8) ∙ w.1 ∙ ap (λ (m : Network). got m w.0) same),
    )

-- each field of a location, by its place; from the count on there is no location
module _ {rest : List ℕ} {k : Counts} {n : Network} (L : Located rest k n) where
  pub few_clocks : k.clocks ≤ 8
  few_clocks = let h = L.in_range_lem in let e : leb k.clocks 8 ≡ true = search parts in leb-true k.clocks 8 e

  module _ {i : ℕ} where
    pub no_location : k.locations ≤ i → location_at n i ≡ zero_location
    unfolding location_at
    no_location h = get_or-eq_default n.locations zero_location (omega (arith, L.locations))

    module _ (h : i < k.locations) where
      there : Fields k.clocks rest (location_place k.clocks i + 1) (location_at n i) (onward rest (location_place k.clocks i + location_size k.clocks))
      there =
          let w = recorded_inside byte _ (location_front k.automata k.clocks) (onward rest (location_place k.clocks i)) (L.here i h) in
          let e : w.1 ≡ onward rest (location_place k.clocks i + 1) = byte_takes _ w.0 w.1 w.2 ∙ onward_onward rest (location_place k.clocks i) 1 in
          fields k.automata k.clocks rest _ (location_at n i) _ (ap (location k.automata k.clocks) (sym e) ∙ w.3)

      pub automaton_byte : get_or rest (location_place k.clocks i + 1) 0 ≡ (location_at n i).automaton
      automaton_byte = byte_value rest (location_place k.clocks i + 1) there.automaton

      pub urgent_byte : get_or rest (location_place k.clocks i + 2) 0 ≡ (location_at n i).urgent
      urgent_byte = ap (λ (p : ℕ). get_or rest p 0) (omega arith) ∙ byte_value rest (location_place k.clocks i + 1 + 1) there.urgent

      pub initial_byte : get_or rest (location_place k.clocks i + 3) 0 ≡ (location_at n i).initial
      initial_byte = ap (λ (p : ℕ). get_or rest p 0) (omega arith) ∙ byte_value rest (location_place k.clocks i + 1 + 2) there.initial

      pub bounds_row : row k.clocks (onward rest (location_place k.clocks i + 4)) ≡ got (location_at n i).bounds (onward rest (location_place k.clocks i + location_size k.clocks))
      bounds_row = ap (λ (p : ℕ). row k.clocks (onward rest p)) (omega arith) ∙ there.bounds

-- a location is of one of at most sixteen automata
pub few_owners : {rest : List ℕ} {k : Counts} {n : Network} → Located rest k n → (i : ℕ) → (location_at n i).automaton < 16
unfolding location
few_owners {k = k} {n} L i = elim (dec_lt i k.locations) [
  | yes l ↦ let w = recorded_at byte _ _ (L.here i l) in
      let a = bind_at _ _ w.0 w.2 in
      let u = bind_at _ _ a.1 a.3 in
      let j = bind_at _ _ u.1 u.3 in
      let r = bind_at _ _ j.1 j.3 in
      let h = L.in_range_lem in
      let few : leb k.automata 16 ≡ true = search parts in
      let own = ap (λ (x : Location). x.automaton) (yield_at r.1 r.3) in
      omega (arith, own, ltb-true a.0 k.automata (such_at _ _ w.0 a.2).0, leb-true k.automata 16 few)
  | no l ↦ let e = ap (λ (x : Location). x.automaton) (no_location L {i = i} (omega arith)) in omega (arith, e)
]
