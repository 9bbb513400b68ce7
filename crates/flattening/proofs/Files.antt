-- Reading what was printed gives the network back.
use mathlib.Core.Path.{◌≡◌, refl, sym, ap, ◌∙◌}
use mathlib.Core.Bool.{true, ◌||◌, ◌&&◌}
use mathlib.Core.Logic.{◌⊎◌, ⊎_elim}
use mathlib.Core.List.{List, [], ◌∷◌, ◌++◌, append-nil, Memᴰ as Mem}
use Prim.Native.Nat.{ℕ, ◌+◌, ◌-◌, ◌*◌, ◌^◌, ◌/◌, ◌%◌, ◌≤◌, ◌<◌}
use native.Mathlib.Omega.{arith}
use native.Mathlib.Nat.{div-div-eq-div-mul, lt_of_lt_of_le}
use borrow.Author.Tests.{lt-ltb, le-leb, eq-eqb, eqb-true, leb-true}
use lib.Dec.{leb, ltb, eqb}
use lib.ListN.{length, take, length-append, length-take}
use lib.Pow.{pow_mono}
use Rattle.lists.specs.Lists.{concat, implies, subset}
use Rattle.reading.specs.Answer.{done}
use Rattle.reading.specs.Answer as answer
use Rattle.reading.specs.Places.{onward}
use Rattle.reading.specs.Reading.{got, yield, byte, byte2, byte4, many}
use Rattle.reading.specs.Version.{is_version}
use Rattle.labels.specs.Label.{limits, label}
use Rattle.labels.specs.declared.label.Limits.{Limits}
use Rattle.clocks.specs.Clocks.{is_bound, clock_limit, no_bound, row}
use Rattle.lists.proofs.Bools.{both, or_l, or_r, or_cases, implies_by}
use Rattle.lists.proofs.Concat.{concat_length}
use Rattle.reading.proofs.Answer.{unless_by}
use Rattle.reading.proofs.Places.{bind_got, then_got, such_got}
use Rattle.reading.proofs.Printed.{byte_front, byte2_front, byte4_front, such_front, end_front, bytes_front, many_printed, recorded_printed}
use Rattle.clocks.proofs.Ranges.{Row, row_printed}
use Rattle.labels.proofs.LabelRanges.{LabelRange, label_printed}
use Rattle.network_records.specs.Network.{Location, Edge, Network, location, edge, records, numbered, headed, counts_at, in_range, counts_of, read_network}
use Rattle.network_records.specs.declared.header.Counts.{Counts}
use Rattle.flattening.specs.File.{out2, out4, location_bytes, edge_bytes, record_bytes, content_bytes, network_bytes}

-- numbers
pub byte2_printed : (x : ℕ) → x < 2 ^ 16 → (s : List ℕ) → byte2 (out2 x ++ s) ≡ got x s
unfolding out2
byte2_printed x h s = byte2_front (x / 256 % 256) (x % 256) s ∙ ap (λ (n : ℕ). got n s) (omega arith)

-- four digits of a number to the base 256
digits : (x : ℕ) → x < 2 ^ 32 → 256 * (256 * (256 * (x / 2 ^ 24 % 256) + x / 2 ^ 16 % 256) + x / 256 % 256) + x % 256 ≡ x
digits x h = go (x / 256) (x / 2 ^ 16) (x / 2 ^ 24) refl (sym (div-div-eq-div-mul x 256 256)) (sym (div-div-eq-div-mul x (2 ^ 16) 256))
  where
    go : (a b c : ℕ) → a ≡ x / 256 → b ≡ x / 256 / 256 → c ≡ x / 2 ^ 16 / 256 → 256 * (256 * (256 * (c % 256) + b % 256) + a % 256) + x % 256 ≡ x
    go a b c d e f =
        let g : b ≡ a / 256 = e ∙ ap (λ (z : ℕ). z / 256) (sym d) in
        let k : c ≡ b / 256 = f ∙ ap (λ (z : ℕ). z / 256) (sym (div-div-eq-div-mul x 256 256) ∙ sym e) in
        let l : a < 2 ^ 24 = omega arith in
        let m : b < 2 ^ 16 = omega arith in
        let n : c < 256 = omega arith in
        let o : c % 256 ≡ c = omega arith in
        let q : 256 * c + b % 256 ≡ b = omega arith in
        let r : 256 * b + a % 256 ≡ a = omega arith in
        omega arith

pub byte4_printed : (x : ℕ) → x < 2 ^ 32 → (s : List ℕ) → byte4 (out4 x ++ s) ≡ got x s
unfolding out4
byte4_printed x h s = byte4_front (x / 2 ^ 24 % 256) (x / 2 ^ 16 % 256) (x / 256 % 256) (x % 256) s ∙ ap (λ (n : ℕ). got n s) (digits x h)

bound_lt : (b : ℕ) → is_bound b ≡ true → b < 2 ^ 32
bound_lt b h = ⊎_elim (λ e. let l = leb-true b clock_limit e in omega arith) (λ e. let l = eqb-true b no_bound e in omega arith) (or_cases (leb b clock_limit) (eqb b no_bound) h)

-- what the readers ask of a location, an edge and a network
pub record PrintableLocation (automata clocks : ℕ) (l : Location) : Type 0 where
  pub automaton_known : l.automaton < automata
  pub urgent_flag : l.urgent < 2
  pub initial_flag : l.initial < 2
  pub bounds_row : Row clocks l.bounds

pub record PrintableEdge (automata locations : ℕ) (l : Limits) (channels : ℕ) (e : Edge) : Type 0 where
  pub source_known : e.source < locations
  pub target_known : e.target < locations
  pub transition_known : (e.transition < 64) ⊎ (e.transition ≡ 255)
  pub exit_known : (e.exit < 8) ⊎ (e.exit ≡ 255)
  pub tested_known : e.tested < 2 ^ automata
  pub tested_none : e.exit ≡ 255 → e.tested ≡ 0
  pub needed_tested : subset 16 e.needed e.tested ≡ true
  pub needed_short : e.needed < 2 ^ 16
  pub written_byte : e.written < 256
  pub values_byte : e.values < 256
  pub values_written : subset 8 e.values e.written ≡ true
  pub label_known : LabelRange l channels e.label
  pub record_short : length (edge_bytes e) < 2 ^ 16

pub record Printable (n : Network) : Type 0 where
  pub version_known : is_version n.version ≡ true
  pub automata_some : 1 ≤ n.automata
  pub automata_few : n.automata ≤ 16
  pub locations_some : 1 ≤ length n.locations
  pub locations_few : length n.locations ≤ 192
  pub edges_few : length n.edges ≤ 1024
  pub clocks_few : n.clocks ≤ 8
  pub variables_few : n.variables ≤ 16
  pub rendezvous_few : n.rendezvous ≤ 16
  pub broadcasts_few : n.broadcasts ≤ 144
  pub of_location : (l : Location) → Mem l n.locations → PrintableLocation n.automata n.clocks l
  pub of_edge : (e : Edge) → Mem e n.edges → PrintableEdge n.automata (length n.locations) (limits n.version n.clocks n.variables) (n.rendezvous + n.broadcasts) e

one_of : (x m k : ℕ) → (x < m) ⊎ (x ≡ k) → (ltb x m || eqb x k) ≡ true
one_of x m k h = ⊎_elim (λ l. or_l (eqb x k) (lt-ltb x m l)) (λ e. or_r (ltb x m) (eq-eqb x k e)) h

-- a location's record
location_printed : (automata clocks : ℕ) → clocks ≤ 8 → (l : Location) → PrintableLocation automata clocks l → location automata clocks (location_bytes clocks l) ≡ got l []
unfolding location location_bytes yield
location_printed automata clocks h l p =
    bind_got _ _ _ (such_front _ l.automaton _ (lt-ltb _ _ p.automaton_known))
    ∙ (bind_got _ _ _ (such_front _ l.urgent _ (lt-ltb _ _ p.urgent_flag))
    ∙ (bind_got _ _ _ (such_front _ l.initial _ (lt-ltb _ _ p.initial_flag))
    ∙ bind_got _ _ _ (ap (row clocks) (sym (append-nil _)) ∙ row_printed out4 (λ x b s. byte4_printed x (bound_lt x b) s) clocks h l.bounds p.bounds_row [])))

-- an edge's record
edge_printed : (automata locations : ℕ) (l : Limits) (channels : ℕ) → automata ≤ 16 → (e : Edge) → PrintableEdge automata locations l channels e → edge automata locations l channels (edge_bytes e) ≡ got e []
unfolding edge edge_bytes yield
edge_printed automata locations l channels h e p =
    bind_got _ _ _ (such_front _ e.source _ (lt-ltb _ _ p.source_known))
    ∙ (bind_got _ _ _ (such_front _ e.target _ (lt-ltb _ _ p.target_known))
    ∙ (bind_got _ _ _ (such_front _ e.transition _ (one_of _ 64 255 p.transition_known))
    ∙ (bind_got _ _ _ (such_front _ e.exit _ (one_of _ 8 255 p.exit_known))
    ∙ (bind_got _ _ _ (such_got byte2 _ _ (byte2_printed e.tested (lt_of_lt_of_le p.tested_known (pow_mono h)) _) tested)
    ∙ (bind_got _ _ _ (such_got byte2 _ _ (byte2_printed e.needed p.needed_short _) p.needed_tested)
    ∙ (bind_got _ _ _ (byte_front e.written _)
    ∙ (bind_got _ _ _ (such_front _ e.values _ p.values_written)
    ∙ bind_got _ _ _ (label_printed l channels e.label p.label_known))))))))
  where
    tested : (ltb e.tested (2 ^ automata) && implies (eqb e.exit 255) (eqb e.tested 0)) ≡ true
    tested = both (lt-ltb _ _ p.tested_known) (implies_by _ _ (λ z. eq-eqb _ 0 (p.tested_none (eqb-true e.exit 255 z))))

-- the counts of a network's file, and its records
abbrev counts_in : Network → Counts
counts_in n = record { version = n.version; automata = n.automata; locations = length n.locations; edges = length n.edges; clocks = n.clocks; variables = n.variables; rendezvous = n.rendezvous; broadcasts = n.broadcasts }

location_record : Network → Location → List ℕ
location_record n l = record_bytes (λ k. k ∷ []) (location_bytes n.clocks l)

edge_record : Edge → List ℕ
edge_record e = record_bytes out2 (edge_bytes e)

content : Network → List ℕ
content n = concat (location_record n) n.locations ++ concat edge_record n.edges

records_printed : (n : Network) → Printable n → records (counts_in n) (content n) ≡ got n []
unfolding records content location_record edge_record record_bytes yield
records_printed n p =
    bind_got _ _ _ (many_printed _ _ n.locations (λ l m s. recorded_printed byte (λ k. k ∷ []) _ (location_bytes n.clocks l) s (λ t. byte_front _ t) (location_printed _ _ p.clocks_few l (p.of_location l m))) _)
    ∙ (bind_got _ _ _ (ap (many _ _) (sym (append-nil _)) ∙ many_printed _ _ n.edges (λ e m s. recorded_printed byte2 out2 _ (edge_bytes e) s (λ t. byte2_printed _ (p.of_edge e m).record_short t) (edge_printed _ _ _ _ p.automata_few e (p.of_edge e m))) [])
    ∙ then_got _ _ _ end_front)

counts_printed : (n : Network) → Printable n → counts_at (network_bytes n) ≡ counts_in n
unfolding network_bytes record_bytes content_bytes out2 out4
counts_printed n p =
    let z : 256 * (length n.edges / 256 % 256) + length n.edges % 256 ≡ length n.edges = omega (arith, p.edges_few) in
    ap (λ (e : ℕ). record { version = n.version; automata = n.automata; locations = length n.locations; edges = e; clocks = n.clocks; variables = n.variables; rendezvous = n.rendezvous; broadcasts = n.broadcasts }) z

in_range_printed : (n : Network) → Printable n → in_range (counts_in n) ≡ true
in_range_printed n p = both (le-leb _ _ p.automata_some) (both (le-leb _ _ p.automata_few)
    (both (le-leb _ _ p.locations_some) (both (le-leb _ _ p.locations_few) (both (le-leb _ _ p.edges_few)
    (both (le-leb _ _ p.clocks_few) (both (le-leb _ _ p.variables_few)
    (both (le-leb _ _ p.rendezvous_few) (le-leb _ _ p.broadcasts_few))))))))

network_length : (n : Network) → length (network_bytes n) ≡ 5 + length (content_bytes n)
unfolding network_bytes record_bytes out4
network_length n = omega arith

content_some : (n : Network) → 8 ≤ length (content_bytes n)
unfolding content_bytes out2
content_some n = omega arith

header_printed : (n : Network) → is_version n.version ≡ true → length (content_bytes n) < 2 ^ 32 → headed (network_bytes n) ≡ true
unfolding headed network_bytes record_bytes out4
header_printed n v h =
    let some : 13 ≤ length (network_bytes n) = omega (arith, network_length n, content_some n) in
    let rest : length (content_bytes n) ≡ length (network_bytes n) - 5 = omega (arith, network_length n) in
    both (le-leb 13 (length (network_bytes n)) some) (both v (eq-eqb _ (length (network_bytes n) - 5) (digits (length (content_bytes n)) h ∙ rest)))

-- its length fits four bytes
content_short : (n : Network) → Printable n → length (content_bytes n) < 2 ^ 32
unfolding content_bytes location_record edge_record record_bytes location_bytes out2 out4
content_short n p = omega (
  arith,
  length-append (concat (location_record n) n.locations) (concat edge_record n.edges),
  concat_length (location_record n) 36 n.locations (λ l m. location-short l),
  concat_length edge_record 65537 n.edges edge_short,
  p.locations_few,
  p.edges_few,
)
  where
    location-short : (l : Location) → length (location_record n l) ≤ 36
    location-short l = omega (arith, concat_length out4 4 (take n.clocks l.bounds) (λ x m. omega arith), length-take n.clocks l.bounds, p.clocks_few)

    edge_short : (e : Edge) → Mem e n.edges → length (edge_record e) ≤ 65537
    edge_short e m = omega (arith, (p.of_edge e m).record_short)

rest_printed : (n : Network) → onward (network_bytes n) 13 ≡ content n
unfolding onward network_bytes record_bytes content_bytes content location_record edge_record out2 out4
rest_printed n = refl

pub read_printed : (n : Network) → Printable n → read_network (network_bytes n) ≡ done n
unfolding read_network counts_of numbered answer.◌>>=◌
read_printed n p =
    let e = counts_printed n p in
    rw (unless_by 24 (done (counts_at (network_bytes n))) (both (header_printed n p.version_known (content_short n p)) (ap in_range e ∙ in_range_printed n p)))
    (rw (e, rest_printed n, records_printed n p))
