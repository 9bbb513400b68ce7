-- The network's file, piece by piece.
use mathlib.Core.Path.{◌≡◌, refl, sym, ap, ◌∙◌, subst}
use mathlib.Core.List.{List, [], ◌∷◌, ◌++◌, map}
use Prim.Native.Nat.{ℕ, ◌+◌, ◌*◌, ◌≤◌, ◌<◌}
use native.Mathlib.Omega.{arith}
use native.Mathlib.Nat.{mul-le-mul, zero-add}
use lib.ListN.{length, drop, length-append, length-map}
use Rattle.lists.specs.Lists.{concat}
use Rattle.lists.proofs.Lists.{map_at}
use Rattle.network_records.specs.Network.{Location}
use Rattle.chart_records.specs.Chart.{Chart}
use Rattle.chart_records.proofs.Ranges.{chart_at_lem}
use Rattle.flattening.specs.File.{out2, out4, record_bytes, content_bytes, network_bytes}
use Rattle.flattening.specs.Flatten.{place_home, all_places, location_of, flatten}
use Rattle.flattening.proofs.Numbers.{all_places_at, places_by}
use Rattle.flattening.proofs.Bounds.{places_row}
use Rattle.flatten_tables.specs.Bounding.{Bounded}
use Rattle.flatten_tables.specs.Summing.{Summed}
use Rattle.flatten_tables.specs.declared.summary.Summary.{Summary}
use Rattle.flattener.specs.Writing.{overlay, Wrote}
use Rattle.flattener.specs.Records.{location_record, edge_record}
use Rattle.flattener.specs.Locating.{Located}
use Rattle.flattener.proofs.Writing.{wrote_then}
use Rattle.flattener.proofs.Locating.{location_length}
use Rattle.lists.proofs.Concat.{concat_size}

pub product_small : (p k : ℕ) → p < 256 → k < 256 → p * (4 + 4 * k) < 262144
product_small p k h l = let m : p * (4 + 4 * k) ≤ 255 * 1024 = mul-le-mul {n₁ = p} {m₁ = 4 + 4 * k} {n₂ = 255} {m₂ = 1024} (omega arith) (omega arith) in omega arith

module _ (c : Chart) (s : Summary) (S : Summed c s) where
  locations_size : length (concat (location_record c.clocks) (flatten c).locations) ≡ s.places.count * (4 + 4 * s.counts.clocks)
  unfolding flatten location_of
  locations_size =
      let p = chart_at_lem S.chartered.0 S.chartered.1 in
      concat_size (location_record c.clocks) (4 + 4 * c.clocks) (map (location_of c) (all_places c)) (λ l m.
      let r = map_at (location_of c) (all_places c) m in
      let k = all_places_at c r.1 in
      ap (λ (x : Location). length (location_record c.clocks x)) r.2
      ∙ location_length c.clocks (location_of c r.0) p.1.clocks_few (places_row c p.1 (place_home c r.0) r.0 (places_by c (place_home c r.0) r.0 refl k.stands)))
      ∙ ap (λ (n : ℕ). n * (4 + 4 * c.clocks)) (length-map (all_places c) (location_of c) ∙ sym S.listed.count) ∙ ap (λ (n : ℕ). s.places.count * (4 + 4 * n)) (sym S.clocks)

  content_parts : content_bytes (flatten c)
      ≡ ((flatten c).automata ∷ length (flatten c).locations ∷ out2 (length (flatten c).edges) ++ (c.clocks ∷ c.variables ∷ c.rendezvous ∷ (flatten c).broadcasts ∷ []))
      ++ (concat (location_record c.clocks) (flatten c).locations ++ concat edge_record (flatten c).edges)
  unfolding content_bytes out2 location_record edge_record flatten
  content_parts = refl

  pub content_size : {places edges : ℕ} → places ≡ s.places.count * (4 + 4 * s.counts.clocks) → edges ≡ length (concat edge_record (flatten c).edges) → 8 + places + edges ≡ length (content_bytes (flatten c))
  unfolding out2
  content_size {places} {edges} e f = omega (
    arith,
    ap length content_parts,
    length-append (concat (location_record c.clocks) (flatten c).locations) (concat edge_record (flatten c).edges),
    locations_size,
  )

  -- the counts
  pub counts_are : {edges : ℕ} → edges ≡ length (flatten c).edges →
      (s.automata ∷ s.places.count ∷ out2 edges ++ (s.counts.clocks ∷ s.counts.variables ∷ s.counts.rendezvous ∷ s.broadcasts ∷ []))
      ≡ ((flatten c).automata ∷ length (flatten c).locations ∷ out2 (length (flatten c).edges) ++ (c.clocks ∷ c.variables ∷ c.rendezvous ∷ (flatten c).broadcasts ∷ []))
  unfolding flatten
  counts_are e =
      let places : s.places.count ≡ length (map (location_of c) (all_places c)) = S.listed.count ∙ sym (length-map (all_places c) (location_of c)) in
      λ j. S.automata j ∷ places j ∷ out2 (e j) ++ (S.clocks j ∷ S.variables j ∷ S.rendezvous j ∷ S.broadcasts j ∷ [])

  pub located : {rows : List (List ℕ)} → Bounded c s.tree rows → Located c s.tree rows s.transitions s.places s.initials
  located B = record { chartered = S.chartered; bounded = B; columned = S.columned; listed = S.listed; starting = S.starting }

  pub network_written : {size edges : ℕ} → size ≡ length (content_bytes (flatten c)) → edges ≡ length (flatten c).edges → {a t u v w x : List ℕ} {i j k l r : ℕ} → Wrote a 0 (s.counts.version ∷ []) t i → Wrote t i (out4 size) u j
      → Wrote u j (s.automata ∷ s.places.count ∷ out2 edges ++ (s.counts.clocks ∷ s.counts.variables ∷ s.counts.rendezvous ∷ s.broadcasts ∷ [])) v k
      → Wrote v k (concat (location_record s.counts.clocks) (flatten c).locations) w l → Wrote w l (concat edge_record (flatten c).edges) x r → Wrote a 0 (network_bytes (flatten c)) x r
  unfolding network_bytes record_bytes flatten
  network_written {size} {edges} e f {a} {t} {u} {v} {w} {x} {i} {j} {k} {l} {r} o p q g h =
      let n = flatten c in
      let version = subst (λ (y : ℕ). Wrote a 0 (y ∷ []) t i) S.version o in
      let counts = subst (λ (ys : List ℕ). Wrote u j ys v k) (counts_are f) q in
      let locations = subst (λ (y : ℕ). Wrote v k (concat (location_record y) n.locations) w l) S.clocks g in
      let content : Wrote u j (content_bytes n) x r = rw content_parts (wrote_then counts (wrote_then locations h)) in
      let head = subst (λ (y : ℕ). Wrote t i (out4 y) u j) e p in
      wrote_then version (wrote_then head content)

-- a buffer that holds all
pub wrote_all : {s xs t : List ℕ} {end : ℕ} → Wrote s 0 xs t end → length xs ≤ length s → t ≡ xs ++ drop (length xs) s
unfolding overlay
wrote_all {s} {xs} w h = w.bytes (omega arith) ∙ ap (λ (k : ℕ). xs ++ drop k s) (zero-add (length xs))
