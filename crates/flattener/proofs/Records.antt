-- Records written one after the other.
use mathlib.Core.Path.{◌≡◌, refl, sym, ap, ◌∙◌, subst}
use mathlib.Core.List.{List, [], ◌∷◌, ◌++◌}
use Prim.Native.Nat.{ℕ, zero, suc, ◌+◌, ◌*◌, ◌≤◌, ◌<◌}
use native.Mathlib.Omega.{arith}
use native.Mathlib.Nat.{mul-suc, mul-zero}
use lib.ListN.{length, get_or, take, drop, length-append, length-take, length-drop}
use lib.Seq.{take_all, take-take, take-add, drop-drop, drop_at, take_at, get_or-take, get_or-drop}
use Rattle.lists.specs.Lists.{concat}
use Rattle.network_records.specs.Network.{Edge}
use Rattle.chart_records.specs.Chart.{Chart}
use Rattle.flattening.specs.File.{out2, edge_bytes, record_bytes}
use Rattle.flatten_edges.specs.Gathering.{head_of, head_bytes}
use Rattle.flattener.specs.Records.{edge_record, body_of, Named, Bodied, Writable}
use Rattle.flattener.specs.Writing.{Wrote, part}
use Rattle.flattener.proofs.Writing.{wrote_none, wrote_then}
use Rattle.lists.proofs.Lists.{get_d_mem}
use Rattle.lists.proofs.Concat.{concat_more}

-- the bytes of the first i of some things are written over s, which is now t
pub record Listing {A : Type 0} (f : A → List ℕ) (xs : List A) (s : List ℕ) (at : ℕ) (t : List ℕ) (place i : ℕ) : Type 0 where
  pub few : i ≤ length xs
  pub so_far : Wrote s at (concat f (take i xs)) t place

module _ {A : Type 0} (f : A → List ℕ) (xs : List A) (s : List ℕ) (at : ℕ) where
  pub listing_none : Listing f xs s at s at 0
  unfolding concat
  listing_none = record { few = omega arith; so_far = wrote_none s at }

  pub listing_more : (d : A) {t : List ℕ} {place i : ℕ} {u : List ℕ} {next : ℕ} → Listing f xs s at t place i → i < length xs → Wrote t place (f (get_or xs i d)) u next → Listing f xs s at u next (i + 1)
  listing_more d {i = i} l h w = record { few = omega arith; so_far = rw (concat_more f xs i d h) (wrote_then l.so_far w) }

  pub listing_all : {t : List ℕ} {place i : ℕ} → Listing f xs s at t place i → length xs ≤ i → Wrote s at (concat f xs) t place
  listing_all {t} {place} {i} l h = subst (λ (ys : List A). Wrote s at (concat f ys) t place) (take_all i xs h) l.so_far

-- the length of the first i
pub record Adding {A : Type 0} (f : A → List ℕ) (xs : List A) (sum i : ℕ) : Type 0 where
  pub few : i ≤ length xs
  pub so_far : sum ≡ length (concat f (take i xs))

module _ {A : Type 0} (f : A → List ℕ) (xs : List A) where
  pub adding_none : Adding f xs 0 0
  unfolding concat
  adding_none = record { few = omega arith; so_far = refl }

  pub adding_more : (d : A) {sum i size : ℕ} → Adding f xs sum i → i < length xs → size ≡ length (f (get_or xs i d)) → Adding f xs (sum + size) (i + 1)
  adding_more d {sum} {i} {size} l h e = record { few = omega arith; so_far = rw (concat_more f xs i d h) (omega (arith, l.so_far, e, length-append (concat f (take i xs)) (f (get_or xs i d)))) }

  pub adding_all : {sum i : ℕ} → Adding f xs sum i → length xs ≤ i → sum ≡ length (concat f xs)
  adding_all {sum} {i} l h = l.so_far ∙ ap (λ (ys : List A). length (concat f ys)) (take_all i xs h)

-- pieces of one size, one after the other
module _ {A : Type 0} (f : A → List ℕ) (size : ℕ) (each : (x : A) → length (f x) ≡ size) where
  pub piece_at : (s : List ℕ) (xs : List A) (i : ℕ) (d : A) → take (size * length xs) s ≡ concat f xs → i < length xs → part s (size * i) size ≡ f (get_or xs i d)
  unfolding concat part
  piece_at s [] i d e h = absurd (omega arith)
  piece_at s (x ∷ xs) zero d e h =
      rw (mul-zero size) (sym (take-take size (size * suc (length xs)) s (omega (arith, mul-suc size (length xs)))) ∙ ap (take size) e ∙ take_at (f x) (concat f xs) size (each x))
  piece_at s (x ∷ xs) (suc i) d e h =
      let rest : take (size * length xs) (drop size s) ≡ concat f xs = tail s x xs e in
      ap (take size) (ap (λ (k : ℕ). drop k s) (let z : size * suc i ≡ size + size * i = omega (arith, mul-suc size i) in z) ∙ sym (drop-drop (size * i) size s)) ∙ piece_at (drop size s) xs i d rest (omega arith)
    where
      tail : (s : List ℕ) (x : A) (xs : List A) → take (size * suc (length xs)) s ≡ f x ++ concat f xs → take (size * length xs) (drop size s) ≡ concat f xs
      tail s x xs e =
          let whole : take size s ++ take (size * length xs) (drop size s) ≡ f x ++ concat f xs = sym (take-add size (size * length xs) s) ∙ ap (λ (k : ℕ). take k s) (let z : size + size * length xs ≡ size * suc (length xs) = omega (arith, mul-suc size (length xs)) in z) ∙ e in
          let long : length (take size s) ≡ size = omega (arith, length-take size s, ap length e, length-take (size * suc (length xs)) s, length-append (f x) (concat f xs), each x, mul-suc size (length xs)) in
          sym (drop_at (take size s) (take (size * length xs) (drop size s)) size long) ∙ ap (drop size) whole ∙ drop_at (f x) (concat f xs) size (each x)

-- heads of edges
head_long : (e : Edge) → length (head_bytes (head_of e)) ≡ 13
unfolding head_bytes out2
head_long e = refl

pub head_transition : (heads : List ℕ) (start : ℕ) (e : Edge) → part heads start 13 ≡ head_bytes (head_of e) → get_or heads (start + 2) 0 ≡ e.transition
unfolding part head_bytes out2
head_transition heads start e h = sym (get_or-take 13 (drop start heads) 2 0 (omega arith) ∙ get_or-drop start heads 2 0) ∙ ap (λ (l : List ℕ). get_or l 2 0) h

pub head_within : (heads : List ℕ) (start : ℕ) (e : Edge) → part heads start 13 ≡ head_bytes (head_of e) → start + 13 ≤ length heads
unfolding part
head_within heads start e h = omega (arith, ap length h, head_long e, length-take 13 (drop start heads), length-drop start heads)

pub named : (c : Chart) (e : Edge) → Bodied c e → {t : ℕ} → t ≡ e.transition → Named c t
named c e b z = subst (Named c) (sym z) b.named

-- an edge's record
record_parts : (e : Edge) → edge_record e ≡ out2 (13 + length e.label.bytes) ++ (head_bytes (head_of e) ++ e.label.bytes)
unfolding edge_record record_bytes edge_bytes head_bytes out2
record_parts e = ap (λ (k : ℕ). out2 k ++ edge_bytes e) (let z : length (edge_bytes e) ≡ 13 + length e.label.bytes = omega arith in z)

pub record_written : (c : Chart) (e : Edge) → Bodied c e → (heads : List ℕ) (start : ℕ) → part heads start 13 ≡ head_bytes (head_of e) → {s u v w : List ℕ} {at p q r t size : ℕ} → t ≡ e.transition → size ≡ length (body_of c t)
    → Wrote s at (out2 (13 + size)) u p → (start + 13 ≤ length heads → Wrote u p (part heads start 13) v q) → Wrote v q (body_of c t) w r → Wrote s at (edge_record e) w r
record_written c e b heads start h {s} {u} {v} {w} {at} {p} {q} {r} {t} {size} i j x y k =
    let z : size ≡ length (body_of c e.transition) = j ∙ ap (λ (t : ℕ). length (body_of c t)) i in
    let l : edge_record e ≡ out2 (13 + size) ++ (part heads start 13 ++ body_of c e.transition) =
    record_parts e ∙ ap (λ (l : List ℕ). out2 (13 + length l) ++ (head_bytes (head_of e) ++ l)) b.body
    ∙ ap (λ (n : ℕ). out2 (13 + n) ++ (head_bytes (head_of e) ++ body_of c e.transition)) (sym z)
    ∙ ap (λ (l : List ℕ). out2 (13 + size) ++ (l ++ body_of c e.transition)) (sym h) in
    rw l (wrote_then x (wrote_then (y (head_within heads start e h)) (subst (λ (t : ℕ). Wrote v q (body_of c t) w r) i k)))

pub record_length : (c : Chart) (e : Edge) → Bodied c e → {t size : ℕ} → t ≡ e.transition → size ≡ length (body_of c t) → 15 + size ≡ length (edge_record e)
unfolding edge_record record_bytes edge_bytes out2
record_length c e b i z = omega (arith, z, ap (λ (t : ℕ). length (body_of c t)) i, ap length b.body)

-- the edges that are written
abbrev pub no_edge : Edge
no_edge = record { source = 0; target = 0; transition = 255; exit = 255; tested = 0; needed = 0; written = 0; values = 0; label = record { signal = 0; channel = 255; resets = 0; body = record { guards = []; updates = [] }; bytes = [] } }

module _ {heads : List ℕ} {count : ℕ} {rest offsets : List ℕ} {c : Chart} {es : List Edge} (W : Writable heads count rest offsets c es) where
  pub writable_count : count ≡ length es
  writable_count = omega (arith, W.gathered.counted, W.few)

  pub writable_lt : (i : ℕ) → i < count → i < length es
  writable_lt i h = omega (arith, writable_count)

  pub writable_le : (i : ℕ) → count ≤ i → length es ≤ i
  writable_le i h = omega (arith, writable_count)

  pub writable_head : (i : ℕ) → i < count → part heads (13 * i) 13 ≡ head_bytes (head_of (get_or es i no_edge))
  writable_head i h = piece_at (λ e. head_bytes (head_of e)) 13 head_long heads es i no_edge (W.gathered.stand W.few) (omega (arith, writable_count))

  pub writable_body : (i : ℕ) → i < count → Bodied c (get_or es i no_edge)
  writable_body i h = W.bodied _ (get_d_mem es i no_edge (omega (arith, writable_count)))
