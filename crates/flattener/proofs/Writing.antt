-- Bytes written over others, one after the other.
use mathlib.Core.Path.{◌≡◌, refl, sym, ap, ◌∙◌, subst}
use mathlib.Core.List.{List, [], ◌∷◌, ◌++◌, append_assoc}
use Prim.Native.Nat.{ℕ, ◌+◌, ◌/◌, ◌%◌, ◌^◌, ◌≤◌, ◌<◌}
use native.Mathlib.Omega.{arith}
use native.Mathlib.Nat.{add-zero, add_assoc}
use native.Mathlib.Numerals.{add-one}
use lib.ListN.{length, get_or, take, drop, set, length-set, length-append, length-drop, take-append-drop}
use lib.Seq.{length-take-le, take_at, drop-append-add, drop-drop, set_split, take-suc, get_or-drop}
use Rattle.flattening.specs.File.{out2, out4}
use Rattle.flattener.specs.Writing.{overlay, Wrote, part}

pub overlay_length : (s : List ℕ) (at : ℕ) (xs : List ℕ) → at + length xs ≤ length s → length (overlay s at xs) ≡ length s
unfolding overlay
overlay_length s at xs h = omega (
  arith,
  length-append (take at s) (xs ++ drop (at + length xs) s),
  length-append xs (drop (at + length xs) s),
  length-take-le at s (omega arith),
  length-drop (at + length xs) s,
)

-- the next bytes right after the first ones
pub overlay_then : (s : List ℕ) (at : ℕ) (xs ys : List ℕ) → at + length xs ≤ length s → overlay (overlay s at xs) (at + length xs) ys ≡ overlay s at (xs ++ ys)
unfolding overlay
overlay_then s at xs ys h =
    let front = take at s ++ xs in
    let rest = drop (at + length xs) s in
    let long : length front ≡ at + length xs = omega (arith, length-append (take at s) xs, length-take-le at s (omega arith)) in
    let whole : overlay s at xs ≡ front ++ rest = sym (append_assoc (take at s) xs rest) in
    let past : drop (at + length xs + length ys) (front ++ rest) ≡ drop (at + length (xs ++ ys)) s =
    ap (λ (k : ℕ). drop (k + length ys) (front ++ rest)) (sym long) ∙ drop-append-add front rest (length ys) ∙ drop-drop (length ys) (at + length xs) s
    ∙ ap (λ (k : ℕ). drop k s) (let z : at + length xs + length ys ≡ at + length (xs ++ ys) = omega (arith, length-append xs ys) in z) in
    ap (λ (t : List ℕ). take (at + length xs) t ++ (ys ++ drop (at + length xs + length ys) t)) whole
    ∙ ap (λ (t : List ℕ). t ++ (ys ++ drop (at + length xs + length ys) (front ++ rest))) (take_at front rest (at + length xs) long)
    ∙ ap (λ (t : List ℕ). front ++ (ys ++ t)) past
    ∙ append_assoc (take at s) xs (ys ++ drop (at + length (xs ++ ys)) s)
    ∙ ap (λ (t : List ℕ). take at s ++ t) (sym (append_assoc xs ys (drop (at + length (xs ++ ys)) s)))

pub overlay_one : (s : List ℕ) (at b : ℕ) → at < length s → set s at b ≡ overlay s at (b ∷ [])
unfolding overlay
overlay_one s at b h = set_split s at b h ∙ ap (λ (k : ℕ). take at s ++ (b ∷ drop k s)) (sym (add-one at))

-- nothing is written
pub wrote_none : (s : List ℕ) (at : ℕ) → Wrote s at [] s at
unfolding overlay
wrote_none s at = record {
  bytes = λ h. sym (ap (λ (k : ℕ). take at s ++ drop k s) (add-zero at) ∙ take-append-drop at s);
  place = λ h. sym (add-zero at);
}

-- what does not fit
pub wrote_not : (s : List ℕ) (at : ℕ) (xs t : List ℕ) (end : ℕ) → length s < at + length xs → Wrote s at xs t end
wrote_not s at xs t end h = record { bytes = λ k. absurd (omega arith); place = λ k. absurd (omega arith) }

pub wrote_one : (s : List ℕ) (at b : ℕ) → at < length s → Wrote s at (b ∷ []) (set s at b) (at + 1)
wrote_one s at b h = record { bytes = λ k. overlay_one s at b h; place = λ k. refl }

-- one piece after the other
pub wrote_then : {s : List ℕ} {at : ℕ} {xs t : List ℕ} {n : ℕ} {ys u : List ℕ} {m : ℕ} → Wrote s at xs t n → Wrote t n ys u m → Wrote s at (xs ++ ys) u m
wrote_then {s} {at} {xs} {t} {n} {ys} {u} {m} a b = record {
  bytes = λ h. b.bytes (fits h) ∙ ap (λ (k : ℕ). overlay t k ys) (a.place (first h)) ∙ ap (λ (l : List ℕ). overlay l (at + length xs) ys) (a.bytes (first h)) ∙ overlay_then s at xs ys (first h);
  place = λ h. omega (arith, b.place (fits h), a.place (first h), length-append xs ys);
}
  where
    first : at + length (xs ++ ys) ≤ length s → at + length xs ≤ length s
    first h = omega (arith, length-append xs ys)

    fits : at + length (xs ++ ys) ≤ length s → n + length ys ≤ length t
    fits h = omega (arith, length-append xs ys, a.place (first h), ap length (a.bytes (first h)), overlay_length s at xs (first h))

-- a part of other bytes, one byte after the other
pub part_none : (s : List ℕ) (start : ℕ) → part s start 0 ≡ []
unfolding part
part_none s start = refl

pub part_more : (s : List ℕ) (start i : ℕ) → start + i < length s → part s start (i + 1) ≡ part s start i ++ (get_or s (start + i) 0 ∷ [])
unfolding part
part_more s start i h = rw (add-one) (take-suc (drop start s) i 0 (omega (arith, length-drop start s)) ∙ ap (λ (b : ℕ). take i (drop start s) ++ (b ∷ [])) (get_or-drop start s i 0))

pub part_length : (s : List ℕ) (start size : ℕ) → start + size ≤ length s → length (part s start size) ≡ size
unfolding part
part_length s start size h = length-take-le size (drop start s) (omega (arith, length-drop start s))

-- the first i bytes of a part of `size` are written over s, which is now t
pub record Copying (s : List ℕ) (at : ℕ) (from : List ℕ) (start size : ℕ) (t : List ℕ) (i : ℕ) : Type 0 where
  pub there : start + size ≤ length from
  pub room : at + size ≤ length s
  pub few : i ≤ size
  pub long : length t ≡ length s
  pub so_far : Wrote s at (part from start i) t (at + i)

pub copying_none : (s : List ℕ) (at : ℕ) (from : List ℕ) (start size : ℕ) → start + size ≤ length from → at + size ≤ length s → Copying s at from start size s 0
copying_none s at from start size h k = record { there = h; room = k; few = omega arith; long = refl; so_far = rw (part_none from start, add-zero at) (wrote_none s at) }

pub copying_more : (s : List ℕ) (at : ℕ) (from : List ℕ) (start size : ℕ) (t : List ℕ) (i : ℕ) → Copying s at from start size t i → i < size
    → Copying s at from start size (set t (at + i) (get_or from (start + i) 0)) (i + 1)
copying_more s at from start size t i w h = record {
  there = w.there;
  room = w.room;
  few = omega arith;
  long = length-set t (at + i) (get_or from (start + i) 0) ∙ w.long;
  so_far = rw (part_more from start i (omega (arith, w.there)), sym (add_assoc at i 1)) (wrote_then w.so_far (wrote_one t (at + i) (get_or from (start + i) 0) (omega (arith, w.long, w.room))));
}

pub copying_all : (s : List ℕ) (at : ℕ) (from : List ℕ) (start size : ℕ) (t : List ℕ) (i : ℕ) → Copying s at from start size t i → size ≤ i → Wrote s at (part from start size) t (at + size)
copying_all s at from start size t i w h = subst (λ (n : ℕ). Wrote s at (part from start n) t (at + n)) (let z : i ≡ size = omega (arith, w.few) in z) w.so_far

-- it does not fit
pub part_not : (s : List ℕ) (at : ℕ) (from : List ℕ) (start size : ℕ) (t : List ℕ) (end : ℕ) → length s < at + size → start + size ≤ length from → Wrote s at (part from start size) t end
part_not s at from start size t end h k = wrote_not s at (part from start size) t end (rw (part_length from start size k) h)

-- a number of four bytes is two of two
pub word_short : (n : ℕ) → out4 n ≡ out2 (n / 65536) ++ out2 n
unfolding out2 out4
word_short n = ap (λ (k : ℕ). k % 256 ∷ n / 65536 % 256 ∷ n / 256 % 256 ∷ n % 256 ∷ []) (let z : n / 2 ^ 24 ≡ n / 65536 / 256 = omega arith in z)
