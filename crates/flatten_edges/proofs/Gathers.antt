-- Laws of gathered edges: one more edge, and no more room for one.
use mathlib.Core.Path.{◌≡◌, refl, sym, ap, ap₂, ◌∙◌, subst}
use mathlib.Core.List.{List, [], ◌∷◌, ◌++◌, append_assoc, append-nil}
use Prim.Native.Nat.{ℕ, ◌+◌, ◌*◌, ◌≤◌, ◌<◌}
use native.Mathlib.Omega.{arith}
use native.Mathlib.Numerals.{add-one}
use borrow.Author.Rules.{rules}
use borrow.Rule.Slice.PartMut.{put_mid}
use Rattle.std.proofs.lemmas.Slice.{take-put_mid, overwrites}
use lib.ListN.{length, get_or, take, drop, length-append, take-append-drop}
use lib.Seq.{take_all, take-suc}
use Rattle.lists.specs.Lists.{concat}
use Rattle.lists.proofs.Concat.{concat_append, concat_single}
use Rattle.network_records.specs.Network.{Edge}
use Rattle.flattening.specs.File.{out2}
use Rattle.flatten_edges.specs.declared.head.Head.{Head}
use Rattle.flatten_edges.specs.Gathering.{head_of, head_bytes, Gathered}
use Rattle.flatten_edges.specs.Adding.{Adds}

pub length_head : (h : Head) → length (head_bytes h) ≡ 13
unfolding head_bytes out2
length_head h = refl

-- one edge more
pub gathered_more : (s l : List ℕ) (n : ℕ) (h : Head) (es : List Edge) (e : Edge) → Gathered s n es → n < 1024 → h ≡ head_of e → take (13 * n + length (head_bytes h)) l ≡ take (13 * n) s ++ head_bytes h → Gathered l (n + 1) (es ++ (e ∷ []))
gathered_more s l n h es e G few same t =
    let long : length (es ++ (e ∷ [])) ≡ length es + 1 = length-append es (e ∷ []) in
    let count : length es ≡ n = omega (arith, G.counted) in
    record {
      counted = omega (arith, long, count);
      stand = λ k. ap (λ (m : ℕ). take m l) (let z : 13 * length (es ++ (e ∷ [])) ≡ 13 * n + length (head_bytes h) = omega (arith, length_head h, long, count) in z)
          ∙ t
          ∙ ap₂ (λ (x y : List ℕ). x ++ y) (ap (λ (m : ℕ). take (13 * m) s) (sym count) ∙ G.stand (omega (arith, count))) (ap head_bytes same ∙ sym (concat_single _ e))
          ∙ sym (concat_append _ es (e ∷ []));
    }

pub gathered_full : (s l : List ℕ) (n : ℕ) (es : List Edge) (e : Edge) → Gathered s n es → 1024 ≤ n → Gathered l 1025 (es ++ (e ∷ []))
gathered_full s l n es e G full =
    let long : length (es ++ (e ∷ [])) ≡ length es + 1 = length-append es (e ∷ []) in
    record { counted = omega (arith, G.counted, long); stand = λ k. absurd (omega (arith, G.counted, long)) }

-- nothing added, and one part after another
pub adds_none : (s : List ℕ) (n : ℕ) → Adds s n s n []
adds_none s n = record { long = λ h. h; after = λ h es G. subst (λ (x : List Edge). Gathered s n x) (sym (append-nil es)) G }

pub adds_then : {s l k : List ℕ} {n m j : ℕ} {xs ys : List Edge} → Adds s n l m xs → Adds l m k j ys → Adds s n k j (xs ++ ys)
adds_then {k = k} {j = j} {xs = xs} {ys = ys} A B = record {
  long = λ h. B.long (A.long h);
  after = λ h es G. subst (λ (x : List Edge). Gathered k j x) (append_assoc es xs ys) (B.after (A.long h) (es ++ xs) (A.after h es G));
}

-- one edge added, its k bytes written over those after the others
pub adds_one : (s : List ℕ) (n k : ℕ) (h : Head) (bytes : List ℕ) (e : Edge) → bytes ≡ head_bytes h → n < 1024 → k ≡ 13 → h ≡ head_of e → Adds s n (put_mid (13 * n) k s bytes) (n + 1) (e ∷ [])
adds_one s n k h bytes e b few z same =
    let size : length bytes ≡ 13 = ap length b ∙ length_head h in
    record {
      long = λ i. let fits : 13 * n + k ≤ length s = omega arith in let l : length (put_mid (13 * n) k s bytes) ≡ length s = search (rules, overwrites) in l ∙ i;
      after = λ i es G. gathered_more s _ n h es e G few same
          (take-put_mid (13 * n) k s bytes (13 * n + length (head_bytes h)) (ap (λ (x : List ℕ). 13 * n + length x) (sym b)) (omega arith) ∙ ap (λ (x : List ℕ). take (13 * n) s ++ x) b);
    }

pub adds_full : (s : List ℕ) (n : ℕ) (e : Edge) → 1024 ≤ n → Adds s n s 1025 (e ∷ [])
adds_full s n e full = record { long = λ i. i; after = λ i es G. gathered_full s s n es e G full }

pub adds_skip : (s : List ℕ) (n : ℕ) {new : List Edge} → new ≡ [] → Adds s n s n new
adds_skip s n e = subst (Adds s n s n) (sym e) (adds_none s n)

-- more edges than there is room for
pub adds_over : (s : List ℕ) (n : ℕ) (new : List Edge) → 1024 < length new → Adds s n s 1025 new
adds_over s n new h = record {
  long = λ i. i;
  after = λ i es G. let long : length (es ++ new) ≡ length es + length new = length-append es new in record { counted = omega (arith, long); stand = λ k. absurd (omega (arith, long)) };
}

-- after more edges than there is room for
pub adds_past : (s : List ℕ) (n : ℕ) (new : List Edge) → 1024 < n → Adds s n s 1025 new
adds_past s n new h = record {
  long = λ i. i;
  after = λ i es G. let long : length (es ++ new) ≡ length es + length new = length-append es new in record { counted = omega (arith, G.counted, long); stand = λ k. absurd (omega (arith, G.counted, long)) };
}

-- a loop over a list that adds some edges for each element
module _ {A : Type 0} (g : A → List Edge) (xs : List A) where
  pub walk_none : (s : List ℕ) (n : ℕ) → Adds s n s n (concat g (take 0 xs))
  unfolding concat
  walk_none s n = adds_none s n

  pub walk_more : (k : ℕ) (d : A) {s l h : List ℕ} {n m j : ℕ} → Adds s n l m (concat g (take k xs)) → k < length xs → Adds l m h j (g (get_or xs k d)) → Adds s n h j (concat g (take (k + 1) xs))
  walk_more k d {s} {l} {h} {n} {m} {j} W i B =
      let more : concat g (take (k + 1) xs) ≡ concat g (take k xs) ++ g (get_or xs k d) =
      ap (λ (i : ℕ). concat g (take i xs)) (add-one k)
      ∙ ap (concat g) (take-suc xs k d i)
      ∙ concat_append g (take k xs) (get_or xs k d ∷ [])
      ∙ ap (λ (y : List Edge). concat g (take k xs) ++ y) (concat_single g (get_or xs k d)) in
      subst (Adds s n h j) (sym more) (adds_then W B)

  pub walk_all : (k : ℕ) {s l : List ℕ} {n m : ℕ} → Adds s n l m (concat g (take k xs)) → length xs ≤ k → Adds s n l m (concat g xs)
  walk_all k {s} {l} {n} {m} W h = subst (λ (y : List A). Adds s n l m (concat g y)) (take_all k xs h) W

  -- it may end once there are too many
  pub walk_past : (k : ℕ) {s l : List ℕ} {n m : ℕ} → Adds s n l m (concat g (take k xs)) → 1024 < m → Adds s n l 1025 (concat g xs)
  walk_past k {s} {l} {n} {m} W h = subst (Adds s n l 1025) (sym (concat_append g (take k xs) (drop k xs)) ∙ ap (concat g) (take-append-drop k xs)) (adds_then W (adds_past l m (concat g (drop k xs)) h))
