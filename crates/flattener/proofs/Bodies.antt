-- Where the bodies of transitions' labels stand in a chart's file, and which edges bear them.
use mathlib.Core.Path.{◌≡◌, refl, sym, ap, ◌∙◌, subst}
use mathlib.Core.Bool.{Bool, true, false, cond}
use mathlib.Core.Logic.{⊎_elim}
use mathlib.Core.List.{List, [], ◌∷◌, Memᴰ as Mem}
use Prim.Native.Nat.{ℕ, ◌+◌, ◌-◌, ◌≤◌, ◌<◌}
use native.Mathlib.Omega.{arith}
use borrow.Author.Tests.{leb-true, eq-eqb, ne_eqb}
use lib.Dec.{leb}
use lib.ListN.{length, get_or, take, drop, length-drop}
use lib.Seq.{take-add, drop_at, drop-drop, length-take-le}
use Rattle.reading.specs.Reading.{Fault, got, fault, Reader, ◌>>=◌, byte, byte2, such, framed, whole, recorded}
use Rattle.labels.specs.Label.{Label, body, label}
use Rattle.labels.specs.declared.label.Limits.{Limits}
use Rattle.reading.specs.Places.{onward}
use Rattle.reading.proofs.Reading.{no_answer, next_at, bind_at, such_at, yield_at, got_value}
use Rattle.reading.proofs.Places.{length_onward, onward_onward}
use Rattle.reading.proofs.InFront.{field_at}
use Rattle.reading.proofs.Sizes.{byte_takes, byte2_takes}
use Rattle.chart_records.specs.Chart.{Chart, Transition, transition, transition_at}
use Rattle.chart_records.specs.Layout.{transition_by}
use Rattle.chart_records.specs.Laid.{Laid}
use Rattle.chart_records.specs.declared.header.Counts.{Counts}
use Rattle.network_records.specs.Network.{Edge}
use Rattle.flattening.specs.Flatten.{Place, idle, child, pre, post, signalling, edge, own_edge, flatten}
use Rattle.flattening.proofs.Edges.{Bears, Leaves, edges_at}
use Rattle.flattener.specs.Records.{body_of, Named, Bodied}
use Rattle.flattener.specs.Writing.{Wrote, part}
use Rattle.flattener.proofs.Writing.{part_length}

-- a part of a part
drop_take : (n k : ℕ) (l : List ℕ) → n + k ≤ length l → drop n (take (n + k) l) ≡ take k (drop n l)
drop_take n k l h = ap (drop n) (take-add n k l) ∙ drop_at (take n l) (take k (drop n l)) n (length-take-le n l (omega arith))

-- a byte that is read at a place, and what follows it
byte_step : {B : Type 0} (p : List ℕ) (m : ℕ) (test : ℕ → Bool) (k : ℕ → Reader B) {b : B} {w : List ℕ} → (such byte test >>= k) (onward p m) ≡ got b w
    → (z : ℕ) × (m + 1 ≤ length p) × (k z (onward p (m + 1)) ≡ got b w)
unfolding byte
byte_step p m test k {b} {w} h =
    let a = bind_at (such byte test) k (onward p m) h in
    let f = (such_at byte test (onward p m) a.2).1 in
    let e : a.1 ≡ onward p (m + 1) = byte_takes (onward p m) a.0 a.1 f ∙ onward_onward p m 1 in
    let l = (field_at 1 _ (onward p m) f).0 in
    (a.0, omega (arith, l, length_onward p m), rw e at a.3)

-- a label's body is what stands after the resets
label_body : (l : Limits) (channels : ℕ) (p : List ℕ) {x : Label} {w : List ℕ} → label l channels (onward p 4) ≡ got x w → (7 ≤ length p) × (x.bytes ≡ onward p 7)
unfolding label
label_body l channels p {x} {w} h =
    let g = byte_step p 4 _ _ h in
    let k = byte_step p 5 _ _ g.2 in
    let r = byte_step p 6 _ _ k.2 in
    let y = next_at (body l (onward p 7)) _ r.2 in
    (r.1, sym (ap (λ (z : Label). z.bytes) (yield_at y.1 y.3)))

transition_body : (states entries exits : ℕ) (l : Limits) (channels : ℕ) (p : List ℕ) {x : Transition} {w : List ℕ} → transition states entries exits l channels (onward p 0) ≡ got x w → (7 ≤ length p) × (x.label.bytes ≡ onward p 7)
unfolding transition
transition_body states entries exits l channels p {x} {w} h =
    let a = byte_step p 0 _ _ h in
    let d = byte_step p 1 _ _ a.2 in
    let o = byte_step p 2 _ _ d.2 in
    let i = byte_step p 3 _ _ o.2 in
    let b = bind_at (label l channels) _ (onward p 4) i.2 in
    let f = label_body l channels p b.2 in
    (f.0, sym (ap (λ (z : Transition). z.label.bytes) (yield_at b.1 b.3)) ∙ f.1)

-- bytes that stand in a record, seven after its length
pub record BodyAt (s : List ℕ) (at : ℕ) (bytes : List ℕ) : Type 0 where
  pub size : ℕ
  pub left : List ℕ
  pub length_is : byte2 (onward s at) ≡ got size left
  pub enough : 7 ≤ size
  pub within : at + 2 + size ≤ length s
  pub bytes_are : bytes ≡ part s (at + 9) (size - 7)

-- a record's bytes
framed_at : (s : List ℕ) {p t : List ℕ} → framed byte2 s ≡ got p t → (n : ℕ) × (u : List ℕ) × (byte2 s ≡ got n u) × (n ≤ length u) × (p ≡ take n u)
unfolding framed
framed_at s {p} {t} h =
    let z = bind_at byte2 _ s h in
    let k = go z.0 z.1 (leb z.0 (length z.1)) refl z.3 in
    (z.0, z.1, z.2, k.0, k.1)
  where
    go : (n : ℕ) (u : List ℕ) (b : Bool) → leb n (length u) ≡ b → cond b (got (take n u) (drop n u)) (fault Fault.length_fault) ≡ got p t → (n ≤ length u) × (p ≡ take n u)
    go n u true e k = (leb-true n (length u) e, cc)
    go n u false e k = no_answer k

pub transition_at_body : (n : Counts) (s : List ℕ) (at : ℕ) {x : Transition} {t : List ℕ} → recorded byte2 (transition_by n) (onward s at) ≡ got x t → BodyAt s at x.label.bytes
unfolding recorded whole part onward
transition_at_body n s at {x} {t} h =
    let a = bind_at (framed byte2) _ (onward s at) h in
    let f = framed_at (onward s at) a.2 in
    let y = next_at (transition_by n a.0) _ a.3 in
    let v = next_at _ _ y.3 in
    let e : y.0 ≡ x = got_value v.3 in
    let b = transition_body _ _ _ _ _ a.0 y.2 in
    let u : f.1 ≡ drop (at + 2) s = byte2_takes _ _ _ f.2 ∙ drop-drop 2 at s in
    let long : f.0 ≤ length s - (at + 2) = omega (arith, f.3, ap length u, length-drop (at + 2) s) in
    let l : length a.0 ≡ f.0 = ap length f.4 ∙ length-take-le f.0 f.1 f.3 in
    let seven : 7 ≤ f.0 = omega (arith, b.0) in
    record {
      size = f.0;
      left = f.1;
      length_is = f.2;
      enough = seven;
      within = omega (arith, long, seven);
      bytes_are =
          ap (λ (z : Transition). z.label.bytes) (sym e) ∙ b.1
          ∙ ap (drop 7) (f.4 ∙ ap (take f.0) u ∙ ap (λ (k : ℕ). take k (drop (at + 2) s)) (let z : f.0 ≡ 7 + (f.0 - 7) = omega arith in z))
          ∙ drop_take 7 (f.0 - 7) (drop (at + 2) s) (omega (arith, length-drop (at + 2) s))
          ∙ ap (take (f.0 - 7)) (drop-drop 7 (at + 2) s ∙ ap (λ (k : ℕ). drop k s) (let z : at + 2 + 7 ≡ at + 9 = omega arith in z));
    }

pub laid_body : {rest : List ℕ} {n : Counts} {offsets : List ℕ} {c : Chart} → Laid rest n offsets c → (t : ℕ) → t < length c.transitions → BodyAt rest (get_or offsets t 0) (transition_at c t).label.bytes
unfolding transition_at
laid_body {rest} {n} {offsets} L t h = transition_at_body n rest (get_or offsets t 0) (L.placed t (omega (arith, L.transitions))).1

-- the body of an edge
module _ {rest : List ℕ} {n : Counts} {offsets : List ℕ} (c : Chart) (L : Laid rest n offsets c) (t : ℕ) (k : Named c t) where
  pub body_none : t ≡ 255 → body_of c t ≡ 0 ∷ 0 ∷ []
  unfolding body_of
  body_none e = rw (eq-eqb t 255 e)

  pub body_some : (t ≡ 255 → ⊥) → BodyAt rest (get_or offsets t 0) (body_of c t)
  unfolding body_of
  body_some d = rw (ne_eqb t 255 d) (laid_body L t (k d))

  -- as the code reads it
  pub body_size : (t ≡ 255 → ⊥) → {place size : ℕ} → place ≡ get_or offsets t 0 → ((x : ℕ) (u : List ℕ) → byte2 (onward rest place) ≡ got x u → size ≡ x) → (7 ≤ size) × (size - 7 ≡ length (body_of c t))
  body_size d {place} {size} e f =
      let b = body_some d in
      let z = f b.size b.left (ap (λ (p : ℕ). byte2 (onward rest p)) e ∙ b.length_is) in
      (omega (arith, b.enough), ap (λ (m : ℕ). m - 7) z ∙ sym (ap length b.bytes_are ∙ part_length rest (get_or offsets t 0 + 9) (b.size - 7) (omega (arith, b.enough, b.within))))

  pub body_written : (t ≡ 255 → ⊥) → {place size : ℕ} → place ≡ get_or offsets t 0 → size ≡ length (body_of c t) → {s u : List ℕ} {at end : ℕ}
      → (place + 9 + size ≤ length rest → Wrote s at (part rest (place + 9) size) u end) → Wrote s at (body_of c t) u end
  body_written d {place} {size} e l {s} {u} {at} {end} f =
      let b = body_some d in
      let z : size ≡ b.size - 7 = l ∙ ap length b.bytes_are ∙ part_length rest (get_or offsets t 0 + 9) (b.size - 7) (omega (arith, b.enough, b.within)) in
      let w : part rest (place + 9) size ≡ body_of c t = ap (λ (p : ℕ). part rest (p + 9) size) e ∙ ap (part rest (get_or offsets t 0 + 9)) z ∙ sym b.bytes_are in
      subst (λ (xs : List ℕ). Wrote s at xs u end) w (f (omega (arith, z, e, b.enough, b.within)))

-- every edge of the chart's network has the body of the transition that it bears
own_bodied : (c : Chart) (p r : Place) (signal channel : ℕ) → Bodied c (own_edge c p r (signalling signal channel))
unfolding own_edge edge signalling body_of
own_bodied c p r signal channel = record { named = λ d. absurd (d refl); body = refl }

pub edges_bodied : (c : Chart) → length c.transitions ≤ 64 → (e : Edge) → Mem e (flatten c).edges → Bodied c e
unfolding edge body_of
edges_bodied c few e m = let r = edges_at c m in go r.0 r.2
  where
    is : {x : Edge} → e ≡ x → Bodied c x → Bodied c e
    is h b = subst (Bodied c) (sym h) b

    bears : {t : ℕ} {p : Place} → t < length c.transitions → Bears c t p e → Bodied c e
    bears {t} h b = is b.edge_is (record { named = λ d. h; body = rw (ne_eqb t 255 (λ z. omega arith)) })

    go : (p : Place) → Leaves c p e → Bodied c e
    go (idle q) l = is l.edge_is (own_bodied c _ _ _ _)
    go (child s) l = ⊎_elim (λ j. is j.edge_is (own_bodied c _ _ _ _)) (λ j. bears j.known j.bears) l
    go (pre p) l = is l (own_bodied c _ _ _ _)
    go (post t) l = is l (own_bodied c _ _ _ _)
