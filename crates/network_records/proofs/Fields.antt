-- The fields of an edge stand at fixed places of its record, and the body of its label after them.
use mathlib.Core.Path.{◌≡◌, sym, ap, ◌∙◌}
use mathlib.Core.Bool.{Bool, true, false, cond}
use mathlib.Core.List.{List}
use Prim.Native.Nat.{ℕ, ◌+◌}
use native.Mathlib.Omega.{arith}
use lib.Dec.{leb}
use lib.ListN.{length, get_or, take, drop}
use Rattle.reading.specs.Reading.{Fault, got, fault, Reader, ◌>>=◌, byte, byte2, such, end, framed, whole, recorded}
use Rattle.labels.specs.Label.{limits, Label, body, label}
use Rattle.labels.specs.declared.label.Limits.{Limits}
use Rattle.reading.specs.Places.{onward}
use Rattle.reading.proofs.Reading.{no_answer, got_value, bind_at, next_at, yield_at, such_at}
use Rattle.reading.proofs.Places.{onward_all, onward_onward}
use Rattle.reading.proofs.Sizes.{Takes, such_takes, byte_takes, byte2_takes, byte_value, part_read}
use Rattle.reading.proofs.InFront.{InFront, byte_front, byte2_front}
use Rattle.labels.proofs.Labels.{body_front}
use Rattle.network_records.specs.Network.{Edge, edge}
use Rattle.network_records.specs.Edges.{edge_in, Kept}
use Rattle.network_records.specs.declared.header.Counts.{Counts}
use Rattle.network_records.specs.declared.edge.Edge as code

-- what follows from a value that is read at a place, past a field of known size
module _ {B : Type 0} (p : List ℕ) (b : B) (t : List ℕ) (G : Type 0) where
  past : {A : Type 0} (r : Reader A) (f : A → Reader B) (at n : ℕ) → Takes r n
      → ((a : A) → r (onward p at) ≡ got a (onward p (at + n)) → f a (onward p (at + n)) ≡ got b t → G) → (r >>= f) (onward p at) ≡ got b t → G
  past r f at n size g h =
      let w = bind_at r f (onward p at) h in
      let u = size _ _ _ w.2 ∙ onward_onward p at n in
      g w.0 (w.2 ∙ ap (got w.0) u) (ap (f w.0) (sym u) ∙ w.3)

one : (q : ℕ → Bool) → Takes (such byte q) 1
one q = such_takes byte q 1 byte_takes

two : (q : ℕ → Bool) → Takes (such byte2 q) 2
two q = such_takes byte2 q 2 byte2_takes

-- a label in the content of its edge's record
record LabelFields (l : Limits) (p : List ℕ) (b : Label) : Type 0 where
  signal : byte (onward p 10) ≡ got b.signal (onward p 11)
  channel : byte (onward p 11) ≡ got b.channel (onward p 12)
  resets : byte (onward p 12) ≡ got b.resets (onward p 13)
  rest : (u : List ℕ) × (body l (onward p 13) ≡ got b.body u)

label_fields : (l : Limits) (channels : ℕ) (p : List ℕ) {b : Label} {t : List ℕ} → label l channels (onward p 10) ≡ got b t → LabelFields l p b
unfolding label
label_fields l channels p {b} {t} h =
    past p b t _ _ _ 10 1 (one _) (λ s hs. past p b t _ _ _ 11 1 (one _) λ c hc. past p b t _ _ _ 12 1 (one _) λ r hr j.
    let u = next_at (body l (onward p 13)) _ j in
    let o = yield_at u.1 u.3 in
    record {
      signal = (such_at _ _ (onward p 10) hs).1 ∙ ap (λ (x : Label). got x.signal (onward p 11)) o;
      channel = (such_at _ _ (onward p 11) hc).1 ∙ ap (λ (x : Label). got x.channel (onward p 12)) o;
      resets = (such_at _ _ (onward p 12) hr).1 ∙ ap (λ (x : Label). got x.resets (onward p 13)) o;
      rest = (u.1, u.2 ∙ ap (λ (x : Label). got x.body u.1) o);
    }) h

-- an edge in the content of its record
record Fields (l : Limits) (p : List ℕ) (e : Edge) : Type 0 where
  source : byte (onward p 0) ≡ got e.source (onward p 1)
  target : byte (onward p 1) ≡ got e.target (onward p 2)
  transition : byte (onward p 2) ≡ got e.transition (onward p 3)
  exit : byte (onward p 3) ≡ got e.exit (onward p 4)
  tested : byte2 (onward p 4) ≡ got e.tested (onward p 6)
  needed : byte2 (onward p 6) ≡ got e.needed (onward p 8)
  written : byte (onward p 8) ≡ got e.written (onward p 9)
  values : byte (onward p 9) ≡ got e.values (onward p 10)
  label : LabelFields l p e.label

fields : (k : Counts) (p : List ℕ) {e : Edge} {t : List ℕ} → edge_in k p ≡ got e t → Fields (limits k.version k.clocks k.variables) p e
unfolding edge
fields k p {e} {t} h =
    past p e t _ _ _ 0 1 (one _) (λ s hs. past p e t _ _ _ 1 1 (one _) λ d hd. past p e t _ _ _ 2 1 (one _) λ y hy. past p e t _ _ _ 3 1 (one _) λ x hx.
    past p e t _ _ _ 4 2 (two _) λ m hm. past p e t _ _ _ 6 2 (two _) λ v hv. past p e t _ _ _ 8 1 byte_takes λ w hw. past p e t _ _ _ 9 1 (one _) λ z hz j.
    let b = bind_at _ _ (onward p 10) j in
    let o = yield_at b.1 b.3 in
    record {
      source = (such_at _ _ (onward p 0) hs).1 ∙ ap (λ (f : Edge). got f.source (onward p 1)) o;
      target = (such_at _ _ (onward p 1) hd).1 ∙ ap (λ (f : Edge). got f.target (onward p 2)) o;
      transition = (such_at _ _ (onward p 2) hy).1 ∙ ap (λ (f : Edge). got f.transition (onward p 3)) o;
      exit = (such_at _ _ (onward p 3) hx).1 ∙ ap (λ (f : Edge). got f.exit (onward p 4)) o;
      tested = (such_at _ _ (onward p 4) hm).1 ∙ ap (λ (f : Edge). got f.tested (onward p 6)) o;
      needed = (such_at _ _ (onward p 6) hv).1 ∙ ap (λ (f : Edge). got f.needed (onward p 8)) o;
      written = hw ∙ ap (λ (f : Edge). got f.written (onward p 9)) o;
      values = (such_at _ _ (onward p 9) hz).1 ∙ ap (λ (f : Edge). got f.values (onward p 10)) o;
      label = label_fields _ (k.rendezvous + k.broadcasts) p (b.2 ∙ ap (λ (f : Edge). got f.label b.1) o);
    }) (ap (edge_in k) (onward_all p) ∙ h)

-- a record's content is a part of the file
module _ (k : Counts) (rest : List ℕ) (at : ℕ) {e : Edge} {t : List ℕ} (h : recorded byte2 (edge_in k) (onward rest at) ≡ got e t) where
  content : (n : ℕ) × (v : List ℕ) × (edge_in k (take n (drop (at + 2) rest)) ≡ got e v)
  unfolding recorded framed whole onward
  content =
      let w = bind_at (framed byte2) _ (onward rest at) h in
      let z = bind_at byte2 _ (onward rest at) w.2 in
      let x = next_at (edge_in k w.0) _ w.3 in
      let o = next_at (end x.1) _ x.3 in
      let p = part z.0 z.1 (leb z.0 (length z.1)) z.3 in
      let u : z.1 ≡ drop (at + 2) rest = byte2_takes (onward rest at) z.0 z.1 z.2 ∙ onward_onward rest at 2 in
      (z.0, x.1, ap (edge_in k) (sym (p ∙ ap (take z.0) u)) ∙ x.2 ∙ ap (λ (f : Edge). got f x.1) (got_value o.3))
    where
      part : {p v : List ℕ} (n : ℕ) (u : List ℕ) (b : Bool) → cond b (got (take n u) (drop n u)) (fault Fault.length_fault) ≡ got p v → p ≡ take n u
      part n u true k = cc
      part n u false k = no_answer k

  abbrev bytes : List ℕ
  bytes = take content.0 (drop (at + 2) rest)

  abbrev l : Limits
  l = limits k.version k.clocks k.variables

  here : Fields l bytes e
  here = fields k bytes content.2

  -- what is read in the content is read in the file, two bytes on
  there : {A : Type 0} (r : Reader A) → InFront r → (i : ℕ) {x : A} {u : List ℕ} → r (onward bytes i) ≡ got x u → (v : List ℕ) × (r (onward rest (at + (i + 2))) ≡ got x v)
  there r f i g =
      let w = part_read r f rest (at + 2) content.0 i g in
      (w.0, ap (λ (j : ℕ). r (onward rest j)) (let z : at + (i + 2) ≡ at + 2 + i = omega arith in z) ∙ w.1)

  byte_there : (i : ℕ) {x : ℕ} {u : List ℕ} → byte (onward bytes i) ≡ got x u → get_or rest (at + (i + 2)) 0 ≡ x
  byte_there i g = byte_value rest (at + (i + 2)) (there byte byte_front i g).1

  -- the code reads each field at its place
  pub kept_at : (c : code.Edge) → c.source ≡ get_or rest (at + 2) 0 → c.target ≡ get_or rest (at + 3) 0 → c.transition ≡ get_or rest (at + 4) 0 → c.exit ≡ get_or rest (at + 5) 0
      → ((x : ℕ) (u : List ℕ) → byte2 (onward rest (at + 6)) ≡ got x u → c.tested ≡ x) → ((x : ℕ) (u : List ℕ) → byte2 (onward rest (at + 8)) ≡ got x u → c.needed ≡ x)
      → c.written ≡ get_or rest (at + 10) 0 → c.values ≡ get_or rest (at + 11) 0 → c.signal ≡ get_or rest (at + 12) 0 → c.channel ≡ get_or rest (at + 13) 0 → c.resets ≡ get_or rest (at + 14) 0
      → c.body ≡ at + 15 → Kept k rest c e
  kept_at c s d y x m v w z i j r b = record {
    source = s ∙ byte_there 0 here.source;
    target = d ∙ byte_there 1 here.target;
    transition = y ∙ byte_there 2 here.transition;
    exit = x ∙ byte_there 3 here.exit;
    tested = m _ _ (there byte2 byte2_front 4 here.tested).1;
    needed = v _ _ (there byte2 byte2_front 6 here.needed).1;
    written = w ∙ byte_there 8 here.written;
    values = z ∙ byte_there 9 here.values;
    signal = i ∙ byte_there 10 here.label.signal;
    channel = j ∙ byte_there 11 here.label.channel;
    resets = r ∙ byte_there 12 here.label.resets;
    body = let q = there (body l) (body_front l) 13 here.label.rest.1 in (q.0, ap (λ (n : ℕ). body l (onward rest n)) b ∙ q.1);
  }
