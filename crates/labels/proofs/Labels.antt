-- Laws of rule 13's test, of the body of a label, and of labels.
use mathlib.Core.Path.{◌≡◌, refl, sym, ap, ap₂, ◌∙◌, subst}
use mathlib.Core.Bool.{Bool, true, not, ◌&&◌, ◌||◌}
use mathlib.Core.List.{List, [], ◌∷◌, ◌++◌}
use Prim.Native.Nat.{ℕ, ◌+◌}
use native.Mathlib.Omega.{arith}
use lib.Dec.{eqb}
use lib.ListN.{length, get_or}
use borrow.Author.Tests.{eqb-true, eq-eqb}
use Rattle.lists.specs.Lists.{distinct}
use Rattle.reading.specs.Reading.{got, byte, many}
use Rattle.reading.specs.Places.{onward}
use Rattle.labels.specs.Guard.{guard}
use Rattle.updates.specs.Update.{Update, update, targets}
use Rattle.labels.specs.declared.label.Limits.{Limits}
use Rattle.labels.specs.Label.{Label, Body, body, label, body_once, assigns_once, sends, receives}
use Rattle.lists.proofs.Bools.{parts, or_else, not_no, both}
use Rattle.reading.proofs.Places.{bind_got}
use Rattle.reading.proofs.InFront.{InFront, yield_front, bind_front, many_front, byte_front}
use Rattle.reading.proofs.Sizes.{byte_here}
use Rattle.labels.proofs.Guards.{guard_front}
use Rattle.updates.proofs.Updates.{update_front}
use Rattle.reading.proofs.Reading.{bind_at, next_at, yield_at, yield_rest}

-- rule 13 of a body, by what was counted and seen of its assignments
pub body_once_by :
    (signal : ℕ) (b : Body) {u : ℕ} {o r : Bool} → r ≡ ((not (eqb signal 2) || eqb u 0) && o) → length b.updates ≡ u →
    distinct (targets b.updates) ≡ o → r ≡ body_once signal b
unfolding body_once
body_once_by signal b h e d = h ∙ ap₂ (λ (n : ℕ) (x : Bool). (not (eqb signal 2) || eqb n 0) && x) (sym e) (sym d)

-- the parts of a body that was read
pub body_parts : (l : Limits) (s : List ℕ) {b : Body} {t : List ℕ} → body l s ≡ got b t → {g a : ℕ} {u v : List ℕ} → byte s ≡ got g u → byte u ≡ got a v
    → (w : List ℕ) × (many g (guard l.clocks l.variables) v ≡ got b.guards w) × (many a (update l.version l.variables) w ≡ got b.updates t)
unfolding body
body_parts l s {b} {t} h {g} {a} {u} {v} p q =
    let k = sym (bind_got _ _ s p ∙ bind_got _ _ u q) ∙ h in
    let x = bind_at _ _ v k in
    let y = bind_at _ _ x.1 x.3 in
    let e = yield_at y.1 y.3 in
    (x.1, x.2 ∙ ap (λ (k : Body). got k.guards x.1) e, y.2 ∙ ap₂ (λ (k : Body) (r : List ℕ). got k.updates r) e (yield_rest _ y.1 y.3))

-- a body is read in front, whatever follows it
pub body_front : (l : Limits) → InFront (body l)
unfolding body
body_front l =
    bind_front _ _ byte_front λ g.
    bind_front _ _ byte_front λ a.
    bind_front _ _ (many_front g _ (guard_front l.clocks l.variables))
    λ gs. bind_front _ _ (many_front a _ (update_front l.version l.variables)) λ us. yield_front _

-- a label that was read has the body that its bytes give
pub label_body : (l : Limits) (channels : ℕ) (s : List ℕ) {b : Label} {t : List ℕ} → label l channels s ≡ got b t → body l b.bytes ≡ got b.body t
unfolding label
label_body l channels s {b} {t} h =
    let x = bind_at _ _ s h in
    let y = bind_at _ _ x.1 x.3 in
    let z = bind_at _ _ y.1 y.3 in
    let w = next_at (body l z.1) _ z.3 in
    let e = yield_at w.1 w.3 in
    sym (ap (λ (k : Label). body l k.bytes) e) ∙ w.2 ∙ ap₂ got (ap (λ (k : Label). k.body) e) (yield_rest _ w.1 w.3)

-- 13: a receiver assigns nothing
pub receiver_assigns_nothing : (l : Label) → assigns_once l ≡ true → l.signal ≡ 2 → l.body.updates ≡ []
unfolding assigns_once
receiver_assigns_nothing l h e = none l.body.updates (eqb-true (length l.body.updates) 0 (or_else (not (eqb l.signal 2)) _ (search parts) (not_no (eq-eqb l.signal 2 e))))
  where
    none : (us : List Update) → length us ≡ 0 → us ≡ []
    none [] z = refl
    none (u ∷ us) z = absurd (omega arith)

-- a label sends, or receives, on a channel
abbrev pub Sends : Label → ℕ → Type 0
Sends l ch = (l.signal ≡ 1) × (l.channel ≡ ch)

abbrev pub Receives : Label → ℕ → Type 0
Receives l ch = (l.signal ≡ 2) × (l.channel ≡ ch)

pub sends_at : (l : Label) (ch : ℕ) → sends l ch ≡ true → Sends l ch
unfolding sends
sends_at l ch h = (eqb-true l.signal 1 (search parts), eqb-true l.channel ch (search parts))

pub sends_by : (l : Label) (ch : ℕ) → Sends l ch → sends l ch ≡ true
unfolding sends
sends_by l ch h = both (eq-eqb l.signal 1 h.0) (eq-eqb l.channel ch h.1)

pub receives_at : (l : Label) (ch : ℕ) → receives l ch ≡ true → Receives l ch
unfolding receives
receives_at l ch h = (eqb-true l.signal 2 (search parts), eqb-true l.channel ch (search parts))

pub receives_by : (l : Label) (ch : ℕ) → Receives l ch → receives l ch ≡ true
unfolding receives
receives_by l ch h = both (eq-eqb l.signal 2 h.0) (eq-eqb l.channel ch h.1)

-- the fields of a label that stands k bytes after a place
pub record LabelParts (l : Limits) (s : List ℕ) (at k : ℕ) (x : Label) : Type 0 where
  pub signal : get_or s (at + k) 0 ≡ x.signal
  pub channel : get_or s (at + (k + 1)) 0 ≡ x.channel
  pub resets : get_or s (at + (k + 1 + 1)) 0 ≡ x.resets
  pub content : (t : List ℕ) × (body l (onward s (at + (k + 1 + 1 + 1))) ≡ got x.body t)

-- of one that is read from p, which begins there
pub label_parts : (l : Limits) (channels : ℕ) (s p v : List ℕ) (at k : ℕ) {x : Label} {w : List ℕ} → p ++ v ≡ onward s (at + k) → label l channels p ≡ got x w → LabelParts l s at k x
unfolding label
label_parts l channels s p v at k e h =
    let a = byte_here s v at k _ _ p e h in
    let b = byte_here s v at (k + 1) _ _ a.1 a.3 a.4 in
    let r = byte_here s v at (k + 1 + 1) _ _ b.1 b.3 b.4 in
    let y = next_at (body l r.1) _ r.4 in
    subst (LabelParts l s at k) (yield_at y.1 y.3) (record {
      signal = a.2;
      channel = b.2;
      resets = r.2;
      content = (y.1 ++ v, ap (body l) (sym r.3) ∙ (body_front l).alike r.1 v y.2);
    })
