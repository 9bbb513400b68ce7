-- What holds of a label that was read: its fields are in range, and its bytes are read back.
use mathlib.Core.Path.{◌≡◌, ap, ◌∙◌, subst, sym}
use mathlib.Core.Bool.{Bool, true, false, cond}
use mathlib.Core.List.{List, [], ◌∷◌, Memᴰ as Mem}
use Prim.Native.Nat.{ℕ, ◌+◌, ◌^◌, ◌≤◌, ◌<◌}
use native.Mathlib.Omega.{arith}
use borrow.Author.Tests.{lt-ltb, ltb-true}
use lib.Dec.{ltb, eqb}
use lib.ListN.{length}
use Rattle.reading.specs.Reading.{got, yield, next, byte, many}
use Rattle.labels.specs.Guard.{guard}
use Rattle.updates.specs.Update.{Update, update, form_of, writes}
use Rattle.labels.specs.declared.label.Limits.{Limits}
use Rattle.labels.specs.Label.{Label, body, channel_fits, label, Body}
use Rattle.reading.proofs.Places.{bind_got}
use Rattle.reading.proofs.Reading.{next_at, bind_at, yield_at, yield_rest, such_at, many_at}
use Rattle.reading.proofs.Lengths.{byte_consumes}
use Rattle.reading.proofs.Printed.{such_front}
use Rattle.updates.proofs.Updates.{update_known}

-- the fields of a label, and its body, which is all of its bytes
pub record LabelRange (l : Limits) (channels : ℕ) (x : Label) : Type 0 where
  pub signal_known : x.signal < 3
  pub channel_known : channel_fits channels x.signal x.channel ≡ true
  pub resets_known : x.resets < 2 ^ l.clocks
  pub body_read : body l x.bytes ≡ got x.body []

pub label_printed : (l : Limits) (channels : ℕ) (x : Label) → LabelRange l channels x → label l channels (x.signal ∷ x.channel ∷ x.resets ∷ x.bytes) ≡ got x []
unfolding label yield next
label_printed l channels x p =
    bind_got _ _ _ (such_front _ x.signal _ (lt-ltb _ _ p.signal_known))
    ∙ (bind_got _ _ _ (such_front _ x.channel _ p.channel_known)
    ∙ (bind_got _ _ _ (such_front _ x.resets _ (lt-ltb _ _ p.resets_known))
    ∙ rw p.body_read))

pub label_at : (l : Limits) (channels : ℕ) (s : List ℕ) {x : Label} → label l channels s ≡ got x [] → LabelRange l channels x × (length x.bytes + 3 ≡ length s)
unfolding label
label_at l channels s {x} h =
    let a = bind_at _ _ s h in
    let c = bind_at _ _ a.1 a.3 in
    let r = bind_at _ _ c.1 c.3 in
    let b = next_at (body l r.1) _ r.3 in
    let sa = such_at byte _ s a.2 in
    let sc = such_at byte _ a.1 c.2 in
    let sr = such_at byte _ c.1 r.2 in
    subst (λ (x : Label). LabelRange l channels x × (length x.bytes + 3 ≡ length s)) (yield_at b.1 b.3) (
      record {
        signal_known = ltb-true a.0 3 sa.0;
        channel_known = sc.0;
        resets_known = ltb-true r.0 (2 ^ l.clocks) sr.0;
        body_read = b.2 ∙ ap (λ t. got b.0 t) (yield_rest _ b.1 b.3);
      },
      omega (arith, byte_consumes s a.0 a.1 sa.1, byte_consumes a.1 c.0 c.1 sc.1, byte_consumes c.1 r.0 r.1 sr.1),
    )

-- more channels do no harm
pub channel_fits_more : (n m signal channel : ℕ) → n ≤ m → channel_fits n signal channel ≡ true → channel_fits m signal channel ≡ true
unfolding channel_fits
channel_fits_more n m signal channel h e = go (eqb signal 0) e
  where
    go : (b : Bool) → cond b (eqb channel 255) (ltb channel n) ≡ true → cond b (eqb channel 255) (ltb channel m) ≡ true
    go true k = k
    go false k = lt-ltb channel m (omega (arith, ltb-true channel n k))

pub label_range_more : (l : Limits) (n m : ℕ) (x : Label) → n ≤ m → LabelRange l n x → LabelRange l m x
label_range_more l n m x h r =
    record {
      signal_known = r.signal_known;
      channel_known = channel_fits_more n m x.signal x.channel h r.channel_known;
      resets_known = r.resets_known;
      body_read = r.body_read;
    }

-- a label that was read writes declared variables
pub updates_known : (l : Limits) (channels : ℕ) (x : Label) → LabelRange l channels x → (u : Update) → Mem u x.body.updates → (v : ℕ) → Mem v (writes (form_of u)) → v < l.variables
unfolding body
updates_known l channels x h u m =
    let g = bind_at byte _ x.bytes h.body_read in
    let a = bind_at byte _ g.1 g.3 in
    let gs = bind_at (many g.0 (guard l.clocks l.variables)) _ a.1 a.3 in
    let us = bind_at (many a.0 (update l.version l.variables)) _ gs.1 gs.3 in
    let r = (many_at a.0 (update l.version l.variables) gs.1 us.2).1 u (subst (λ (b : Body). Mem u b.updates) (sym (yield_at us.1 us.3)) m) in
    update_known l.version l.variables r.0 r.2
