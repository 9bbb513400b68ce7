-- A record read in its frame: the length, then the content by any reader that looks at it as f has it, which uses the frame up.
use mathlib.Core.Path.{◌≡◌, refl, sym, ap, ◌∙◌}
use mathlib.Core.List.{List}
use Prim.Native.Nat.{ℕ}
use lib.ListN.{length}
use Rattle.std.specs.Prelude.{Result}
use Rattle.reading.specs.Reading.{Fault, got, fault, Reader, framed, recorded, mapped}
use Rattle.reading.specs.Places.{onward, reached, wholly}
use Rattle.reading.specs.declared.field.Fault.{Fault as FaultCode}
use Rattle.reading.proofs.Reading.{mapped_fault}
use Rattle.reading.proofs.Places.{recorded_got, recorded_broken, recorded_fault}
use Rattle.reading.proofs.Skips.{mapped_recorded}

module _ {A B : Type 0} (f : A → B) (size : Reader ℕ) (r : Reader A) (b : List ℕ) where
  -- there is no frame
  pub frame_faulty : {e : Fault} → fault e ≡ framed size b → fault e ≡ mapped f (recorded size r b)
  frame_faulty h = sym (mapped_fault f (recorded_fault size r b (sym h)))

  -- of a frame with the bytes p, after which `to` follows
  module _ (s : List ℕ) {p : List ℕ} (to : ℕ) (h : got p (onward s to) ≡ framed size b) where
    -- the content is not read
    pub content_faulty : {e : Fault} → fault e ≡ mapped f (r (onward p 0)) → fault e ≡ mapped f (recorded size r b)
    content_faulty k = sym (recorded_broken size (λ t. mapped f (r t)) b s p to (sym h) (sym k)) ∙ sym (mapped_recorded f size r b)

    -- the content x is read, in so many bytes
    pub frame_read : (x : B) (used : ℕ) {q : Result ℕ FaultCode} → q ≡ wholly used (length p) to → got x (onward p used) ≡ mapped f (r (onward p 0))
        → reached s x q ≡ mapped f (recorded size r b)
    frame_read x used k l = ap (reached s x) k
        ∙ recorded_got size (λ t. mapped f (r t)) b s p to (length p) used x (sym h) refl (sym l)
        ∙ sym (mapped_recorded f size r b)
