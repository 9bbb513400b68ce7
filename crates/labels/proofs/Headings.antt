-- A law of what the code's reader of labels answers.
use mathlib.Core.Path.{◌≡◌}
use mathlib.Core.List.{List}
use Prim.Native.Nat.{ℕ}
use Rattle.std.specs.Prelude.{Result}
use Rattle.std.specs.Result.{IsErrAnd}
use Rattle.reading.specs.Places.{fault_of}
use Rattle.reading.specs.Reading.{Read, fault}
use Rattle.reading.specs.declared.field.Fault.{Fault}
use Rattle.reading.proofs.Places.{handed_on}
use Rattle.labels.specs.Label.{Heading}
use Rattle.labels.specs.Headings.{label_of}
use Rattle.labels.specs.declared.label.Label as code

-- it is at fault where `?` met the fault, if the definition is
pub label_err : (s : List ℕ) (r : Result (code.Label × ℕ) Fault) (f : Fault) {d : Read Heading} → IsErrAnd r (λ x. x ≡ f) → d ≡ fault (fault_of f) → label_of s r ≡ d
label_err s r f h e = rw (handed_on r h, e)
