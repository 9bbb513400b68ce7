-- What the versions say of files that do not have a later one: those are as they were when there was but the first.
use mathlib.Core.Path.{◌≡◌, refl}
use mathlib.Core.Logic.{◌≢◌}
use native.Mathlib.Omega.{arith}
use Prim.Native.Nat.{ℕ, zero, suc}
use borrow.Author.Tests.{le-leb, lt-leb, ne_eqb}
use lib.Dec.{eqb}
use Rattle.reading.specs.Version.{is_version}

-- of the numbers but 2, the first version alone is one
pub only_first : (v : ℕ) → v ≢ 2 → is_version v ≡ eqb v 1
only_first zero n = refl
only_first (suc zero) n = refl
only_first (suc (suc zero)) n = absurd (n refl)
only_first (suc (suc (suc v))) n =
    rw (le-leb 1 (suc (suc (suc v))) (omega arith), lt-leb (suc (suc (suc v))) 2 (omega arith), ne_eqb (suc (suc (suc v))) 1 (λ e. absurd (omega arith)))
