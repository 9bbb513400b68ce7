-- A value where a test holds, and none where it does not.
use mathlib.Core.Path.{◌≡◌, refl}
use mathlib.Core.Bool.{Bool, true, false, cond}
use Rattle.std.specs.Prelude.{Option, Some, None}

pub some_where : {A : Type 0} (b : Bool) {x y : A} → Some x ≡ cond b (Some y) None → (b ≡ true) × (x ≡ y)
some_where true e = (refl, cc)
some_where false e = cc

pub none_where : {A : Type 0} (b : Bool) (y : A) → None ≡ cond b (Some y) None → b ≡ false
none_where true y e = cc
none_where false y e = refl
