-- Lists all of whose elements another has.
use mathlib.Core.Logic.{⊎_elim}
use mathlib.Core.List.Memᴰ.{cast}
use mathlib.Core.List.{List, ◌++◌, map, Memᴰ as Mem}
use mathlib.Core.List.Memᴰ.{append_cases}
use mathlib.Core.List.Memᴰ.{append_right}
use Rattle.lists.proofs.Lists.{map_at, map_by}

abbrev pub Within : {A : Type 0} → List A → List A → Type 0
Within {A} xs ys = (z : A) → Mem z xs → Mem z ys

module _ {A : Type 0} (ps qs : List A) where
  pub within_right : Within qs (ps ++ qs)
  within_right z m = append_right ps m

  pub within_both : (rs : List A) → Within ps rs → Within qs rs → Within (ps ++ qs) rs
  within_both rs f g z m = ⊎_elim (λ a. f z a) (λ b. g z b) (append_cases ps {t = qs} m)

pub within_map : {A B : Type 0} (f : A → B) (xs ys : List A) → Within xs ys → Within (map f xs) (map f ys)
within_map f xs ys g z m = let r = map_at f xs m in cast r.2 (map_by f (g r.0 r.1))
