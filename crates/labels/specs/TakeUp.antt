-- Which labels make an advance, and that nothing else in them writes its variables.
use Rattle.std.specs.Prelude.{◌≡◌, Bool, true}
use mathlib.Core.List.{List, Memᴰ as Mem}
use Rattle.lists.specs.Lists.{any}
use Rattle.updates.specs.Update.{Update, advance}
use Rattle.updates.specs.TakeUp.{writes_either, is_advance}
use Rattle.updates.specs.declared.update.Advance.{Advance}
use Rattle.labels.specs.Label.{Label}

-- whatever in some labels writes either variable of the advance is this very advance
abbrev pub OnlyBy : Advance → List Label → Type 0
OnlyBy a ls = (l : Label) → Mem l ls → (u : Update) → Mem u l.body.updates → writes_either a u ≡ true → u ≡ advance a

-- a label makes the advance
unfoldable pub makes : Advance → Label → Bool
makes a l = any (is_advance a) l.body.updates
