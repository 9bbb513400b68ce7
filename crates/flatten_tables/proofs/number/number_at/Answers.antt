use mathlib.Core.Path.{ap, ◌∙◌}
use Prim.Native.Nat.{ℕ}
use lib.ListN.{get_or}
use Rattle.flatten_tables.proofs.number.number_at.Goals as goal

pub returns : goal.returns
returns c = c.byte_at.ensures ∙ ap (λ (s : ℕ). get_or c.args.numbers.now s 0) c.slot.ensures
