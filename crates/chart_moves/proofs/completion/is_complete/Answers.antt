use mathlib.Core.Path.{ap, ◌∙◌}
use Prim.Native.Nat.{ℕ}
use Rattle.lists.specs.Lists.{has}
use Rattle.chart_moves.proofs.completion.is_complete.Goals as goal

pub returns : goal.returns
returns c = c.has.ensures ∙ ap (λ (x : ℕ). has x c.args.exit) c.byte_at.ensures
