use mathlib.Core.Path.{sym, ap, ◌∙◌}
use Prim.Native.Nat.{ℕ}
use Rattle.lists.specs.Lists.{has}
use Rattle.chart_tree.proofs.entry.is_marked_child.Goals as goal

-- src/table.rt:74:5
-- src/table.rt:74:36
-- src/table.rt:74:36
-- src/table.rt:74:32
-- src/table.rt:71:1
pub returns-then-is_child : goal.returns-then-is_child
returns-then-is_child c = rw (sym c.is_child.ensures, c.if-is_child.true) (c.has.ensures ∙ ap (λ (x : ℕ). has x c.args.entry) c.marks_at.ensures)

-- src/table.rt:71:1
pub returns-else-is_child : goal.returns-else-is_child
returns-else-is_child c = rw (c.if-is_child.false, sym (sym c.if-is_child.false ∙ c.is_child.ensures))
