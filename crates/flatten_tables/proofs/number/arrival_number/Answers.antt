use mathlib.Core.Path.{sym, ◌∙◌}
use Rattle.flatten_tables.proofs.Slots.{found_child, found_pre}
use Rattle.flatten_tables.proofs.number.arrival_number.Goals as goal

pub returns-then-entry-eq255 : goal.returns-then-entry-eq255
returns-then-entry-eq255 c = λ k t h N l d e. c.number_at.ensures ∙ found_child k _ N h t l _ d (sym e ∙ c.if-entry-eq255.true)

pub returns : goal.returns
returns c = λ k t h N l d e. c.number_at-2.ensures ∙ found_pre k _ N h t l _ _ d e c.if-entry-eq255.false
