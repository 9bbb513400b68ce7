use mathlib.Core.Path.{sym, ◌∙◌}
use Rattle.flatten_tables.proofs.Slots.{found_post, found_arrival}
use Rattle.flatten_tables.proofs.number.departure_number.Goals as goal

pub returns-then-exit-eq255 : goal.returns-then-exit-eq255
returns-then-exit-eq255 c = λ k h N l d x e. c.arrival_number.ensures k _ h N l d e ∙ found_arrival k _ N h _ l (sym x ∙ c.if-exit-eq255.true)

pub returns : goal.returns
returns c = λ k h N l d x e. c.number_at.ensures ∙ found_post k _ N h _ l (λ z. c.if-exit-eq255.false (x ∙ z))
