use mathlib.Core.Path.{sym, ◌∙◌}
use Rattle.flatten_tables.proofs.Slots.{found_start, found_idle_start, start_set_at}
use Rattle.flatten_tables.proofs.number.initial_number.Goals as goal

pub returns-then-is_in : goal.returns-then-is_in
returns-then-is_in c = λ k h T N s l e.
    c.number_at.ensures ∙ found_start k _ N h _ (record { known = l; is_sequential = s }) _ (c.marked_child-s.ensures k T) (sym (start_set_at k h _ l _ e) ∙ sym c.is_in.ensures ∙ c.if-is_in.true)

pub returns : goal.returns
returns c = λ k h T N s l e.
    c.number_at-2.ensures ∙ found_idle_start k _ N h _ (record { known = l; is_sequential = s }) (sym (start_set_at k h _ l _ e) ∙ sym c.is_in.ensures ∙ c.if-is_in.false)
