use mathlib.Core.Path.{sym}
use borrow.Author.Tests.{eq-eqb, ne_eqb}
use Rattle.lists.proofs.Bools.{cond_yes, cond_no}
use Rattle.flatten_tables.specs.Numbering.{slot_at}
use Rattle.flatten_tables.proofs.number.slot.Goals as goal

pub returns-then-kind-eq-PRE : goal.returns-then-kind-eq-PRE
unfolding slot_at
returns-then-kind-eq-PRE c = sym (cond_yes _ _ (eq-eqb _ 2 c.if-kind-eq-PRE.true))

pub returns-else-kind-eq-PRE : goal.returns-else-kind-eq-PRE
unfolding slot_at
returns-else-kind-eq-PRE c = sym (cond_no _ _ (ne_eqb _ 2 c.if-kind-eq-PRE.false))
