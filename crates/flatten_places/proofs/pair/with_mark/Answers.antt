use mathlib.Core.Path.{sym, ap, ◌∙◌}
use mathlib.Core.Bool.{Bool, ◌||◌, or-false}
use borrow.Author.Tests.{ne_eqb}
use Rattle.lists.specs.Lists.{has}
use Rattle.flatten_places.proofs.Naming.{mark_put}
use native.Mathlib.Omega.{arith}
use Rattle.flatten_places.proofs.pair.with_mark.Goals as goal

pub returns-then-m-ge16 : goal.returns-then-m-ge16
returns-then-m-ge16 c = λ i h. sym (ap (λ (b : Bool). has c.args.marks i || b) (ne_eqb c.args.m i (λ e. omega (arith, c.if-m-ge16.true))) ∙ or-false (has c.args.marks i))

pub returns : goal.returns
returns c = λ i h. mark_put _ _ c.if-m-ge16.false i
