use mathlib.Core.Bool.{false}
use borrow.Author.Rules.{rules}
use Rattle.request_parts.specs.Parts.{mark_at}
use Rattle.request_parts.proofs.Fills.{made_by}
use Rattle.request_parts.proofs.input.marks.Goals as goal

pub returns : goal.returns
returns c = made_by _ (mark_at c.args.s.now) _ (λ i y q k. search rules) false _ 48 c.from_fn.ensures.items
