use lib.IntN.{pos}
use borrow.Author.Rules.{rules}
use Rattle.request_parts.specs.Parts.{value_at}
use Rattle.request_parts.proofs.Fills.{made_by}
use Rattle.request_parts.proofs.input.values.Goals as goal

pub returns : goal.returns
returns c = made_by _ (value_at c.args.s.now) _ (λ i y q k. search rules) (pos 0) _ 16 c.from_fn.ensures.items
