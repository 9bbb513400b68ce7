use borrow.Author.Rules.{rules}
use Rattle.request_parts.specs.Parts.{byte_at}
use Rattle.request_parts.proofs.Fills.{made_by}
use Rattle.request_parts.proofs.input.bytes.Goals as goal

pub returns : goal.returns
returns c = made_by _ (byte_at c.args.s.now) _ (λ i y q k. search rules) 0 _ 16 c.from_fn.ensures.items
