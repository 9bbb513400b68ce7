use Prim.Native.Nat.{◌*◌}
use borrow.Author.Rules.{rules}
use Rattle.request_parts.specs.Parts.{word_at}
use Rattle.request_parts.proofs.Fills.{made_by}
use Rattle.request_parts.proofs.input.words.Goals as goal

pub returns : goal.returns
returns c = made_by _ (λ i. word_at c.args.s.now (4 * i)) _ (λ i y q k. search rules) 0 _ 8 c.from_fn.ensures.items
