use borrow.Author.Rules.{rules}
use Prim.Native.Nat.{◌%◌}
use Rattle.expr_cases.proofs.Mapped.{mapped_by}
use Rattle.expr_cases.proofs.case.Case.bytes.Goals as goal

pub returns : goal.returns
returns c = mapped_by (λ n. n % 256) c.args.self.now.numbers _ (λ p q x y k. search rules) (search rules) c.map.ensures.items
