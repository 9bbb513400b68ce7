use Rattle.flatten_alternatives.proofs.Keeping.{one_set}
use Rattle.flatten_alternatives.proofs.alternative.set_of.Goals as goal

pub returns-then-a-lt16 : goal.returns-then-a-lt16
returns-then-a-lt16 c h = one_set _ c.byte_at-a.ensures c.if-a-lt16.true
