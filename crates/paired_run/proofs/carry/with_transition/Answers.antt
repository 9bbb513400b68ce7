use Rattle.paired_run.proofs.Carrying.{kept_none_more, kept_one_more}
use Rattle.paired_run.proofs.carry.with_transition.Goals as goal

pub returns-then-t-eq255 : goal.returns-then-t-eq255
returns-then-t-eq255 c = λ xs k. kept_none_more xs c.if-t-eq255.true k

pub returns : goal.returns
returns c = λ xs k. kept_one_more xs c.if-t-eq255.false (c.with_number.ensures xs k)
