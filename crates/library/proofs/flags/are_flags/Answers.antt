use Rattle.library.specs.Flags.{are_flags}
use Rattle.library.proofs.Lending.{states, tested_more, tested_all}
use Rattle.library.proofs.flags.are_flags.Goals as goal

pub loop-i-preserved : goal.loop-i-preserved
loop-i-preserved c = tested_more _ states _ _ _ c.loop-i.invariant 0 c.loop-i-test.true

pub returns : goal.returns
unfolding are_flags
returns c = tested_all _ states _ _ _ c.loop-i.invariant c.loop-i-test.false
