use mathlib.Core.Path.{sym, ◌∙◌}
use Rattle.answers.proofs.Checksums.{from_more, from_end}
use Rattle.answers.proofs.checksum.checksum.Goals as goal

pub loop-b-preserved : goal.loop-b-preserved
loop-b-preserved c = c.loop-b.invariant ∙ from_more _ _ c.args.s.now c.loop-b-test.true c.mixed-h.ensures

pub returns : goal.returns
returns c = sym (c.loop-b.invariant ∙ from_end _ _ c.args.s.now c.loop-b-test.false)
