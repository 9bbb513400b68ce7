use Rattle.tick_lines.proofs.Inputs.{feed_said, other_said}
use Rattle.tick_lines.proofs.input.take_byte.Goals as goal

pub returns-then-b-eq10 : goal.returns-then-b-eq10
returns-then-b-eq10 c = λ ts H. rw (feed_said ts _ _ c.if-b-eq10.true) (c.end_line.ensures ts H)

pub returns : goal.returns
returns c = λ ts H. rw (other_said ts _ _ c.if-b-eq10.false) (H, c.with_byte.ensures)
