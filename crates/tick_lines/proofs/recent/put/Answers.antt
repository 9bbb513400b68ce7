use Rattle.tick_lines.proofs.Rings.{ring_more}
use Rattle.tick_lines.proofs.recent.put.Goals as goal

pub returns-clause-ticks : goal.returns-clause-ticks
returns-clause-ticks c = λ ts R. rw (c.next_place.ensures, c.min.ensures) (ring_more _ _ _ ts _ R)
