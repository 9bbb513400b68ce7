use Rattle.flatten_tables.proofs.Bounding.{bounds_child, bounds_pre, bounds_post, bounds_idle}
use Rattle.flatten_tables.proofs.bound.place_bounds.Goals as goal

pub returns-then-kind-eq-CHILD : goal.returns-then-kind-eq-CHILD
returns-then-kind-eq-CHILD c d p C B K m e f g = bounds_child d p m e f c.if-kind-eq-CHILD.true (c.row_at.ensures d _ B)

pub returns-then-kind-eq-PRE : goal.returns-then-kind-eq-PRE
returns-then-kind-eq-PRE c d p C B K m e f g = bounds_pre d p e f g c.if-kind-eq-PRE.true (c.pre_bounds.ensures d B)

pub returns-then-kind-eq-POST : goal.returns-then-kind-eq-POST
returns-then-kind-eq-POST c d p C B K m e f g = bounds_post d p m e f c.if-kind-eq-POST.true (c.arrival_bounds.ensures d C B K)

pub returns : goal.returns
returns c d p C B K m e f g = bounds_idle d p e c.if-kind-eq-CHILD.false c.if-kind-eq-PRE.false c.if-kind-eq-POST.false
