use borrow.Author.Tests.{ne_eqb}
use Rattle.request_parts.specs.Calls.{body}
use Rattle.request_parts.proofs.calls.read_body.Goals as goal

pub returns-then-kind-eq0-clause-means : goal.returns-then-kind-eq0-clause-means
unfolding body
returns-then-kind-eq0-clause-means c = rw c.if-kind-eq0.true c.read_step.ensures.means

pub returns-else-kind-eq0-clause-means : goal.returns-else-kind-eq0-clause-means
unfolding body
returns-else-kind-eq0-clause-means c = rw (ne_eqb _ 0 c.if-kind-eq0.false) c.read_wait.ensures.means
