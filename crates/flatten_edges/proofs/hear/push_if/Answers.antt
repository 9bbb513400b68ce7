use Rattle.flatten_edges.proofs.Gathers.{adds_none}
use Rattle.flatten_edges.proofs.hear.push_if.Goals as goal

pub returns-then-heard : goal.returns-then-heard
returns-then-heard c = λ d p q j. rw c.if-heard.true (c.push.ensures _ (c.own_head.ensures d p q j))

pub returns : goal.returns
returns c = λ d p q j. rw c.if-heard.false (adds_none _ _)
