use Rattle.flatten_edges.proofs.Joining.{own_head_by}
use Rattle.flatten_edges.proofs.flag.own_head.Goals as goal

-- `flatten_edges::flag::own_head` meets its contract. Assumes nothing.
pub returns : goal.returns
returns c = λ chart p q j. own_head_by chart p q c.args.e _ _ j
