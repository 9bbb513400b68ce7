use Rattle.flatten_edges.proofs.Joining.{bearing_head_by}
use Rattle.flatten_edges.proofs.flag.bearing_head.Goals as goal

-- `flatten_edges::flag::bearing_head` meets its contract. Assumes nothing.
pub returns : goal.returns
returns c = λ chart p q l j s n. bearing_head_by chart p q l c.args.e c.args.s _ _ _ _ j s n
