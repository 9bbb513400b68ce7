use Rattle.flatten_edges.proofs.Joining.{joins_by}
use Rattle.flatten_edges.proofs.flag.joining.Goals as goal

pub returns : goal.returns
returns c = λ chart p q F m n s t.
    joins_by chart p q _ _ _ _ F m n s t
    (cc (c.byte_at-from.ensures, c.byte_at-to.ensures))
    (cc (c.byte_at-start.ensures, c.byte_at-first.ensures, c.byte_at-home.ensures, c.byte_at-to.ensures))
