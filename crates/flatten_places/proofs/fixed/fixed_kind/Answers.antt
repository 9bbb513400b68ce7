use Rattle.flatten_places.proofs.Fixing.{kind_kept, kind_left}
use Rattle.flatten_places.proofs.fixed.fixed_kind.Goals as goal

pub returns-then-inner-eq1 : goal.returns-then-inner-eq1
returns-then-inner-eq1 c = kind_kept _ _ c.if-inner-eq1.true

pub returns-else-inner-eq1 : goal.returns-else-inner-eq1
returns-else-inner-eq1 c = kind_left _ _ c.if-inner-eq1.false
