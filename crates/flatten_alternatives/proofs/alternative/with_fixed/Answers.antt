use Rattle.flatten_alternatives.proofs.Keeping.{kept_if, kept_unless}
use Rattle.flatten_alternatives.proofs.alternative.with_fixed.Goals as goal

pub returns-then-has : goal.returns-then-has
returns-then-has c xs ys k l a =
    kept_if _ _ c.args.own xs ys c.has.ensures c.byte_at-marks.ensures c.if-has.true (c.with_each.ensures xs ys k l a)

pub returns-else-has : goal.returns-else-has
returns-else-has c xs ys k l a = kept_unless _ _ c.args.own xs ys c.has.ensures c.byte_at-marks.ensures c.if-has.false l
