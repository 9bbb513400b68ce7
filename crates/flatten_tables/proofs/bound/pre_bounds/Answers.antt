use native.Mathlib.Omega.{arith}
use Rattle.chart_records.specs.Tree.{entered}
use Rattle.flatten_tables.proofs.Bounding.{joins_none, joins_in, joins_out, joins_all}
use Rattle.flatten_tables.proofs.bound.pre_bounds.Goals as goal

pub loop-k-init : goal.loop-k-init
loop-k-init c = λ d f few R S. joins_none d f few

pub loop-k-preserved-then-set-k : goal.loop-k-preserved-then-set-k
loop-k-preserved-then-set-k c =
    λ d f few R S. joins_in d f _ S _ c.loop-k-test.true c.loop-k.auto.k c.args.rows R
    c.if-set-k.true (c.loop-k.invariant d f few R S) c.join-next.ensures

pub loop-k-preserved : goal.loop-k-preserved
loop-k-preserved c = λ d f few R S. joins_out d f _ S _ c.loop-k-test.true c.loop-k.auto.k c.if-set-k.false (c.loop-k.invariant d f few R S)

pub returns : goal.returns
returns c d B = joins_all d _ _ _ (omega arith) (c.loop-k.invariant d (entered d _ _) B.tabled.few B.rows (c.entered-set.ensures d B.tabled B.parents B.entry_marks_lem))
