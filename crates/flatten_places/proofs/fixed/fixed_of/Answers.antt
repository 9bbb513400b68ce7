use mathlib.Core.Path.{refl}
use Rattle.lists.proofs.Loops.{filled_among_none, filled_among_more}
use Rattle.chart_records.proofs.Ranges.{kinds_of}
use Rattle.chart_tree.proofs.Tables.{rooted_of}
use Rattle.flatten_places.proofs.Chartered.{parents_of, ranges_of}
use Rattle.flatten_places.proofs.Fixing.{fixed_in}
use native.Mathlib.Omega.{arith}
use Rattle.flatten_places.proofs.fixed.fixed_of.Goals as goal

pub loop-s-init : goal.loop-s-init
loop-s-init c = (filled_among_none _ _ _ _ refl, filled_among_none _ _ _ _ refl)

pub loop-s-preserved : goal.loop-s-preserved
loop-s-preserved c =
    (filled_among_more c.loop-s.invariant.0 c.loop-s-test.true (λ j. c.fixed_kind.ensures), filled_among_more c.loop-s.invariant.1 c.loop-s-test.true (λ j. refl))

pub returns : goal.returns
returns c = λ k h T.
    let r = rooted_of k _ T (parents_of h) in
    fixed_in k (kinds_of (ranges_of h)) T.few c.args.tree.kinds c.args.tree.exits T.kind T.exits c.gathered-inner.result c.bars_of-bars.result c.gathered-barred.result _ _
    (c.gathered-inner.ensures k r T.count) c.bars_of-bars.ensures (c.gathered-barred.ensures k r T.count)
    (λ s m. c.loop-s.invariant.0.filled s (omega arith) m) (λ s m. c.loop-s.invariant.1.filled s (omega arith) m)
