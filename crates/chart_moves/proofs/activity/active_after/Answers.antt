use lib.ListN.{length}
use Rattle.chart_moves.proofs.Destinations.{some_entered, count_is}
use Rattle.chart_moves.proofs.Activities.{after_is}
use Rattle.chart_tree.specs.Table.{adding}
use native.Mathlib.Omega.{arith}
use mathlib.Core.Path.{◌≡◌, ap, ◌∙◌}
use borrow.Author.Rules.{rules}
use Rattle.chart_moves.proofs.activity.active_after.Goals as goal

pub slice_bounds-left_below-end : goal.slice_bounds-left_below-end
slice_bounds-left_below-end c = let e : length c.args.moves.sources ≡ 16 = search rules in omega (arith, e, c.min-count.ensures)

pub returns : goal.returns
returns c = λ d σ ts T r5 r8 M a.
    c.enter_all.ensures d ts T r5 r8 M ∙ ap (adding 48 d (some_entered d ts)) (c.left_below-left.ensures d T r5) ∙ after_is 48 d ts _ M σ _ a (count_is 48 d ts _ M c.min-count.ensures)
