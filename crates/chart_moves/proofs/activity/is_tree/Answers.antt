use Rattle.chart_moves.proofs.Activities.{shown_of, tree_rootless, tree_unplaced, tree_rest}
use Rattle.chart_moves.proofs.activity.is_tree.Goals as goal

pub returns-then-not-active : goal.returns-then-not-active
returns-then-not-active c = λ d σ T r a. tree_rootless d σ _ _ a T.count (c.if-not-active.true)

pub returns-then-not-all_placed : goal.returns-then-not-all_placed
returns-then-not-all_placed c = λ d σ T r a. tree_unplaced d σ _ _ a T.count (c.if-not-active.false) (c.all_placed.ensures d σ (shown_of d σ _ _ T r a) T.count) (c.if-not-all_placed.true)

pub returns : goal.returns
returns c =
    λ d σ T r a. tree_rest d σ _ _ a T.count (c.if-not-active.false) (c.all_placed.ensures d σ (shown_of d σ _ _ T r a) T.count)
    (c.if-not-all_placed.false) c.none_from.ensures
