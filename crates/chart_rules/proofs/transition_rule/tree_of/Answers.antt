use mathlib.Core.Path.{sym}
use native.Mathlib.Omega.{arith}
use Rattle.chart_records.proofs.Ranges.{counts_range}
use Rattle.chart_tree.proofs.Tables.{tabled}
use Rattle.chart_rules.proofs.transition_rule.tree_of.Goals as goal

pub loop-s-init : goal.loop-s-init
loop-s-init c = λ k S. c.no_states-tree.ensures k (sym S.states) (counts_range _ S.in_range_lem).states_few

pub loop-s-preserved : goal.loop-s-preserved
loop-s-preserved c =
    λ k S. c.put_state.ensures k (c.loop-s.invariant k S) (omega (arith, S.states, c.loop-s-test.true)) (c.parent_of-parent.ensures k S) (c.kind_of-kind.ensures k S)
    (c.entries_of-entries.ensures k S) (c.exits_of-exits.ensures k S)

pub returns : goal.returns
returns c = λ k S. tabled k _ _ (c.loop-s.invariant k S) (omega (arith, S.states, c.loop-s-test.false))
