use mathlib.Core.Path.{sym, ◌∙◌}
use native.Mathlib.Omega.{arith}
use borrow.Author.Rules.{rules}
use lib.ListN.{length-set}
use Rattle.chart_records.proofs.Tree.{parents_at}
use Rattle.chart_tree.proofs.Tables.{rooted_of}
use Rattle.flatten_tables.proofs.Sensing.{own_none, own_all, sensed, unsensed}
use Rattle.flatten_tables.proofs.bound.own_bounds.Goals as goal

pub returns-then-tree-gt48 : goal.returns-then-tree-gt48
returns-then-tree-gt48 c = λ d S T r F. absurd (omega (arith, c.if-tree-gt48.true, T.count, T.few))

pub loop-s-init : goal.loop-s-init
loop-s-init c = (search rules, λ d R K F N B. own_none d c.state_bounds-table.result _ N B)

pub loop-s-preserved-then-is_sensor : goal.loop-s-preserved-then-is_sensor
loop-s-preserved-then-is_sensor c = (
  rw length-set c.loop-s.invariant.0,
  λ d R K F N B. sensed d c.args.tree.parents c.args.tree.kinds c.args.fixed.kinds R K F _ _ N c.loop-s-test.true (omega (arith, c.loop-s.auto.s)) c.loop-s.table (c.loop-s.invariant.1 d R K F N B) c.loop-s.invariant.0 (sym c.is_sensor.ensures ∙ c.if-is_sensor.true) c.join.ensures,
)

pub loop-s-preserved : goal.loop-s-preserved
loop-s-preserved c = (
  c.loop-s.invariant.0,
  λ d R K F N B. unsensed d c.args.tree.parents c.args.tree.kinds c.args.fixed.kinds R K F _ _ N c.loop-s-test.true (omega (arith, c.loop-s.auto.s)) c.loop-s.table (c.loop-s.invariant.1 d R K F N B) c.loop-s.invariant.0 (sym c.is_sensor.ensures ∙ c.if-is_sensor.false),
)

pub returns : goal.returns
returns c = λ d S T r F.
    let R = rooted_of d _ T r in
    own_all d (parents_at d r) c.loop-s.table _ c.loop-s-test.false (c.loop-s.invariant.1 d R T.kind F.kind T.count (c.state_bounds-table.ensures d S))
