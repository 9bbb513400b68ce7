use native.Mathlib.Omega.{arith}
use borrow.Author.Rules.{rules}
use lib.ListN.{length-set}
use Rattle.chart_records.proofs.Ranges.{counts_range}
use Rattle.flatten_tables.specs.Bounding.{bounds_at}
use Rattle.flatten_tables.proofs.Bounding.{rows_more}
use Rattle.flatten_tables.proofs.bound.state_bounds.Goals as goal

pub returns-then-counts-gt48 : goal.returns-then-counts-gt48
returns-then-counts-gt48 c d S s h = absurd (omega (arith, S.states, (counts_range _ S.in_range_lem).states_few))

pub loop-s-init : goal.loop-s-init
loop-s-init c = (omega arith, search rules, λ d S k h l. absurd (omega arith))

pub loop-s-preserved : goal.loop-s-preserved
loop-s-preserved c = (
  omega arith,
  rw length-set c.loop-s.invariant.1,
  λ d S. rows_more c.loop-s.s (bounds_at d) _ c.loop-s.table _ (c.loop-s.invariant.2 d S) (omega arith) (λ h. c.bounds_of.ensures d S c.loop-s-test.true),
)

pub returns : goal.returns
returns c d S s h = c.loop-s.invariant.2 d S s (omega (arith, S.states, c.loop-s-test.false)) h
