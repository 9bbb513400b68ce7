use native.Mathlib.Omega.{arith}
use borrow.Author.Rules.{rules}
use lib.ListN.{length-set}
use Rattle.flatten_tables.specs.Bounding.{above_of}
use Rattle.flatten_tables.proofs.Bounding.{rows_more, rows_skip, above_first, above_next, parent_lt}
use Rattle.flatten_tables.proofs.bound.bounds_above.Goals as goal
use Rattle.flatten_tables.proofs.bound.bounds_above.Goals.{then-p-s, else-p-s}

pub loop-s-init : goal.loop-s-init
loop-s-init c = (omega arith, search rules, λ d R K f k h l. above_first d R k h l)

pub loop-s-preserved : goal.loop-s-preserved
loop-s-preserved c =
    elim c.if-p-s.branch [
      | then-p-s w ↦ (
        omega arith,
        rw (w.table-is, length-set) c.loop-s.invariant.1,
        λ d R K f.
            rw w.table-is (rows_more c.loop-s.s (above_of d) _ c.loop-s.table _ (c.loop-s.invariant.2 d R K f) (omega arith)
            (λ h. above_next d R _ h c.loop-s.invariant.0 c.byte_at-p.ensures w.if-p-s.true c.args.rows c.loop-s.table f
            (c.loop-s.invariant.2 d R K f) (w.carried.ensures d R K))),
      )
      | else-p-s w ↦ (
        omega arith,
        rw w.table-is c.loop-s.invariant.1,
        λ d R K f. rw w.table-is (rows_skip c.loop-s.s (above_of d) _ c.loop-s.table (c.loop-s.invariant.2 d R K f) (λ h. omega (arith, w.if-p-s.false, c.byte_at-p.ensures, parent_lt d R c.loop-s.s h (λ z. omega arith)))),
      )
    ]

pub returns : goal.returns
returns c d R K f s h = c.loop-s.invariant.2 d R K f s (omega (arith, R.few, c.loop-s-test.false)) h
