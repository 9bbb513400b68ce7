use borrow.Author.Rules.{rules}
use Rattle.flatten_tables.proofs.Tabulates.{parted_none, parted_more, parted_all}
use Rattle.flatten_tables.proofs.tabulate.child_numbers.Goals as goal

pub loop-s-init : goal.loop-s-init
loop-s-init c = parted_none _ _ (search rules)

pub loop-s-preserved : goal.loop-s-preserved
loop-s-preserved c = parted_more _ _ _ _ c.loop-s.invariant c.loop-s-test.true c.byte_at.ensures

pub returns : goal.returns
returns c d C N = parted_all d C _ _ _ c.loop-s.invariant c.loop-s-test.false N
