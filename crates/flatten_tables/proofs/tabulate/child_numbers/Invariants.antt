use Rattle.flatten_tables.proofs.Tabulates.{Parted}
use Rattle.flatten_tables.proofs.tabulate.child_numbers.Given as goal

abbrev pub invariant-loop-s : goal.invariant-loop-s
invariant-loop-s l = Parted l.numbers l.children l.s
