use Rattle.console.proofs.Decimals.{Digits}
use Rattle.console.proofs.script.number.Given as goal

abbrev pub invariant-loop-b : goal.invariant-loop-b
invariant-loop-b l = Digits l.word l.value l.b-index
