use Rattle.console.proofs.Words.{word_found, word_fits, word_none}
use Rattle.console.proofs.script.next_word.Goals as goal

pub returns-then-from-to : goal.returns-then-from-to
returns-then-from-to c = record { means = word_found _ _ c.run_end-from.ensures c.run_end-to.ensures c.if-from-to.true; within = word_fits _ _ c.run_end-from.ensures c.run_end-to.ensures c.if-from-to.true }

pub returns-else-from-to : goal.returns-else-from-to
returns-else-from-to c = record { means = word_none _ _ c.run_end-from.ensures c.run_end-to.ensures c.if-from-to.false; within = tt }
