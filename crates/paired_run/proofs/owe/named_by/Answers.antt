use Rattle.std.proofs.Common.{arith}
use Rattle.paired_run.proofs.Owing.{few_transitions, named_one}
use Rattle.paired_run.proofs.owe.named_by.Goals as goal

pub returns-then-t-gt255 : goal.returns-then-t-gt255
returns-then-t-gt255 c = record { few = omega arith; means = λ d k L h. absurd (omega (arith, few_transitions k L.stated.in_range_lem, c.if-t-gt255.true)) }

pub overflow_add-result : goal.overflow_add-result
overflow_add-result c = omega (arith, c.one-exits.ensures.few, c.one.ensures.few)

pub returns : goal.returns
returns c = record { few = omega (arith, c.one-exits.ensures.few, c.one.ensures.few); means = λ d k L h. named_one d c.args.t (c.exit_of.ensures d k L h) (c.entry_of.ensures d k L h) c.one-exits.ensures.means c.one.ensures.means }
