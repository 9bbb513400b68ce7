use mathlib.Core.Path.{sym, ◌∙◌}
use native.Mathlib.Omega.{arith}
use Rattle.reading.proofs.Reading.{mapped_fault, mapped_at, no_answer}
use Rattle.reading.proofs.Places.{read_err}
use Rattle.reading.proofs.Sizes.{recorded_before}
use Rattle.network_records.proofs.Edges.{edging_none, edging_more, edging_stop, edging_all, edging_at, few_edges}
use Rattle.network.proofs.edge_list.read_edges.Goals as goal

pub loop-i-init : goal.loop-i-init
loop-i-init c = edging_none _ _ _ _

pub returns-in_err-keeps : goal.returns-in_err-keeps
returns-in_err-keeps c = let stop = edging_stop _ _ _ _ c.loop-i.invariant c.loop-i-test.true (sym (c.in_err-keeps.ensures c.requires.0)) in
    record { means = read_err _ _ _ c.from_residual.ensures.1 (mapped_fault _ stop); placed = λ f es t h. no_answer (sym stop ∙ h) }

pub overflow_cast-offsets : goal.overflow_cast-offsets
overflow_cast-offsets c = let here = mapped_at _ _ (sym (c.in_ok-keeps.ensures c.requires.0)) in
    omega (arith, recorded_before _ _ c.loop-i.place here.1, c.requires.1)

pub bounds-offsets-i : goal.bounds-offsets-i
bounds-offsets-i c = omega (arith, few_edges c.args.counts c.requires.0, c.loop-i-test.true)

pub loop-i-preserved : goal.loop-i-preserved
loop-i-preserved c = edging_more _ _ _ _ c.loop-i.invariant c.loop-i-test.true (few_edges c.args.counts c.requires.0) (sym (c.in_ok-keeps.ensures c.requires.0))

pub returns : goal.returns
returns c = record { means = edging_all _ _ _ _ c.loop-i.invariant c.loop-i-test.false; placed = edging_at _ _ _ _ c.loop-i.invariant c.loop-i-test.false }
