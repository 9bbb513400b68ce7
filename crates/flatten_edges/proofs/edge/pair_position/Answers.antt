use native.Mathlib.Omega.{arith}
use mathlib.Core.Path.{sym, ◌∙◌}
use Rattle.flatten_edges.proofs.Hears.{search_start, search_on, search_found, search_none}
use Rattle.flatten_edges.proofs.edge.pair_position.Goals as goal

pub loop-k-init : goal.loop-k-init
loop-k-init c = λ ps p C e f. search_start ps p

pub returns-then-is_same : goal.returns-then-is_same
returns-then-is_same c = λ ps p C e f. search_found ps p _ _ _ C _ e f c.byte_at-s.ensures c.byte_at-m.ensures c.loop-k-test.true (sym c.is_same.ensures ∙ c.if-is_same.true) (c.loop-k.invariant ps p C e f)

pub loop-k-preserved : goal.loop-k-preserved
loop-k-preserved c = λ ps p C e f. search_on ps p _ _ _ C _ e f c.byte_at-s.ensures c.byte_at-m.ensures c.loop-k-test.true (sym c.is_same.ensures ∙ c.if-is_same.false) (c.loop-k.invariant ps p C e f)

pub returns : goal.returns
returns c = λ ps p C e f. omega (arith, search_none ps p _ _ _ C _ c.loop-k-test.false (c.loop-k.invariant ps p C e f))
