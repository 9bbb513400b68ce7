use mathlib.Core.Path.{refl, sym, ap₂, ◌∙◌}
use native.Mathlib.Omega.{arith}
use Rattle.network_records.specs.Network.{lex_less}
use Rattle.network.proofs.Offsets.{kept_key, ascend_next, ascend_stop, ascend_end}
use Rattle.network.proofs.laid.all_ascend.Goals as goal

pub loop-i-init : goal.loop-i-init
loop-i-init c = (omega arith, λ n L. refl)

pub overflow_sub-i : goal.overflow_sub-i
overflow_sub-i c = c.loop-i.invariant.0

pub returns-then-not-precedes : goal.returns-then-not-precedes
returns-then-not-precedes c = λ n L. let x = kept_key L (c.edge_of-a.ensures _ n L (omega (arith, c.loop-i-test.true))) in
    let y = kept_key L (c.edge_of-b.ensures _ n L c.loop-i-test.true) in
    sym (c.loop-i.invariant.1 n L ∙ ascend_stop L _ c.loop-i.invariant.0 c.loop-i-test.true (c.precedes.ensures ∙ ap₂ lex_less x y) (c.if-not-precedes.true))

pub loop-i-preserved : goal.loop-i-preserved
loop-i-preserved c = (
  omega arith,
  λ n L. let x = kept_key L (c.edge_of-a.ensures _ n L (omega (arith, c.loop-i-test.true))) in
      let y = kept_key L (c.edge_of-b.ensures _ n L c.loop-i-test.true) in
      c.loop-i.invariant.1 n L ∙ ascend_next L _ c.loop-i.invariant.0 c.loop-i-test.true (c.precedes.ensures ∙ ap₂ lex_less x y) (c.if-not-precedes.false),
)

pub returns : goal.returns
returns c = λ n L. sym (c.loop-i.invariant.1 n L ∙ ascend_end L _ c.loop-i-test.false)
