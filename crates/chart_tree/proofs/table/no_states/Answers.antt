use Rattle.chart_tree.proofs.Tables.{column_none}
use native.Mathlib.Omega.{arith}
use Rattle.chart_tree.proofs.table.no_states.Goals as goal

pub returns : goal.returns
returns c = λ d e h. record {
  count = e;
  few = omega (arith, e, h);
  parent = column_none d 255 (λ x. x.parent);
  kind = column_none d 0 (λ x. x.kind);
  entries = column_none d 0 (λ x. x.entries);
  exits = column_none d 0 (λ x. x.exits);
}
