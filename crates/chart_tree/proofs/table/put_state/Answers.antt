use Rattle.chart_tree.proofs.Tables.{column_more}
use lib.ListN.{length}
use mathlib.Core.Path.{◌≡◌}
use borrow.Author.Rules.{rules}
use Rattle.chart_tree.proofs.table.put_state.Goals as goal

pub returns : goal.returns
returns c = λ d B h p k e x.
    record {
      count = B.count;
      few = B.few;
      parent = column_more d 255 (λ x. x.parent) c.args.s c.args.parent c.args.tree.now.parents B.parent (let z : length c.args.tree.now.parents ≡ 48 = search rules in z) c.if-s-ge-STATES.false p;
      kind = column_more d 0 (λ x. x.kind) c.args.s c.args.kind c.args.tree.now.kinds B.kind (let z : length c.args.tree.now.kinds ≡ 48 = search rules in z) c.if-s-ge-STATES.false k;
      entries = column_more d 0 (λ x. x.entries) c.args.s c.args.entries c.args.tree.now.entries B.entries (let z : length c.args.tree.now.entries ≡ 48 = search rules in z) c.if-s-ge-STATES.false e;
      exits = column_more d 0 (λ x. x.exits) c.args.s c.args.exits c.args.tree.now.exits B.exits (let z : length c.args.tree.now.exits ≡ 48 = search rules in z) c.if-s-ge-STATES.false x;
    }
