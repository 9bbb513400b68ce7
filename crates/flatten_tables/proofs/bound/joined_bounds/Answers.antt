use Rattle.chart_tree.proofs.Tables.{rooted_of}
use Rattle.flatten_tables.proofs.Bounding.{rows_joined}
use Rattle.flatten_tables.proofs.bound.joined_bounds.Goals as goal

pub returns : goal.returns
returns c d S T r5 r8 F =
    let rows = c.own_bounds-own.ensures d S T r5 F in
    record {
      tabled = T;
      parents = r5;
      entry_marks_lem = r8;
      rows = rows_joined d c.own_bounds-own.result c.bounds_above-above.result rows (c.bounds_above-above.ensures d (rooted_of d _ T r5) T.kind rows)
          c.join_tables.ensures;
    }
