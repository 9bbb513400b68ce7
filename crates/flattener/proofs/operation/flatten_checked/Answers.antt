use borrow.Author.Rules.{rules}
use mathlib.Core.Path.{sym}
use Rattle.flatten_tables.proofs.Tabulates.{transitions_few, automata_few, states_few, entries_few, ready_as}
use Rattle.flattener.proofs.operation.flatten_checked.Goals as goal

pub returns : goal.returns
returns c d C R =
    let S = R.laid.stated in
    let K = c.columns-transitions.ensures d R.laid (transitions_few d S R.laid.transitions) in
    let F = c.fixed_of-fixed.ensures d C R.tabled in
    let A = c.automata_of-automata.ensures d R.tabled (automata_few d C) in
    let P = c.enter_pairs-enters.ensures d K (sym S.states) (states_few d S) (sym S.entries) (entries_few d S) in
    let L = c.places_of-places.ensures d C R.tabled F K A P in
    let tables = c.tables_of-tables.ensures d _ C S R.tabled F K A P L in
    let G = c.all_edges-edges.ensures d _ tables L R.laid (search rules) in
    c.deliver.ensures d (c.summary_of-summary.ensures.summed d _ S tables L) (ready_as d R c.summary_of-summary.ensures.counts c.summary_of-summary.ensures.tree tables.tree) G
