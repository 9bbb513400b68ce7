use mathlib.Core.Path.{sym}
use Rattle.flatten_tables.proofs.Tabulates.{states_few, exits_few, channels_small, channels_are}
use Rattle.flatten_tables.proofs.tabulate.tables_of.Goals as goal

pub returns : goal.returns
returns c d file C S T F K A P L =
    let N = c.numbers_of-table.ensures d C L in
    record {
      chart = C;
      tree = T;
      fixed = F;
      transitions = K;
      automata = A;
      enters = P;
      leaves = c.exit_pairs-leaves.ensures d K (sym S.states) (states_few d S) (sym S.exits) (exits_few d S);
      numbers = c.child_numbers-numbers.ensures d C N;
      below = c.marked_below-below.ensures d C T;
      departures = c.departures-departures.ensures d C K N;
      arrivals = c.arrivals-arrivals.ensures d C K N;
      firsts = c.firsts-firsts.ensures d A N;
      initials = c.initials-initials.ensures d C T A N;
      channels = channels_are d S (c.channel_of-channels.ensures (channels_small d S).0 (channels_small d S).1);
    }
