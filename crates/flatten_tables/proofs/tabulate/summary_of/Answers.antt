use mathlib.Core.Path.{refl}
use Rattle.flatten_tables.proofs.Tabulates.{channels_small, enters_small, leaves_small, entering_small, summed}
use Rattle.flatten_tables.proofs.tabulate.summary_of.Goals as goal

pub returns : goal.returns
returns c = record {
  summed = λ d file S t l.
      let e = enters_small d S c.args.t c.args.places t l in
      let f = leaves_small d S c.args.t c.args.places t l in
      let first = c.channel_of-entering.ensures (channels_small d S).1 e in
      summed d S c.args.t c.args.places t l first (c.channel_of-broadcasts.ensures (entering_small d S c.args.t c.args.places t l first) f);
  counts = refl;
  tree = refl;
}
