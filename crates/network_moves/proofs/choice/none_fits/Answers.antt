use native.Mathlib.Omega.{arith}
use Rattle.network_records.proofs.Edges.{few_edges}
use Rattle.network_moves.proofs.Choosing.{none_fit}
use Rattle.network_moves.proofs.choice.none_fits.Goals as goal

pub returns-then-edges-gt1024 : goal.returns-then-edges-gt1024
returns-then-edges-gt1024 c = λ n ms L q. let e = few_edges c.args.counts L.located.in_range_lem in
    absurd (omega (arith, e, c.if-edges-gt1024.true))

pub returns : goal.returns
returns c = λ n ms L q. none_fit L c.args.c _ ms c.active_receivers-receivers.result c.maximal.ensures (c.active_receivers-receivers.ensures n L) q
