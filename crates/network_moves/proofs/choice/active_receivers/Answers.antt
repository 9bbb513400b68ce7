use mathlib.Core.Path.{◌≡◌, refl, sym, ◌∙◌}
use mathlib.Core.List.{map}
use Prim.Native.Nat.{ℕ}
use native.Mathlib.Omega.{arith}
use lib.ListN.{length, length-map, length-set}
use Rattle.lists.specs.Lists.{below}
use Rattle.lists.proofs.Below.{length_below, get_d_mapped}
use Rattle.lists.proofs.Loops.{front_more, front_all}
use Rattle.network_records.specs.Network.{Network}
use Rattle.network_moves.specs.Choices.{receiver_at}
use Rattle.network_moves.specs.declared.configuration.Configuration.{Configuration}
use Rattle.network_records.proofs.Edges.{few_edges}
use Rattle.network_moves.proofs.choice.active_receivers.Goals as goal

long : (n : Network) (c : Configuration) (channel k : ℕ) → length (map (receiver_at n c channel) (below k)) ≡ k
long n c channel k = length-map (below k) (receiver_at n c channel) ∙ length_below k

pub loop-m-init : goal.loop-m-init
loop-m-init c = (refl, λ n L. refl)

pub loop-m-preserved : goal.loop-m-preserved
loop-m-preserved c = (
  length-set c.loop-m.receivers _ _ ∙ c.loop-m.invariant.0,
  λ n L. front_more (map (receiver_at n c.args.c c.args.channel) (below c.args.counts.edges)) c.loop-m.receivers c.loop-m.m 0 _ (c.loop-m.invariant.1 n L) (omega (arith, c.loop-m.invariant.0)) (omega (arith, long n c.args.c c.args.channel c.args.counts.edges))
      (c.active_receiver.ensures n L (omega arith) ∙ sym (get_d_mapped (receiver_at n c.args.c c.args.channel) c.args.counts.edges c.loop-m.m 0 (omega arith))),
)

pub returns : goal.returns
returns c = λ n L. front_all (map (receiver_at n c.args.c c.args.channel) (below c.args.counts.edges)) _ _ _ (c.loop-m.invariant.1 n L) (long n c.args.c c.args.channel c.args.counts.edges) (omega arith) (omega (arith, few_edges c.args.counts L.located.in_range_lem))
