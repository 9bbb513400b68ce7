use Rattle.flattening.specs.Flatten.{exit_pairs}
use Rattle.flatten_edges.proofs.Gathers.{walk_none}
use Rattle.flatten_edges.proofs.Hears.{exit_more, exit_all}
use Rattle.flatten_edges.proofs.hear.hear_exits.Goals as goal

pub loop-k-init : goal.loop-k-init
loop-k-init c = λ d s H. walk_none _ (exit_pairs d) _ _

pub loop-k-preserved : goal.loop-k-preserved
loop-k-preserved c = λ d s H.
    exit_more d s _ _ _ _ _ _ _ _ H _ _ _ _ _ (c.loop-k.invariant d s H) c.loop-k-test.true
    c.byte_at-m.ensures c.byte_at-mark.ensures c.hears_exit-heard.ensures c.channel_of.ensures c.push_if-n.ensures

pub returns : goal.returns
returns c = λ d s H. exit_all d s _ _ _ _ _ _ _ _ H _ (c.loop-k.invariant d s H) c.loop-k-test.false
