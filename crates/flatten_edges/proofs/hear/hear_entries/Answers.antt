use Rattle.flattening.specs.Flatten.{enter_pairs}
use Rattle.flatten_edges.proofs.Gathers.{walk_none}
use Rattle.flatten_edges.proofs.Hears.{entry_more, entry_all}
use Rattle.flatten_edges.proofs.hear.hear_entries.Goals as goal

pub loop-k-init : goal.loop-k-init
loop-k-init c = λ d H. walk_none _ (enter_pairs d) _ _

pub loop-k-preserved : goal.loop-k-preserved
loop-k-preserved c = λ d H.
    entry_more d _ _ _ _ _ _ _ _ _ H _ _ _ _ _ _ (c.loop-k.invariant d H) c.loop-k-test.true
    c.byte_at-d.ensures c.byte_at-mark.ensures
    c.marks_at-own.ensures c.hears_entry-heard.ensures c.channel_of.ensures c.push_if-n.ensures

pub returns : goal.returns
returns c = λ d H. entry_all d _ _ _ _ _ _ _ _ _ H _ (c.loop-k.invariant d H) c.loop-k-test.false
