use Rattle.std.proofs.Common.{rules, ◌≡◌, ◌∙◌, length, refl, false}
use Rattle.lists.proofs.Loops.{filled_none, filled_more}
use Rattle.library.proofs.Lending.{states, length_flags, flag_at_lem}
use Rattle.library.proofs.flags.flags_of.Goals as goal

pub loop-i-init : goal.loop-i-init
loop-i-init c = let e : length c.args.bytes ≡ states = search rules in filled_none states _ _ (length_flags _ ∙ e) refl

pub loop-i-preserved : goal.loop-i-preserved
loop-i-preserved c = filled_more states _ _ _ c.loop-i.invariant false _ c.loop-i-test.true (flag_at_lem _ _ c.loop-i.invariant.size c.loop-i-test.true)
