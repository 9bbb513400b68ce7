use borrow.Author.Tests.{eq-eqb, ne_eqb}
use mathlib.Core.Path.{sym, subst}
use Prim.Native.Nat.{ℕ, ◌<◌}
use lib.ListN.{length}
use Rattle.chart_rules.proofs.Crossings.{home_known}
use Rattle.chart_rules.proofs.transition_rule.is_apart.Goals as goal

pub returns-then-signal_of-eq0 : goal.returns-then-signal_of-eq0
returns-then-signal_of-eq0 c = λ k L R S h g. rw (← c.signal_of.ensures k _ L h, eq-eqb _ 0 c.if-signal_of-eq0.true)

pub returns-then-signal_of-eq0-2 : goal.returns-then-signal_of-eq0-2
returns-then-signal_of-eq0-2 c = λ k L R S h g. rw (← c.signal_of.ensures k _ L h, ne_eqb _ 0 c.if-signal_of-eq0.false, ← c.signal_of-2.ensures k _ L g, eq-eqb _ 0 c.if-signal_of-eq0-2.true)

pub returns-then-channel_of : goal.returns-then-channel_of
returns-then-channel_of c =
    λ k L R S h g. rw (
      ← c.signal_of.ensures k _ L h,
      ne_eqb _ 0 c.if-signal_of-eq0.false,
      ← c.signal_of-2.ensures k _ L g,
      ne_eqb _ 0 c.if-signal_of-eq0-2.false,
      ← c.channel_of.ensures k _ L h,
      ← c.channel_of-2.ensures k _ L g,
      ne_eqb _ _ c.if-channel_of.true,
    )

pub returns-then-a-b : goal.returns-then-a-b
returns-then-a-b c =
    λ k L R S h g. rw (
      ← c.signal_of.ensures k _ L h,
      ne_eqb _ 0 c.if-signal_of-eq0.false,
      ← c.signal_of-2.ensures k _ L g,
      ne_eqb _ 0 c.if-signal_of-eq0-2.false,
      ← c.channel_of.ensures k _ L h,
      ← c.channel_of-2.ensures k _ L g,
      eq-eqb _ _ c.if-channel_of.false,
      ← c.home_of-a.ensures k L h,
      ← c.home_of-b.ensures k L g,
      eq-eqb _ _ c.if-a-b.true,
    )

pub returns : goal.returns
returns c =
    λ k L R S h g.
    let e = c.home_of-b.ensures k L g in
    rw (
      ← c.signal_of.ensures k _ L h,
      ne_eqb _ 0 c.if-signal_of-eq0.false,
      ← c.signal_of-2.ensures k _ L g,
      ne_eqb _ 0 c.if-signal_of-eq0-2.false,
      ← c.channel_of.ensures k _ L h,
      ← c.channel_of-2.ensures k _ L g,
      eq-eqb _ _ c.if-channel_of.false,
      ← c.home_of-a.ensures k L h,
      ← e,
      ne_eqb _ _ c.if-a-b.false,
      ← c.under.ensures k R (subst (λ (s : ℕ). s < length k.states) (sym e) (home_known L S _ g)),
    )
