use mathlib.Core.Path.{refl, sym, ◌∙◌}
use Rattle.clocks.specs.Clocks.{zero_past, zeros_past}
use Rattle.chart_machine.specs.Configured.{stands}
use Rattle.chart_machine.proofs.operation.stands.Goals as goal

pub returns-then-not-is_tree : goal.returns-then-not-is_tree
unfolding stands
returns-then-not-is_tree c = λ r k G. rw (sym (c.is_tree.ensures k c.args.given G.tabled G.parents refl) ∙ c.if-not-is_tree.true)

pub returns-then-not-zero_past : goal.returns-then-not-zero_past
unfolding stands zeros_past
returns-then-not-zero_past c =
    λ r k G. rw (
      sym (c.is_tree.ensures k c.args.given G.tabled G.parents refl) ∙ c.if-not-is_tree.false,
      G.stated.variables,
      sym c.zero_past.ensures ∙ c.if-not-zero_past.true,
    )

pub returns-then-not-in_limit : goal.returns-then-not-in_limit
unfolding stands zeros_past
returns-then-not-in_limit c =
    λ r k G. rw (
      sym (c.is_tree.ensures k c.args.given G.tabled G.parents refl) ∙ c.if-not-is_tree.false,
      G.stated.variables,
      sym c.zero_past.ensures ∙ c.if-not-zero_past.false,
      G.stated.clocks,
      sym c.in_limit.ensures ∙ c.if-not-in_limit.true,
    )

pub returns : goal.returns
unfolding stands zeros_past zero_past
returns c =
    λ r k G. rw (
      sym (c.is_tree.ensures k c.args.given G.tabled G.parents refl) ∙ c.if-not-is_tree.false,
      G.stated.variables,
      sym c.zero_past.ensures ∙ c.if-not-zero_past.false,
      G.stated.clocks,
      sym c.in_limit.ensures ∙ c.if-not-in_limit.false,
    ) c.zero_past-2.ensures
