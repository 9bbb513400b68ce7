use mathlib.Core.Path.{◌≡◌, ap, ◌∙◌}
use native.Mathlib.Omega.{arith}
use borrow.Author.Rules.{rules}
use borrow.Author.Tests.{tests}
use lib.Dec.{eqb}
use lib.ListN.{length-take}
use Rattle.std.proofs.lemmas.Iterator.{YieldsList-from_slice}
use Rattle.std.proofs.lemmas.Iterator.Search.{position_from_yields_List}
use Rattle.lists.specs.Lists.{position}
use Rattle.lists.proofs.Position.{position_le}
use Rattle.console.specs.Script.{words, call_line, line_of}
use Rattle.console.proofs.Search.{or_length, before_comment_lem}
use Rattle.console.proofs.script.read_line.Goals as goal
use Rattle.console.proofs.script.read_line.Goals.{After-unwrap_or-to}

-- the comment begins at the first #
to_comment : (c : After-unwrap_or-to) → c.unwrap_or-to.result ≡ position (λ x. eqb x 35) c.args.s.now
to_comment c =
    let found = position_from_yields_List (λ x. eqb x 35) _ _ c.position.result c.position.ensures.ran (YieldsList-from_slice c.args.s.now cc) (λ x b q k. search (rules, tests)) in
    or_length (λ x. eqb x 35) c.args.s.now found c.unwrap_or-to.ensures

pub slice_bounds-call_of-end : goal.slice_bounds-call_of-end
slice_bounds-call_of-end c =
    omega (arith, length-take c.unwrap_or-to.result c.args.s.now, to_comment (goal.at.slice_bounds-call_of-end c).After-unwrap_or-to, position_le (λ x. eqb x 35) c.args.s.now)

pub returns : goal.returns
unfolding line_of
returns c = c.call_of.ensures ∙ ap (λ l. call_line (words l)) (before_comment_lem c.args.s.now (to_comment (goal.at.returns c).After-unwrap_or-to))
