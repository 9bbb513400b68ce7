use mathlib.Core.Path.{ap, ◌∙◌}
use Prim.Native.Nat.{ℕ, ◌+◌}
use borrow.Author.Rules.{rules}
use borrow.Author.Tests.{tests}
use Rattle.std.proofs.lemmas.Iterator.{YieldsList-from_slice}
use Rattle.std.proofs.lemmas.Iterator.Search.{position_from_yields_List}
use Rattle.lists.specs.Lists.{position}
use Rattle.reading.specs.Places.{onward}
use Rattle.console.specs.Places.{ends_run}
use Rattle.console.proofs.Search.{or_length}
use Rattle.console.proofs.script.run_end.Goals as goal

pub returns : goal.returns
unfolding onward
returns c =
    let rest = c.tail-rest.result.now in
    let found = position_from_yields_List (ends_run c.args.spaces) _ _ c.position-run.result c.position-run.ensures.ran (YieldsList-from_slice rest cc) (λ x b q k. search (rules, tests)) in
    ap (λ (n : ℕ). c.args.at + n) (or_length (ends_run c.args.spaces) rest found c.unwrap_or.ensures ∙ ap (position (ends_run c.args.spaces)) c.tail-rest.ensures)
