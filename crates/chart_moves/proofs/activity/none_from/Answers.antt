use mathlib.Core.Bool.{Bool, not, ◌&&◌}
use mathlib.Core.List.{List}
use mathlib.Core.Path.{◌≡◌, refl, ◌∙◌}
use borrow.Author.Rules.{rules}
use Rattle.std.proofs.Common.{tests}
use Rattle.std.specs.List.{list_all}
use Rattle.std.proofs.lemmas.List.Recursion.{same_from_clauses}
use Rattle.std.proofs.lemmas.Iterator.{YieldsList-from_slice}
use Rattle.std.proofs.lemmas.Iterator.Adapters.{YieldsList-from_skip}
use Rattle.std.proofs.lemmas.Iterator.Search.{all_from_yields_List}
use Rattle.lists.specs.Lists.{all}
use Rattle.chart_moves.proofs.activity.none_from.Goals as goal

all_listed : (p : Bool → Bool) (xs : List Bool) → list_all p xs ≡ all p xs
unfolding all
all_listed p = same_from_clauses (list_all p) (all p) (λ x r. p x && r) refl (λ x xs. refl) (λ x xs. refl)

pub returns : goal.returns
returns c = all_from_yields_List not _ _ _ c.all.ensures.ran (YieldsList-from_skip c.args.from (YieldsList-from_slice c.args.set.now cc) c.skip.ensures.count) (λ x b q k. search (rules, tests)) ∙ all_listed not _
