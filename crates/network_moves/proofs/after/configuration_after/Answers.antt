use mathlib.Core.Path.{refl, sym, ap, ◌∙◌}
use mathlib.Core.Bool.{◌&&◌, and-true}
use mathlib.Core.List.{List, map}
use Prim.Native.Nat.{ℕ}
use lib.ListN.{drop_of_length-le}
use Rattle.lists.specs.Lists.{all, concat}
use Rattle.lists.proofs.Parts.{drop_next}
use Rattle.updates.specs.Update.{stays}
use Rattle.steps.specs.Moves.{all_stay}
use Rattle.steps.proofs.Turns.{stay_more}
use Rattle.network_records.specs.Network.{edge_at}
use Rattle.network_moves.specs.Turns.{taken_all}
use Rattle.lists.proofs.Lists.{each_below}
use Rattle.network_moves.proofs.Taken.{taken_all_lem, taken_next, taken_none}
use Rattle.network_moves.proofs.after.configuration_after.Goals as goal

pub loop-m-init : goal.loop-m-init
loop-m-init c = λ n L h. (refl, refl)

pub loop-m-preserved : goal.loop-m-preserved
loop-m-preserved c = λ n L h.
    let K = c.edge_of-e.ensures _ n L (each_below _ _ h c.loop-m-test.true) in
    let g = c.loop-m.invariant n L h in (
      g.0 ∙ stay_more (λ m. (edge_at n m).label) (drop_next _ _ 0 c.loop-m-test.true) _ c.loop-m.after.within (c.taken-after.ensures.within _ K),
      g.1 ∙ taken_next n _ c.loop-m.after.configuration (edge_at n) (drop_next _ _ 0 c.loop-m-test.true)
          ∙ ap (taken_all n _ _) (sym (c.taken-after.ensures.configuration n _ L.located K)),
    )

pub returns : goal.returns
unfolding all_stay all concat
returns c =
    let none = drop_of_length-le _ c.loop-m-test.false in record {
      within = λ n L h. sym ((c.loop-m.invariant n L h).0
          ∙ ap (λ (ms : List ℕ). c.loop-m.after.within && all (stays c.args.c.variables) (concat (λ l'. l'.body.updates) (map (λ m. (edge_at n m).label) ms))) none ∙ and-true c.loop-m.after.within);
      configuration = λ n L h. sym (taken_all_lem n _ _ _ refl ∙ (c.loop-m.invariant n L h).1 ∙ taken_none n _ c.loop-m.after.configuration (edge_at n) none);
    }
