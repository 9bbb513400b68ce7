use mathlib.Core.Path.{refl}
use Rattle.chart_steps.proofs.Choices.{after_by}
use Rattle.chart_steps.proofs.taken.after.Goals as goal

pub returns : goal.returns
returns c = record {
  within = λ k R h. c.variables_after-assigned.ensures.within k R.laid h;
  configuration = λ k R h. after_by k c.args.given c.args.list.now
      (c.active_after-active.ensures k c.args.given _ R.tabled R.parents R.entry_marks_lem (c.moves_of-moves.ensures k _ R.laid h) refl)
      (c.variables_after-assigned.ensures.values k R.laid h) (c.clocks_after-clocks.ensures k _ R.laid h);
}
