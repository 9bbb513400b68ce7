use Rattle.paired_run.proofs.Following.{step_refused, step_few, step_safe, step_moved}
use Rattle.paired_run.proofs.run.after_step.Goals as goal

pub returns-in-Ok : goal.returns-in-Ok
returns-in-Ok c = λ d n calls F S.
    let is = c.carried.ensures.means n F.network_is (step_few F calls S _ c.in-Ok.ensures) in
    step_moved F calls S _ c.in-Ok.ensures is (c.after_move.ensures d _ F.chart_is S (step_safe F calls S _ c.in-Ok.ensures is))

pub returns-in-Err : goal.returns-in-Err
returns-in-Err c = λ d n calls F S. step_refused F calls S _ c.in-Err.ensures (c.refused.ensures _ S)
