use Rattle.paired_run.proofs.Following.{wait_refused, wait_follows}
use Rattle.paired_run.proofs.run.after_wait.Goals as goal

pub returns-in-Ok : goal.returns-in-Ok
returns-in-Ok c = λ d n calls F S. wait_follows F calls S _ c.in-Ok.ensures c.wait-in-Ok.ensures c.answered.ensures

pub returns-in-Err : goal.returns-in-Err
returns-in-Err c = λ d n calls F S. wait_refused F calls S _ c.in-Err.ensures (c.refused.ensures _ S)
