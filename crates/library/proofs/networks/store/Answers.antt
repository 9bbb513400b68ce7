use Rattle.library.proofs.Outcomes.{lent_passed, lent_refused}
use Rattle.library.proofs.networks.store.Goals as goal

pub returns-in-Ok : goal.returns-in-Ok
returns-in-Ok c = λ a h. lent_passed _ a _ h c.in-Ok.is

pub returns-in-Err : goal.returns-in-Err
returns-in-Err c = λ a h. lent_refused _ a _ h c.in-Err.is c.number.ensures
