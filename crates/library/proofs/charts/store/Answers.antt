use Rattle.library.proofs.Lending.{stored_done, stored_refused}
use Rattle.library.proofs.charts.store.Goals as goal

pub returns-in-Ok : goal.returns-in-Ok
returns-in-Ok c = λ a h. stored_done a _ h _ c.in-Ok.is c.bytes_of.ensures

pub returns-in-Err : goal.returns-in-Err
returns-in-Err c = λ a h. stored_refused a _ h _ c.in-Err.is c.number.ensures
