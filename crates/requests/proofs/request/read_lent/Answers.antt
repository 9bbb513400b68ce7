use mathlib.Core.Path.{sym, ap, ◌∙◌}
use borrow.Author.Tests.{le-leb, lt-leb}
use Rattle.reading.specs.Reading.{yield}
use Rattle.reading.proofs.Places.{bind_got, bind_fault, such_got, such_not, such_fault, handed_on}
use Rattle.requests.specs.Requests.{lent, operation_of}
use Rattle.requests.proofs.request.read_lent.Goals as goal

pub returns-in_err-room-clause-means : goal.returns-in_err-room-clause-means
unfolding lent
returns-in_err-room-clause-means c = ap (operation_of _) (handed_on _ c.from_residual.ensures.1) ∙ sym (bind_fault _ _ _ (such_fault _ _ _ (sym c.in_err-room.ensures.means)))

pub returns-then-room-le65536-clause-means : goal.returns-then-room-le65536-clause-means
unfolding lent yield
returns-then-room-le65536-clause-means c = sym (bind_got _ _ _ (such_got _ _ _ (sym c.in_ok-room.ensures.means) (le-leb _ _ c.if-room-le65536.true)))

pub returns-else-room-le65536-clause-means : goal.returns-else-room-le65536-clause-means
unfolding lent
returns-else-room-le65536-clause-means c = sym (bind_fault _ _ _ (such_not _ _ _ (sym c.in_ok-room.ensures.means) (lt-leb _ _ c.if-room-le65536.false)))
