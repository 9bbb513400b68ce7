use mathlib.Core.Path.{sym}
use Rattle.reading.specs.Reading.{byte, skipped}
use Rattle.reading.proofs.Places.{reached_err}
use Rattle.reading.proofs.Frames.{frame_faulty, content_faulty, frame_read}
use Rattle.network_records.specs.Network.{location}
use Rattle.network_records.proofs.location.location_at.Goals as goal

pub returns-in_err-bytes : goal.returns-in_err-bytes
unfolding skipped
returns-in_err-bytes c = reached_err _ _ _ _ c.from_residual.ensures.1
    (sym (frame_faulty (λ a. tt) byte (location c.args.automata c.args.clocks) _ c.in_err-bytes.ensures.means))

pub returns-in_err-used : goal.returns-in_err-used
unfolding skipped
returns-in_err-used c = reached_err _ _ _ _ c.from_residual-in_err-used.ensures.1
    (sym (content_faulty (λ a. tt) byte (location c.args.automata c.args.clocks) _ _ _ c.in_ok-bytes.ensures.means c.in_err-used.ensures))

pub returns : goal.returns
unfolding skipped
returns c = frame_read (λ a. tt) byte (location c.args.automata c.args.clocks) _ _ _ c.in_ok-bytes.ensures.means tt _ c.whole.ensures c.in_ok-used.ensures
