use mathlib.Core.Path.{sym}
use Rattle.chart_records.specs.Layout.{once}
use Rattle.reading.specs.Reading.{byte2}
use Rattle.reading.proofs.Places.{read_err}
use Rattle.reading.proofs.Frames.{frame_faulty, content_faulty, frame_read}
use Rattle.chart.proofs.transition_list.transition_at.Goals as goal

pub returns-in_err-bytes : goal.returns-in_err-bytes
returns-in_err-bytes c = read_err _ _ _ c.from_residual.ensures.1 (sym (frame_faulty once byte2 _ _ c.in_err-bytes.ensures.means))

pub returns-in_err-once : goal.returns-in_err-once
returns-in_err-once c = read_err _ _ _ c.from_residual-in_err-once.ensures.1 (sym (content_faulty once byte2 _ _ _ _ c.in_ok-bytes.ensures.means c.in_err-once.ensures))

pub returns-in_err-next : goal.returns-in_err-next
returns-in_err-next c = read_err _ _ _ c.from_residual-in_err-next.ensures.1
    (sym (frame_read once byte2 _ _ _ _ c.in_ok-bytes.ensures.means c.in_ok-once.once c.in_ok-once.used c.in_err-next.ensures c.in_ok-once.ensures))

pub returns : goal.returns
returns c = frame_read once byte2 _ _ _ _ c.in_ok-bytes.ensures.means c.in_ok-once.once c.in_ok-once.used c.in_ok-next.ensures c.in_ok-once.ensures
