use mathlib.Core.Path.{sym}
use Rattle.reading.specs.Reading.{byte2}
use Rattle.reading.proofs.Places.{read_err}
use Rattle.reading.proofs.Frames.{frame_faulty, content_faulty, frame_read}
use Rattle.network_records.specs.Edges.{edge_in, keeps_once}
use Rattle.network_records.proofs.edge.edge_at.Goals as goal

pub returns-in_err-bytes : goal.returns-in_err-bytes
returns-in_err-bytes c = λ g. read_err _ _ _ c.from_residual.ensures.1 (sym (frame_faulty keeps_once byte2 (edge_in c.args.counts) _ c.in_err-bytes.ensures.means))

pub returns-in_err-once : goal.returns-in_err-once
returns-in_err-once c = λ g. read_err _ _ _ c.from_residual-in_err-once.ensures.1
    (sym (content_faulty keeps_once byte2 (edge_in c.args.counts) _ _ _ c.in_ok-bytes.ensures.means (c.in_err-once.ensures g)))

pub returns-in_err-next : goal.returns-in_err-next
returns-in_err-next c = λ g. read_err _ _ _ c.from_residual-in_err-next.ensures.1
    (sym (frame_read keeps_once byte2 (edge_in c.args.counts) _ _ _ c.in_ok-bytes.ensures.means _ _ c.in_err-next.ensures (c.in_ok-once.ensures g)))

pub returns : goal.returns
returns c = λ g. frame_read keeps_once byte2 (edge_in c.args.counts) _ _ _ c.in_ok-bytes.ensures.means _ _ c.in_ok-next.ensures (c.in_ok-once.ensures g)
