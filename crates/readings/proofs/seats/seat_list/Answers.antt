use Rattle.std.proofs.Common.{set, ap, ◌∙◌, arith}
use Rattle.protocol.specs.declared.row.SeatRow.{SeatRow}
use Rattle.protocol.specs.Readings.{row_of}
use Rattle.board.specs.State.{board}
use Rattle.readings.proofs.Rows.{row_more}
use Rattle.readings.proofs.seats.seat_list.Goals as goal

pub loop-k-preserved : goal.loop-k-preserved
loop-k-preserved g c =
    ap (λ (r : SeatRow). set c.loop-k.rows c.loop-k.k r) c.row_of.ensures
    ∙ row_more (row_of g.G.Group.meaning (board c.args.ceremony.now)) c.args.rows.now c.loop-k.rows c.loop-k.k (omega arith) c.loop-k.invariant
