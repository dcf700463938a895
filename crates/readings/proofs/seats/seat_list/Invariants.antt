use Rattle.std.proofs.Common.{◌≡◌, ◌++◌, map, drop}
use Rattle.std.specs.List.{range_with_len}
use Rattle.protocol.specs.Readings.{row_of}
use Rattle.board.specs.State.{board}
use Rattle.readings.proofs.seats.seat_list.Given as goal

abbrev pub invariant-loop-k : goal.invariant-loop-k
invariant-loop-k g l =
    let m = g.G.Group.meaning in
    l.rows ≡ map (row_of m (board l.ceremony)) (range_with_len 1 l.k) ++ drop l.k l.initial.rows
