use Rattle.std.proofs.Common.{◌≡◌, ◌+◌, ◌-◌, take}
use Rattle.protocol.specs.Seats.{those}
use Rattle.protocol.specs.Board.{revealed}
use Rattle.board.specs.State.{board}
use Rattle.readings.proofs.reveals.find_serving.Given as goal

abbrev pub invariant-loop-j : goal.invariant-loop-j
invariant-loop-j g l =
    let b = board l.ceremony in
    l.serving ≡ take (b.t + 1) (those (l.j - 1) (λ j. revealed b j l.dealer))
