use Rattle.std.proofs.Common.{rules}
use Rattle.board.specs.State.{board}
use Rattle.readings.proofs.States.{answers_open}
use Rattle.readings.proofs.seats.are_answers_open.Goals as goal

pub returns-in-Unopened : goal.returns-in-Unopened
returns-in-Unopened g c =
    let h = answers_open g.G.Group.meaning (board c.args.ceremony.now) c.phase.result c.phase.ensures in
    search rules

pub returns-in_default : goal.returns-in_default
returns-in_default g c =
    let h = answers_open g.G.Group.meaning (board c.args.ceremony.now) c.phase.result c.phase.ensures in
    search rules
