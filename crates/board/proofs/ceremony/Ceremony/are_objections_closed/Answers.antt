use Rattle.std.proofs.Common.{rules}
use Rattle.board_index.specs.State.{board_of}
use Rattle.board.specs.State.{state_of}
use Rattle.board.proofs.Deciding.{objections_closed}
use Rattle.board.proofs.ceremony.Ceremony.are_objections_closed.Goals as goal

pub returns-in-Revealing : goal.returns-in-Revealing
returns-in-Revealing g c =
    let h = objections_closed g.G.Group.meaning (board_of g.G.Group.meaning (state_of c.args.self.now)) c.args.self.now.phase c.args.self.now.kept.phase in
    search rules

pub returns-in_default : goal.returns-in_default
returns-in_default g c =
    let h = objections_closed g.G.Group.meaning (board_of g.G.Group.meaning (state_of c.args.self.now)) c.args.self.now.phase c.args.self.now.kept.phase in
    search rules
