use Rattle.std.proofs.Common.{rules}
use Rattle.protocol.specs.Board.{entry}
use Rattle.board.specs.State.{board}
use Rattle.board.proofs.Equations.{tested}
use Rattle.board.proofs.ceremony.Ceremony.is_value_in.Goals as goal

pub returns : goal.returns
returns g c =
    tested g.G.Group.meaning g.G.Group.number_of (entry (board c.args.self.now).taken c.args.kind c.args.dealer 0) c.args.seat (g.G.Group.number_of c.args.element) _ _
    c.value_in.ensures c.is_some_and.ensures (λ value k. search rules)
