use Rattle.std.proofs.Common.{is_some, ap, ◌∙◌}
use Rattle.board_index.proofs.Stored.{has_found}
use Rattle.board.specs.State.{state_of}
use Rattle.board.proofs.ceremony.Ceremony.has.Goals as goal

pub returns : goal.returns
returns g c =
    c.is_some.ensures
    ∙ ap is_some c.find.ensures
    ∙ has_found g.G.Group.meaning (state_of c.args.self.now) c.args.kind c.args.writer c.args.second c.args.self.now.kept c.requires.kind
