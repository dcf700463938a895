use Rattle.std.proofs.Common.{sym, ◌∙◌}
use Rattle.protocol.specs.Board.{deal_of, passes1}
use Rattle.board.specs.State.{board}
use Rattle.board.proofs.Equations.{nothing_holds}
use Rattle.board.proofs.ceremony.Ceremony.opens.Goals as goal

pub returns-then-not-has : goal.returns-then-not-has
unfolding passes1
returns-then-not-has g c = nothing_holds (deal_of (board c.args.self.now) c.args.dealer) _ (sym c.has.ensures ∙ c.if-not-has.true)

pub returns : goal.returns
unfolding passes1
returns g c = simp c.commit.ensures at c.is_value_in.ensures
