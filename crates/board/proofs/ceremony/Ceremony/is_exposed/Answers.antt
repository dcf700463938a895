use Rattle.std.proofs.Common.{sym, ◌∙◌}
use Rattle.protocol.specs.Board.{exposure_of, passes2}
use Rattle.board.specs.State.{board}
use Rattle.board.proofs.Equations.{nothing_holds}
use Rattle.board.proofs.ceremony.Ceremony.is_exposed.Goals as goal

pub returns-then-not-has : goal.returns-then-not-has
unfolding passes2
returns-then-not-has g c = nothing_holds (exposure_of (board c.args.self.now) c.args.dealer) _ (sym c.has.ensures ∙ c.if-not-has.true)

pub returns : goal.returns
unfolding passes2
returns g c = simp (c.power_of-power.ensures, c.g.ensures) at c.is_value_in.ensures
