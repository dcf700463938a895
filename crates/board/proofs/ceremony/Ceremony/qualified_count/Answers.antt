use Rattle.std.proofs.Common.{ℕ, Bool, ap, ◌∙◌, rules}
use Rattle.protocol.specs.Seats.{count}
use Rattle.protocol.specs.Board.{qualified}
use Rattle.board.specs.State.{board}
use Rattle.board.proofs.SeatLoops.{counted}
use Rattle.board.proofs.ceremony.Ceremony.qualified_count.Goals as goal

pub returns : goal.returns
returns g c =
    let test : ℕ → Bool = qualified g.G.Group.meaning (board c.args.self.now) in
    counted _ _ _ c.args.self.now.n test _ c.count.ensures.ran c.filter.ensures.source c.filter.ensures.closure (λ x b q k. search rules)
    ∙ ap (λ (n : ℕ). count n test) c.args.self.now.kept.n
