use Rattle.std.proofs.Common.{ℕ, Bool, ap, ◌∙◌, rules}
use Rattle.protocol.specs.Seats.{count}
use Rattle.protocol.specs.Board.{has}
use Rattle.board.specs.State.{board}
use Rattle.board.proofs.SeatLoops.{counted}
use Rattle.board.proofs.ceremony.Ceremony.count_naming.Goals as goal

pub returns : goal.returns
returns g c =
    let test : ℕ → Bool = λ j. has (board c.args.self.now).taken c.args.kind j c.args.dealer in
    counted _ _ _ c.args.self.now.n test _ c.count.ensures.ran c.filter.ensures.source c.filter.ensures.closure (λ x b q k. search rules)
    ∙ ap (λ (n : ℕ). count n test) c.args.self.now.kept.n
