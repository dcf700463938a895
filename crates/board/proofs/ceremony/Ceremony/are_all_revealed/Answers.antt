use Rattle.std.proofs.Common.{◌≡◌, ℕ, ◌+◌, Bool, true, false, not, ◌||◌, leb, refl, ap, ◌∙◌, rules, arith}
use Rattle.std.proofs.lemmas.Iterator.{YieldsList-from_range, cases_from_all}
use Rattle.protocol.specs.Seats.{count, every}
use Rattle.protocol.specs.Board.{contested, revealed, all_revealed}
use Rattle.board.specs.State.{board}
use Rattle.board.proofs.SeatLoops.{every_from_all}
use Rattle.board.proofs.ceremony.Ceremony.are_all_revealed.Goals as goal

pub returns : goal.returns
unfolding all_revealed
returns g c =
    let m = g.G.Group.meaning in
    let b = board c.args.self.now in
    let P : ℕ → Bool = λ i. not (contested m b i) || leb (b.t + 1) (count b.n (λ j. revealed b j i)) in
    every_from_all P c.args.self.now.n c.all.result
    (cases_from_all _ _ _ (λ i. P i ≡ true) (λ i. P i ≡ false) c.all.ensures.ran (YieldsList-from_range 1 (c.args.self.now.n + 1) c.args.self.now.n refl (omega arith)) (λ i f k. search rules) (λ i f k. search rules))
    ∙ ap (λ (n : ℕ). every n P) c.args.self.now.kept.n
