use Rattle.std.proofs.Common.{◌≡◌, ℕ, ◌+◌, Bool, true, false, not, ◌||◌, refl, ap, ◌∙◌, rules, arith}
use Rattle.std.proofs.lemmas.Iterator.{YieldsList-from_range, cases_from_all}
use Rattle.protocol.specs.Seats.{every}
use Rattle.protocol.specs.Board.{complained, answered}
use Rattle.board.specs.State.{board}
use Rattle.board.proofs.SeatLoops.{every_from_all}
use Rattle.board.proofs.ceremony.Ceremony.has_answered_all.Goals as goal

pub returns : goal.returns
returns g c =
    let b = board c.args.self.now in
    let P : ℕ → Bool = λ j. not (complained b j c.args.dealer) || answered g.G.Group.meaning b c.args.dealer j in
    every_from_all P c.args.self.now.n c.all.result
    (cases_from_all _ _ _ (λ j. P j ≡ true) (λ j. P j ≡ false) c.all.ensures.ran (YieldsList-from_range 1 (c.args.self.now.n + 1) c.args.self.now.n refl (omega arith)) (λ j f k. search rules) (λ j f k. search rules))
    ∙ ap (λ (n : ℕ). every n P) c.args.self.now.kept.n
