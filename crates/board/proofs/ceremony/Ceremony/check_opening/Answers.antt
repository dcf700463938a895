use Rattle.std.proofs.Common.{◌≡◌, false, eqb, ap, ◌∙◌, rules}
use Rattle.std.proofs.lemmas.Bool.{ne_eqb}
use Rattle.protocol.specs.Board.{phase_of, phase_number}
use Rattle.protocol.specs.Refusals.{first_fault, opening_fault}
use Rattle.board.specs.State.{board}
use Rattle.board.proofs.Testing.{begun}
use Rattle.board.proofs.ceremony.Ceremony.check_opening.Goals as goal

pub returns-in_default : goal.returns-in_default
unfolding first_fault opening_fault
returns-in_default g c =
    let opened : eqb (phase_number (phase_of g.G.Group.meaning (board c.args.self.now))) 0 ≡ false =
    ne_eqb _ 0 (λ none. begun c.args.self.now.phase c.in_default.not-Unopened (ap phase_number c.args.self.now.kept.phase ∙ none)) in
    search rules
