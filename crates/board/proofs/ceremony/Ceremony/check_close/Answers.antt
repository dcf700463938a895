use Rattle.std.proofs.Common.{rules}
use Rattle.protocol.specs.Refusals.{first_fault}
use Rattle.board.specs.State.{state_of}
use Rattle.board.proofs.Testing.{behind_close}
use Rattle.board.proofs.ceremony.Ceremony.check_close.Goals as goal

pub returns-then-bytes-number : goal.returns-then-bytes-number
unfolding first_fault
returns-then-bytes-number g c =
    let h = behind_close g.G.Group.meaning (state_of c.args.self.now) c.args.bytes.now c.args.self.now.kept c.requires.kind c.requires.phase.0 c.requires.phase.1 in
    search rules

pub returns-then-not-are_all_revealed : goal.returns-then-not-are_all_revealed
unfolding first_fault
returns-then-not-are_all_revealed g c =
    let h = behind_close g.G.Group.meaning (state_of c.args.self.now) c.args.bytes.now c.args.self.now.kept c.requires.kind c.requires.phase.0 c.requires.phase.1 in
    search rules

pub returns : goal.returns
unfolding first_fault
returns g c =
    let h = behind_close g.G.Group.meaning (state_of c.args.self.now) c.args.bytes.now c.args.self.now.kept c.requires.kind c.requires.phase.0 c.requires.phase.1 in
    search rules
