use Rattle.std.proofs.Common.{◌≡◌, length, rules}
use Rattle.group.specs.Code.{code}
use Rattle.group.specs.CodeLaws.{code_length}
use Rattle.protocol.specs.Board.{key}
use Rattle.protocol.specs.Readings.{key_fault}
use Rattle.protocol.specs.Refusals.{first_fault}
use Rattle.board.specs.State.{board}
use Rattle.readings.proofs.key.write_key.Goals as goal

pub returns-clause-output : goal.returns-clause-output
unfolding key_fault first_fault
returns-clause-output g c =
    let m = g.G.Group.meaning in
    let wide : length (code m.w (key m (board c.args.ceremony.now))) ≡ m.w = code_length m.w (key m (board c.args.ceremony.now)) in
    rw wide (search rules)
