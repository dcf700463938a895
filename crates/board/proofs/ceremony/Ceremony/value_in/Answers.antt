use Rattle.std.proofs.Common.{◌+◌, sym, ◌∙◌, arith}
use Rattle.group.specs.Code.{code_at}
use Rattle.sharing.specs.Codes.{decoded_from}
use Rattle.board_index.specs.State.{filled}
use Rattle.board_index.proofs.Stored.{not_stored}
use Rattle.board.specs.State.{state_of}
use Rattle.board.proofs.StoredCodes.{elements_at, used_narrow, filled_length}
use Rattle.board.proofs.ceremony.Ceremony.value_in.Goals as goal

pub returns-in_err-place : goal.returns-in_err-place
returns-in_err-place g c =
    rw c.from_residual.ensures (not_stored g.G.Group.meaning (state_of c.args.self.now) c.args.kind c.args.dealer 0 c.args.self.now.kept c.requires.kind.0 (sym c.find.ensures ∙ c.in_err-place.was))

pub overflow_add-place : goal.overflow_add-place
overflow_add-place g c =
    let m = g.G.Group.meaning in
    let s = state_of c.args.self.now in
    let E = elements_at m s c.args.kind c.args.dealer c.in_ok-place.place c.args.self.now.kept c.requires.kind.0 c.requires.kind.1 (sym c.find.ensures ∙ c.in_ok-place.was) in
    omega (arith, E.within, filled_length m s c.args.self.now.kept, used_narrow m g.G.Group.lawful s c.args.self.now.kept)

pub value_of_known-value-requires : goal.value_of_known-value-requires
value_of_known-value-requires g c =
    let m = g.G.Group.meaning in
    let s = state_of c.args.self.now in
    let E = elements_at m s c.args.kind c.args.dealer c.in_ok-place.place c.args.self.now.kept c.requires.kind.0 c.requires.kind.1 (sym c.find.ensures ∙ c.in_ok-place.was) in
    record { within = E.within; taken = E.judged }

pub returns : goal.returns
returns g c =
    let m = g.G.Group.meaning in
    let s = state_of c.args.self.now in
    let E = elements_at m s c.args.kind c.args.dealer c.in_ok-place.place c.args.self.now.kept c.requires.kind.0 c.requires.kind.1 (sym c.find.ensures ∙ c.in_ok-place.was) in
    (decoded_from (λ at. code_at (filled s) m.w at) m.w (c.in_ok-place.place + 5) (c.args.self.now.t + 1), E.codes, c.value_of_known-value.ensures)
