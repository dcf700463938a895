use Rattle.std.proofs.Common.{◌+◌, sym, ◌∙◌, arith}
use Rattle.group.specs.Code.{code_at}
use Rattle.sharing.specs.Codes.{decoded_from}
use Rattle.board_index.specs.State.{filled}
use Rattle.board_index.proofs.Stored.{not_stored}
use Rattle.board.specs.State.{state_of}
use Rattle.board.proofs.StoredCodes.{share_at, used_narrow, filled_length, pair_taken, pair_decoded}
use Rattle.board.proofs.ceremony.Ceremony.share_in.Goals as goal

pub returns-in_err-place : goal.returns-in_err-place
returns-in_err-place g c =
    rw c.from_residual.ensures (not_stored g.G.Group.meaning (state_of c.args.self.now) c.args.kind c.args.writer c.args.second c.args.self.now.kept c.requires.kind.0 (sym c.find.ensures ∙ c.in_err-place.was))

pub overflow_add-place : goal.overflow_add-place
overflow_add-place g c =
    let m = g.G.Group.meaning in
    let s = state_of c.args.self.now in
    let S = share_at m s c.args.kind c.args.writer c.args.second c.in_ok-place.place c.args.self.now.kept c.requires.kind.0 c.requires.kind.1 (sym c.find.ensures ∙ c.in_ok-place.was) in
    omega (arith, S.within, filled_length m s c.args.self.now.kept, used_narrow m g.G.Group.lawful s c.args.self.now.kept)

pub known-requires : goal.known-requires
known-requires g c =
    let m = g.G.Group.meaning in
    let s = state_of c.args.self.now in
    let S = share_at m s c.args.kind c.args.writer c.args.second c.in_ok-place.place c.args.self.now.kept c.requires.kind.0 c.requires.kind.1 (sym c.find.ensures ∙ c.in_ok-place.was) in
    record { within = S.within; taken = pair_taken m (filled s) (c.in_ok-place.place + 6) S.judged }

pub returns : goal.returns
returns g c =
    let m = g.G.Group.meaning in
    let s = state_of c.args.self.now in
    let S = share_at m s c.args.kind c.args.writer c.args.second c.in_ok-place.place c.args.self.now.kept c.requires.kind.0 c.requires.kind.1 (sym c.find.ensures ∙ c.in_ok-place.was) in
    (decoded_from (λ at. code_at (filled s) m.s at) m.s (c.in_ok-place.place + 6) 2, S.codes, c.known.ensures ∙ pair_decoded m (filled s) (c.in_ok-place.place + 6))
