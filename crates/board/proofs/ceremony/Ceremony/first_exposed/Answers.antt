use Rattle.std.proofs.Common.{◌+◌, sym, refl, ◌∙◌, add-mul, one-mul, arith}
use Rattle.group.specs.Code.{code_at}
use Rattle.sharing.specs.Codes.{decoded_from}
use Rattle.protocol.specs.declared.kind.Kind.TheVariants.{Exposure}
use Rattle.board_index.specs.State.{filled}
use Rattle.board_index.proofs.Stored.{not_stored}
use Rattle.board.specs.State.{state_of}
use Rattle.board.proofs.StoredCodes.{elements_at, used_narrow, filled_length, first_taken, first_decoded}
use Rattle.board.proofs.ceremony.Ceremony.first_exposed.Goals as goal

pub returns-in_err-place : goal.returns-in_err-place
returns-in_err-place g c =
    rw c.from_residual.ensures (not_stored g.G.Group.meaning (state_of c.args.self.now) Exposure c.args.dealer 0 c.args.self.now.kept refl (sym c.find.ensures ∙ c.in_err-place.was))

pub overflow_add-place : goal.overflow_add-place
overflow_add-place g c =
    let m = g.G.Group.meaning in
    let s = state_of c.args.self.now in
    let E = elements_at m s Exposure c.args.dealer c.in_ok-place.place c.args.self.now.kept refl refl (sym c.find.ensures ∙ c.in_ok-place.was) in
    omega (arith, E.within, filled_length m s c.args.self.now.kept, used_narrow m g.G.Group.lawful s c.args.self.now.kept)

pub known-first-requires : goal.known-first-requires
known-first-requires g c =
    let m = g.G.Group.meaning in
    let s = state_of c.args.self.now in
    let E = elements_at m s Exposure c.args.dealer c.in_ok-place.place c.args.self.now.kept refl refl (sym c.find.ensures ∙ c.in_ok-place.was) in
    record {
      within = omega (arith, E.within, add-mul s.t 1 m.w, one-mul m.w);
      taken = first_taken m (filled s) (c.in_ok-place.place + 5) s.t E.judged;
    }

pub returns : goal.returns
returns g c =
    let m = g.G.Group.meaning in
    let s = state_of c.args.self.now in
    let E = elements_at m s Exposure c.args.dealer c.in_ok-place.place c.args.self.now.kept refl refl (sym c.find.ensures ∙ c.in_ok-place.was) in (
      decoded_from (λ at. code_at (filled s) m.w at) m.w (c.in_ok-place.place + 5) (s.t + 1),
      E.codes,
      c.known-first.ensures ∙ first_decoded m (filled s) (c.in_ok-place.place + 5) s.t m.unit,
    )
