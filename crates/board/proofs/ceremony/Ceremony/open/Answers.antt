use Rattle.std.proofs.Common.{◌≡◌, sym, refl, subst, arith}
use Rattle.protocol.specs.Refusals.{n_field, t_field}
use Rattle.protocol.specs.declared.phase.Phase.TheVariants.{Dealing}
use Rattle.board_index.specs.State.{State, opened_at}
use Rattle.board_index.specs.Kept.{Kept}
use Rattle.board_index.proofs.Opening.{begins, open_room, open_kept}
use Rattle.board.specs.State.{state_of}
use Rattle.board.proofs.Appending.{opened_as, opening_answered}
use Rattle.board.proofs.ceremony.Ceremony.open.Goals as goal

pub append-self-requires : goal.append-self-requires
append-self-requires g c =
    open_room g.G.Group.meaning g.G.Group.lawful (state_of c.args.self.now) c.args.bytes.now c.args.self.now.kept (sym c.in_ok-check_opening.ensures)

pub bounds-bytes-6 : goal.bounds-bytes-6
bounds-bytes-6 g c =
    let B = begins g.G.Group.meaning (state_of c.args.self.now) c.args.bytes.now c.args.self.now.kept (sym c.in_ok-check_opening.ensures) in
    omega (arith, B.long)

pub bounds-bytes-7 : goal.bounds-bytes-7
bounds-bytes-7 g c =
    let B = begins g.G.Group.meaning (state_of c.args.self.now) c.args.bytes.now c.args.self.now.kept (sym c.in_ok-check_opening.ensures) in
    omega (arith, B.long)

pub invariant_of-self : goal.invariant_of-self
invariant_of-self g c =
    let m = g.G.Group.meaning in
    let S = state_of c.args.self.now in
    let bytes = c.args.bytes.now in
    let after : State = record { area = c.append-self.new.area; used = c.append-self.result; n = n_field bytes; t = t_field bytes; phase = Dealing; places = S.places; truths = S.truths } in
    let is : after ≡ opened_at S bytes = cc in
    record { kept = subst (Kept m) (sym is) (open_kept m g.G.Group.lawful S bytes c.args.self.now.kept (sym c.in_ok-check_opening.ensures)) }

pub returns : goal.returns
returns g c =
    let m = g.G.Group.meaning in
    let S = state_of c.args.self.now in
    let bytes = c.args.bytes.now in
    let none = sym c.in_ok-check_opening.ensures in
    let after : State = record { area = c.append-self.new.area; used = c.append-self.result; n = n_field bytes; t = t_field bytes; phase = Dealing; places = S.places; truths = S.truths } in
    let is : after ≡ opened_at S bytes = cc in
    record {
      answer = opening_answered m S bytes none;
      after = opened_as m g.G.Group.lawful S bytes c.args.self.now.kept none after is;
      lender = refl;
    }
