use Rattle.std.proofs.Common.{◌≡◌, sym, refl, subst}
use Rattle.protocol.specs.declared.kind.Kind.TheVariants.{Close}
use Rattle.board_index.specs.State.{State, closed_at}
use Rattle.board_index.specs.Kept.{Kept}
use Rattle.board_index.proofs.Closing.{close_room, close_kept}
use Rattle.board.specs.State.{state_of}
use Rattle.board.proofs.Appending.{closes, closed, answered_as}
use Rattle.board.proofs.ceremony.Ceremony.take_close.Goals as goal

pub append-self-requires : goal.append-self-requires
append-self-requires g c =
    let m = g.G.Group.meaning in
    let S = state_of c.args.self.now in
    let none = c.requires.taken in
    close_room m g.G.Group.lawful S c.args.bytes.now c.next_phase-next.result c.args.self.now.kept
    (closes m S c.args.bytes.now c.next_phase-next.result c.requires.kind none (c.next_phase-next.ensures c.args.bytes.now c.requires.kind none))

pub invariant_of-self : goal.invariant_of-self
invariant_of-self g c =
    let m = g.G.Group.meaning in
    let S = state_of c.args.self.now in
    let bytes = c.args.bytes.now in
    let next = c.next_phase-next.result in
    let none = c.requires.taken in
    let C = closes m S bytes next c.requires.kind none (c.next_phase-next.ensures bytes c.requires.kind none) in
    let after : State = record { area = c.append-self.new.area; used = c.append-self.result; n = S.n; t = S.t; phase = next; places = S.places; truths = S.truths } in
    let is : after ≡ closed_at S bytes next = cc in
    record { kept = subst (Kept m) (sym is) (close_kept m g.G.Group.lawful S bytes next c.args.self.now.kept C) }

pub returns : goal.returns
returns g c =
    let m = g.G.Group.meaning in
    let S = state_of c.args.self.now in
    let bytes = c.args.bytes.now in
    let next = c.next_phase-next.result in
    let none = c.requires.taken in
    let C = closes m S bytes next c.requires.kind none (c.next_phase-next.ensures bytes c.requires.kind none) in
    let after : State = record { area = c.append-self.new.area; used = c.append-self.result; n = S.n; t = S.t; phase = next; places = S.places; truths = S.truths } in
    let is : after ≡ closed_at S bytes next = cc in
    record {
      answer = answered_as m S bytes Close 0 none c.requires.kind.named refl;
      after = closed m g.G.Group.lawful S bytes next c.args.self.now.kept C after is 0;
      lender = refl;
    }
