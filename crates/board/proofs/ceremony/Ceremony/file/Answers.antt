use Rattle.std.proofs.Common.{◌≡◌, sym, subst}
use Rattle.board_index.specs.State.{State, filed_at}
use Rattle.board_index.specs.Kept.{Kept}
use Rattle.board_index.proofs.Filing.{file_room, file_slot, file_kept}
use Rattle.board.specs.State.{state_of}
use Rattle.board.proofs.ceremony.Ceremony.file.Goals as goal

pub append-self-requires : goal.append-self-requires
append-self-requires g c =
    file_room g.G.Group.meaning g.G.Group.lawful (state_of c.args.self.now) c.args.bytes.now c.args.kind c.args.writer c.args.second c.args.truth c.args.self.now.kept c.requires.files

pub note-requires : goal.note-requires
note-requires g c =
    let low = file_slot g.G.Group.meaning g.G.Group.lawful (state_of c.args.self.now) c.args.bytes.now c.args.kind c.args.writer c.args.second c.args.truth c.args.self.now.kept c.requires.files in
    (c.requires.files.indexed, (low.0, (low.1, low.2)))

pub invariant_of-self : goal.invariant_of-self
invariant_of-self g c =
    let m = g.G.Group.meaning in
    let S = state_of c.args.self.now in
    let after : State = record { area = c.append-self.new.area; used = c.append-self.result; n = S.n; t = S.t; phase = S.phase; places = c.note.new.self.places; truths = c.note.new.self.truths } in
    let is : after ≡ filed_at S c.args.bytes.now c.args.kind c.args.writer c.args.second c.args.truth = cc in
    record {
      kept = subst (Kept m) (sym is)
          (file_kept m g.G.Group.lawful S c.args.bytes.now c.args.kind c.args.writer c.args.second c.args.truth c.args.self.now.kept c.requires.files);
    }
