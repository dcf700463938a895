use Rattle.std.proofs.Common.{get_or, refl}
use Rattle.board.specs.State.{state_of}
use Rattle.board.proofs.Appending.{files, filed, answered_as}
use Rattle.board.proofs.ceremony.Ceremony.take.Goals as goal

pub file-requires : goal.file-requires
file-requires g c =
    let m = g.G.Group.meaning in
    let S = state_of c.args.self.now in
    let none = c.requires.taken in
    record {
      files = files m S c.args.bytes.now c.args.kind (get_or c.args.bytes.now 4 0) c.second_of-second.result c.is_true_answer-truth.result c.args.self.now.kept
          c.requires.kind.0 c.requires.kind.1 none refl c.second_of-second.ensures c.is_true_answer-truth.ensures;
    }

pub returns : goal.returns
returns g c =
    let m = g.G.Group.meaning in
    let S = state_of c.args.self.now in
    let bytes = c.args.bytes.now in
    let none = c.requires.taken in
    let F = files m S bytes c.args.kind (get_or bytes 4 0) c.second_of-second.result c.is_true_answer-truth.result c.args.self.now.kept
    c.requires.kind.0 c.requires.kind.1 none refl c.second_of-second.ensures c.is_true_answer-truth.ensures in
    record {
      answer = answered_as m S bytes c.args.kind c.equations_for.result none c.requires.kind.0.named c.equations_for.ensures;
      after = filed m S bytes c.args.kind (get_or bytes 4 0) c.second_of-second.result c.is_true_answer-truth.result c.args.self.now.kept g.G.Group.lawful F
          (state_of c.file.new.self) c.file.ensures.state c.equations_for.result;
      lender = c.file.ensures.lender;
    }
