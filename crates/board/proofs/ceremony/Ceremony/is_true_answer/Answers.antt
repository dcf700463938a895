use Rattle.std.proofs.Common.{◌+◌, Some, ap, ◌∙◌, arith}
use Rattle.protocol.specs.declared.kind.Kind.{Kind}
use Rattle.protocol.specs.Record.{layout_of, length_of}
use Rattle.board_index.specs.State.{board_of}
use Rattle.board.specs.State.{state_of}
use Rattle.board.proofs.Answering.{answer_judged}
use Rattle.board.proofs.ceremony.Ceremony.is_true_answer.Goals as goal

pub share_of-requires : goal.share_of-requires
share_of-requires g c =
    let m = g.G.Group.meaning in
    let size = c.requires.kind.size ∙ ap (λ (k : Kind). 2 + length_of m c.args.self.now.t (layout_of k)) c.in-Answer.is in
    record {
      within = omega (arith, size);
      judged = answer_judged m (board_of m (state_of c.args.self.now)) c.args.bytes.now c.requires.taken (c.requires.kind.named ∙ ap (λ (k : Kind). Some k) c.in-Answer.is);
    }
