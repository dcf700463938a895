use Rattle.std.proofs.Common.{◌≡◌, ◌+◌, ◌*◌}
use lib.Seq.{paste}
use Rattle.group.specs.Code.{code_at}
use Rattle.sharing.specs.Codes.{decoded_from}
use Rattle.sharing.specs.Commitment.{commitment}
use Rattle.protocol.specs.Record.{codes_of}
use Rattle.dealing.proofs.deal.Coefficients.write_commitments.Given as goal

abbrev pub invariant-loop-k : goal.invariant-loop-k
invariant-loop-k g l =
    let m = g.G.Group.meaning in
    l.out ≡ paste l.initial.out l.at (codes_of m.w (decoded_from (λ place. commitment m (code_at l.self.codes.now m.s place, code_at l.self.codes.now m.s (place + (l.self.t + 1) * m.s))) m.s 0 l.k)) (l.k * m.w)
