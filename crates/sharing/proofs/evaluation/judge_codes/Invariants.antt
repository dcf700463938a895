use Rattle.std.proofs.Common.{◌≡◌, ◌+◌, ◌-◌, ◌*◌}
use Rattle.sharing.specs.Codes.{refused_from}
use Rattle.sharing.proofs.evaluation.judge_codes.Given as goal

abbrev pub invariant-loop-k : goal.invariant-loop-k
invariant-loop-k g l =
    let m = g.L.Linear in
    let refusal = m.refusal l.codes in
    refused_from refusal m.width l.at l.count ≡ refused_from refusal m.width (l.at + l.k * m.width) (l.count - l.k)
