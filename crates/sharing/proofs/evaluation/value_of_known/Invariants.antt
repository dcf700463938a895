use Rattle.std.proofs.Common.{◌≡◌, ◌+◌, ◌-◌, ◌*◌}
use Rattle.sharing.specs.Value.{value_at}
use Rattle.sharing.specs.Codes.{decoded_from}
use Rattle.sharing.proofs.evaluation.value_of_known.Given as goal

abbrev pub invariant-loop-k : goal.invariant-loop-k
invariant-loop-k g l =
    let m = g.L.Linear in
    m.of l.value ≡ value_at m.sum (decoded_from (m.decoded l.codes) m.width (l.at + l.k * m.width) (l.count - l.k)) l.seat
