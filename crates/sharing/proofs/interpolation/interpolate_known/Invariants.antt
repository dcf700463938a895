use Rattle.std.proofs.Common.{◌≡◌, ◌+◌, ◌*◌, drop}
use Rattle.sharing.specs.Interpolation.{weight, weighted, entries_from}
use Rattle.sharing.proofs.interpolation.interpolate_known.Given as goal

abbrev pub invariant-loop-k : goal.invariant-loop-k
invariant-loop-k g l =
    let m = g.L.Linear in
    let weights = weight g.G.Group.meaning.q l.seats in
    let decoded = m.decoded l.codes in
    m.sum.op (m.of l.sum) (weighted m.sum weights (entries_from decoded m.width (l.at + l.k * m.width) (drop l.k l.seats)))
    ≡ weighted m.sum weights (entries_from decoded m.width l.at l.seats)
