use Rattle.std.proofs.Common.{◌≡◌}
use Rattle.group.specs.Monoid.{power}
use Rattle.group.proofs.operation.raised.Given as goal

abbrev pub invariant-loop-left : goal.invariant-loop-left
invariant-loop-left g l =
    let o = g.O.Operation in
    o.monoid.op (o.number_of l.acc) (power o.monoid (o.number_of l.base) l.left) ≡ power o.monoid (o.number_of l.initial.base) l.n

abbrev pub decreases-loop-left : goal.decreases-loop-left
decreases-loop-left g l = l.left
