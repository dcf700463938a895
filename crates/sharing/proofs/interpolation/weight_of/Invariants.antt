use Rattle.std.proofs.Common.{◌≡◌, ◌*◌, ◌%◌, drop}
use Rattle.sharing.specs.Interpolation.{weight}
use Rattle.sharing.proofs.interpolation.weight_of.Given as goal

abbrev pub invariant-loop-l : goal.invariant-loop-l
invariant-loop-l g l =
    let q = g.G.Group.meaning.q in
    (g.G.Group.scalar_of l.product * weight q (drop l.l-index l.seats) l.m) % q ≡ weight q l.seats l.m
