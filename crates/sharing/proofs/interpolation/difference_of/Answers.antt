use Rattle.std.proofs.Common.{◌∙◌, arith}
use Rattle.sharing.proofs.Differences.{sum_with_negative}
use Rattle.sharing.proofs.interpolation.difference_of.Goals as goal

pub returns : goal.returns
returns g c =
    let above = g.G.Group.lawful.q_above in
    c.add.ensures
    ∙ sum_with_negative g.G.Group.meaning.q c.args.l c.args.m _ _ _ (omega (arith, c.requires.0)) (omega (arith, c.requires.1)) c.reduced.ensures c.reduced-2.ensures c.negate.ensures
