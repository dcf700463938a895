use Rattle.std.proofs.Common.{sym, ◌∙◌}
use Rattle.sharing.specs.LinearLaws.{scaled_pair, join}
use Rattle.sharing.proofs.pair.PairLinear.scale.Goals as goal

pub returns : goal.returns
returns g c =
    join c.scale.ensures c.scale-2.ensures
    ∙ sym (scaled_pair g.A.Linear.sum g.B.Linear.sum (g.G.Group.scalar_of c.args.by) (g.A.Linear.of c.args.self.left, g.B.Linear.of c.args.self.right))
