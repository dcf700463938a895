use Rattle.std.proofs.Common.{sym, ap, ◌∙◌}
use Rattle.sharing.specs.LinearLaws.{scaled_scalar}
use Rattle.sharing.proofs.scalar.ScalarLinear.scale.Goals as goal

pub returns : goal.returns
returns g c =
    ap g.G.Group.scalar_of c.new.ensures
    ∙ c.multiply.ensures
    ∙ sym (scaled_scalar g.G.Group.meaning.q (g.G.Group.scalar_of c.args.by) (g.G.Group.scalar_of c.args.self.value))
