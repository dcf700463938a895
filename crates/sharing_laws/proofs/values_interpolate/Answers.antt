use Rattle.sharing_laws.proofs.Interpolating.{interpolates}
use Rattle.sharing_laws.proofs.values_interpolate.Goals as goal

pub returns : goal.returns
returns g c =
    let m = g.L.Linear in
    let lawful = g.G.Group.lawful in
    interpolates m.member m.sum m.commutative g.G.Group.meaning.q lawful.q_above lawful.q_prime g.met.L.Linear.exponent
