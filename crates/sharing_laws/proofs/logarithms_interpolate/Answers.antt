use Rattle.sharing_laws.proofs.Openings.{logarithms_interpolate_lem}
use Rattle.sharing_laws.proofs.logarithms_interpolate.Goals as goal

pub returns : goal.returns
returns c = logarithms_interpolate_lem
