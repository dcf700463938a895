use Rattle.sharing_laws.proofs.Openings.{openings_interpolate_lem}
use Rattle.sharing_laws.proofs.openings_interpolate.Goals as goal

pub returns : goal.returns
returns c = openings_interpolate_lem
