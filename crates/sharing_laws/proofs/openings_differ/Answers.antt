use Rattle.sharing_laws.proofs.Logarithms.{openings_differ_lem}
use Rattle.sharing_laws.proofs.openings_differ.Goals as goal

pub returns : goal.returns
returns c = openings_differ_lem
