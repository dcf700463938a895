use Rattle.sharing_laws.proofs.Logarithms.{logarithms_unique_lem}
use Rattle.sharing_laws.proofs.logarithms_unique.Goals as goal

pub returns : goal.returns
returns c = logarithms_unique_lem
