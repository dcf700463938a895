use Rattle.protocol.proofs.Boards.{instances}
use Rattle.protocol.proofs.theorems.instances_stand.Goals as goal

pub returns : goal.returns
returns c = instances
