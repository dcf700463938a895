use Rattle.protocol.proofs.Example.{met}
use Rattle.protocol.proofs.theorems.guarantee_is_met.Goals as goal

pub returns : goal.returns
returns c = met
