use Rattle.protocol.proofs.Seated.{calls_given_lem}
use Rattle.protocol.proofs.theorems.calls_given.Goals as goal

pub returns : goal.returns
returns c = calls_given_lem
