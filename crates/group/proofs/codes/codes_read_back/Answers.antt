use Rattle.group.proofs.ReadBack.{codes_read_back_lem}
use Rattle.group.proofs.codes.codes_read_back.Goals as goal

pub returns : goal.returns
returns c = codes_read_back_lem
