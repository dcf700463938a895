use Rattle.protocol.proofs.Records.{records_read_back_lem}
use Rattle.protocol.proofs.theorems.records_read_back.Goals as goal

pub returns : goal.returns
returns c = records_read_back_lem
