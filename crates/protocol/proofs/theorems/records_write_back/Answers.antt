use Rattle.protocol.proofs.RecordsWritten.{records_write_back_lem}
use Rattle.protocol.proofs.theorems.records_write_back.Goals as goal

pub returns : goal.returns
returns c = records_write_back_lem
