use Rattle.protocol.proofs.Records.{records_read_back_lem}
use Rattle.protocol.proofs.Letters.{letters_read_back_lem}
use Rattle.protocol.proofs.Sheets.{sheets_read_back_lem}
use Rattle.protocol.proofs.Whole.{guarantee}
use Rattle.protocol.proofs.theorems.guarantee_holds.Goals as goal

pub returns : goal.returns
returns c = guarantee records_read_back_lem letters_read_back_lem sheets_read_back_lem
