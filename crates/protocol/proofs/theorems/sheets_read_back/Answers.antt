use Rattle.protocol.proofs.Sheets.{sheets_read_back_lem}
use Rattle.protocol.proofs.theorems.sheets_read_back.Goals as goal

pub returns : goal.returns
returns c = sheets_read_back_lem
