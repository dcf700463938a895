use Rattle.protocol.proofs.Letters.{letters_read_back_lem}
use Rattle.protocol.proofs.theorems.letters_read_back.Goals as goal

pub returns : goal.returns
returns c = letters_read_back_lem
