use Rattle.dealing.proofs.Opening.{dealt_shares_open_lem}
use Rattle.dealing.proofs.trial.dealt_shares_open.Goals as goal

pub returns : goal.returns
returns c = dealt_shares_open_lem
