-- The guarantee, from its three parts.
use Rattle.protocol.specs.ReadBack.{RecordsReadBack, LettersReadBack, SheetsReadBack}
use Rattle.protocol.specs.Guarantee.{Guarantee}
use Rattle.protocol.proofs.Upheld.{upheld}
use Rattle.protocol.proofs.Complete.{complete}
use Rattle.protocol.proofs.Recoverable.{recoverable}

pub guarantee : RecordsReadBack → LettersReadBack → SheetsReadBack → Guarantee
guarantee records letters sheets m laws made calls = record {
  upheld = upheld records letters m laws made calls;
  complete = complete records letters m laws made calls;
  recoverable = recoverable sheets m laws made calls;
}
