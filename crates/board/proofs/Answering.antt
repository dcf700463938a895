-- The codes of an Answer against which nothing is said were judged.
use Rattle.std.proofs.Common.{◌≡◌, ℕ, List, Some, None, refl}
use Rattle.group.specs.Meaning.{Meaning}
use Rattle.sharing.specs.Codes.{refused_from, scalar_refused}
use Rattle.protocol.specs.declared.kind.Kind.TheVariants.{Answer}
use Rattle.protocol.specs.Record.{kind_with, kind_field}
use Rattle.protocol.specs.Board.{Board}
use Rattle.protocol.specs.Refusals.{posting_fault}
use Rattle.protocol.proofs.Entries.{kind_number_lem}
use Rattle.board_index.proofs.Posting.{takes}
use Rattle.board_index.proofs.Passing.{fits}

pub answer_judged : (m : Meaning) (b : Board) (bytes : List ℕ) → posting_fault m b bytes ≡ None → kind_with (kind_field bytes) ≡ Some Answer
    → refused_from (scalar_refused m bytes) m.s 6 2 ≡ None
answer_judged m b bytes none named =
    (fits m b bytes Answer refl (takes m b bytes Answer none (kind_number_lem (kind_field bytes) Answer named)).silent).judged
