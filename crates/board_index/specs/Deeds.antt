-- What must hold where a ceremony takes a record, opens or closes a phase. Definitions.
use Rattle.std.specs.Prelude.{◌≡◌, ℕ, Bool, true, List, None}
use Rattle.group.specs.Meaning.{Meaning}
use Rattle.protocol.specs.declared.kind.Kind.{Kind}
use Rattle.protocol.specs.declared.kind.Kind.TheVariants as kinds
use Rattle.protocol.specs.declared.phase.Phase.{Phase}
use Rattle.protocol.specs.Record.{kind_number, kind_field, writer_of, read_record}
use Rattle.protocol.specs.Board.{share_in, passes1, phase_of}
use Rattle.protocol.specs.Refusals.{posting_fault, posted}
use Rattle.board_index.specs.State.{State, board_of, is_indexed}

-- nothing is said against a record of a kind 2 to 7; `truth` tells of an Answer whether it is true
pub record Files (m : Meaning) (s : State) (bytes : List ℕ) (kind : Kind) (i j : ℕ) (truth : Bool) : Type 0 where
  pub taken : posting_fault m (board_of m s) bytes ≡ None
  pub is : kind_field bytes ≡ kind_number kind
  pub indexed : is_indexed kind ≡ true
  pub writer : writer_of bytes ≡ i
  pub second : (read_record m (board_of m s).t kind bytes).second ≡ j
  pub true_answer : kind ≡ kinds.Answer → truth ≡ passes1 m (board_of m s) i j (share_in (read_record m (board_of m s).t kinds.Answer bytes).codes)

-- nothing is said against a Close, after which a phase begins
pub record Closes (m : Meaning) (s : State) (bytes : List ℕ) (phase : Phase) : Type 0 where
  pub taken : posting_fault m (board_of m s) bytes ≡ None
  pub is : kind_field bytes ≡ 8
  pub next : phase ≡ phase_of m (posted m (board_of m s) bytes)
