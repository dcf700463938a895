-- What a deed leaves, for the contract of posting.
use Rattle.std.proofs.Common.{◌≡◌, ℕ, ◌+◌, Bool, true, List, length, Some, None, Ok, Option, sym, ap, ◌∙◌, subst, ap₂}
use Rattle.group.specs.Meaning.{Meaning, Lawful}
use Rattle.protocol.specs.declared.kind.Kind.{Kind}
use Rattle.protocol.specs.declared.kind.Kind.TheVariants as kinds
use Rattle.protocol.specs.declared.phase.Phase.{Phase}
use Rattle.protocol.specs.declared.phase.Phase.TheVariants.{Dealing}
use Rattle.protocol.specs.declared.fault.CeremonyFault.{CeremonyFault}
use Rattle.protocol.specs.Record.{kind_with, kind_field, read_record}
use Rattle.protocol.specs.Board.{share_in, passes1, phase_of}
use Rattle.protocol.specs.Refusals.{n_field, t_field, opening_fault, posting_fault, posted, equations_taken}
use Rattle.protocol.proofs.Entries.{kind_number_lem}
use Rattle.board_index.specs.State.{State, board_of, is_indexed, appended, filed_at, closed_at, opened_at}
use Rattle.board_index.specs.Deeds.{Files, Closes}
use Rattle.board_index.specs.Kept.{Kept}
use Rattle.board_index.proofs.Filing.{file_board, file_kept}
use Rattle.board_index.proofs.Closing.{close_board, close_kept}
use Rattle.board_index.proofs.Opening.{open_board, open_kept}
use Rattle.frames.specs.Reading.{OfKind}
use Rattle.board.specs.Posting.{answer_of, posting_answer, opening_answer, AfterPosting, AfterOpening}

-- a record against which nothing is said, by its kind
module _ (m : Meaning) (s : State) (bytes : List ℕ) (kind : Kind) (i j : ℕ) (truth : Bool) (kept : Kept m s) where
  pub files : OfKind m s.t bytes kind → is_indexed kind ≡ true → posting_fault m (board_of m s) bytes ≡ None
      → (read_record m s.t kinds.Answer bytes).writer ≡ i → j ≡ (read_record m s.t kind bytes).second
      → (kind ≡ kinds.Answer → truth ≡ passes1 m (board_of m s) (read_record m s.t kinds.Answer bytes).writer (read_record m s.t kinds.Answer bytes).second (share_in (read_record m s.t kinds.Answer bytes).codes))
      → Files m s bytes kind i j truth
  files of indexed none writer second answer = record {
    taken = none;
    is = kind_number_lem (kind_field bytes) kind of.named;
    indexed = indexed;
    writer = writer;
    second = ap (λ (t : ℕ). (read_record m t kind bytes).second) (sym kept.t) ∙ sym second;
    true_answer = λ e.
        let named : (read_record m s.t kinds.Answer bytes).second ≡ j = ap (λ (k : Kind). (read_record m s.t k bytes).second) (sym e) ∙ sym second in
        answer e ∙ ap₂ (λ (x y : ℕ). passes1 m (board_of m s) x y (share_in (read_record m s.t kinds.Answer bytes).codes)) writer named;
  }

  module _ (laws : Lawful m) (f : Files m s bytes kind i j truth) (after : State) (is : after ≡ filed_at s bytes kind i j truth) where
    pub filed : (equations : ℕ) → AfterPosting m s bytes (Ok equations) after
    filed equations =
        (record { area = ap (λ (x : State). x.area) is; used = ap (λ (x : State). x.used) is }, ap (board_of m) is ∙ file_board m laws s bytes kind i j truth kept f)

-- what posting answers for a taken record
pub answered_as : (m : Meaning) (s : State) (bytes : List ℕ) (kind : Kind) (equations : ℕ) → posting_fault m (board_of m s) bytes ≡ None → kind_with (kind_field bytes) ≡ Some kind
    → equations ≡ equations_taken (Some kind) → Ok equations ≡ posting_answer m (board_of m s) bytes
answered_as m s bytes kind equations none named e =
    ap (λ (n : ℕ). Ok n) (e ∙ ap equations_taken (sym named))
    ∙ sym (ap (λ (o : Option CeremonyFault). answer_of o (equations_taken (kind_with (kind_field bytes)))) none)

-- a Close
pub closes : (m : Meaning) (s : State) (bytes : List ℕ) (phase : Phase) → OfKind m s.t bytes kinds.Close → posting_fault m (board_of m s) bytes ≡ None
    → phase ≡ phase_of m (posted m (board_of m s) bytes) → Closes m s bytes phase
closes m s bytes phase of none next = record { taken = none; is = kind_number_lem (kind_field bytes) kinds.Close of.named; next = next }

module _ (m : Meaning) (laws : Lawful m) (s : State) (bytes : List ℕ) (phase : Phase) (kept : Kept m s) (c : Closes m s bytes phase) (after : State) (is : after ≡ closed_at s bytes phase) where
  pub closed : (equations : ℕ) → AfterPosting m s bytes (Ok equations) after
  closed equations =
      (record { area = ap (λ (x : State). x.area) is; used = ap (λ (x : State). x.used) is }, ap (board_of m) is ∙ close_board m laws s bytes phase kept c)

-- an Opening
pub opening_answered : (m : Meaning) (s : State) (bytes : List ℕ) → opening_fault m (board_of m s) (length s.area) bytes ≡ None
    → Ok (tt {0}) ≡ opening_answer m (board_of m s) (length s.area) bytes tt
opening_answered m s bytes none = sym (ap (λ (o : Option CeremonyFault). answer_of o (tt {0})) none)

module _ (m : Meaning) (laws : Lawful m) (s : State) (bytes : List ℕ) (kept : Kept m s) (none : opening_fault m (board_of m s) (length s.area) bytes ≡ None) (after : State) (is : after ≡ opened_at s bytes) where
  pub opened_as : AfterOpening {A = Unit {0}} m s bytes (Ok tt) after
  opened_as = (record { area = ap (λ (x : State). x.area) is; used = ap (λ (x : State). x.used) is }, ap (board_of m) is ∙ open_board m laws s bytes kept none)
