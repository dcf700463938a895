-- What the calls of a ceremony answer, and what they leave. Definitions.
use Rattle.std.specs.Prelude.{◌≡◌, ℕ, ◌+◌, true, false, List, [], ◌∷◌, length, Some, None, Ok, Err, Option, Result, slice_index, slice_index_or}
use Rattle.group.specs.declared.fault.GroupFault.{GroupFault}
use Rattle.group.specs.Meaning.{Meaning, products}
use Rattle.sharing.specs.Value.{value_at}
use Rattle.protocol.specs.declared.fault.RecordFault.{RecordFault}
use Rattle.protocol.specs.declared.fault.RecordFault.TheVariants as records
use Rattle.protocol.specs.declared.fault.CeremonyFault.{CeremonyFault}
use Rattle.protocol.specs.declared.fault.CeremonyFault.TheVariants.{NoSeat}
use Rattle.protocol.specs.Seats.{is_seat, mapped}
use Rattle.protocol.specs.Record.{kind_with, kind_field, writer_of, second_of}
use Rattle.protocol.specs.Board.{Board, share_in}
use Rattle.protocol.specs.Refusals.{first_fault, seat_test, differ_test, posting_fault, posted, opening_fault, opened, equations_taken}
use Rattle.board_index.specs.State.{State, board_of, appended}

-- what a call says against its input
abbrev pub fault_of : {A F : Type 0} → Result A F → Option F
fault_of (Ok a) = None
fault_of (Err fault) = Some fault

abbrev pub answer_of : {A F : Type 0} → Option F → A → Result A F
answer_of None a = Ok a
answer_of (Some fault) a = Err fault

-- posting answers how many equations it tested for the taken record
abbrev pub posting_answer : Meaning → Board → List ℕ → Result ℕ CeremonyFault
posting_answer m b bytes = answer_of (posting_fault m b bytes) (equations_taken (kind_with (kind_field bytes)))

abbrev pub opening_answer : {A : Type 0} → Meaning → Board → ℕ → List ℕ → A → Result A CeremonyFault
opening_answer m b area bytes done = answer_of (opening_fault m b area bytes) done

-- the taken record stands behind the others, and the other bytes of the area are as they were; a refusal changes nothing
pub record Appends (s : State) (bytes : List ℕ) (after : State) : Type 0 where
  pub area : after.area ≡ appended s bytes
  pub used : after.used ≡ s.used + length bytes

abbrev pub AfterPosting : {A : Type 0} → Meaning → State → List ℕ → Result A CeremonyFault → State → Type 0
AfterPosting m s bytes (Ok a) after = Appends s bytes after × (board_of m after ≡ posted m (board_of m s) bytes)
AfterPosting m s bytes (Err fault) after = after ≡ s

abbrev pub AfterOpening : {A : Type 0} → Meaning → State → List ℕ → Result A CeremonyFault → State → Type 0
AfterOpening m s bytes (Ok a) after = Appends s bytes after × (board_of m after ≡ opened bytes)
AfterOpening m s bytes (Err fault) after = after ≡ s

-- the value at a seat of the elements in a record, where there is one
abbrev pub ValueIn : {E : Type 0} → Meaning → (E → ℕ) → Option (List ℕ) → ℕ → Option E → Type 0
ValueIn m number_of elements seat None = elements ≡ None
ValueIn m number_of elements seat (Some value) =
    (codes : List ℕ) × (elements ≡ Some codes) × (number_of value ≡ value_at (products m) codes seat)

-- the share in a record, where there is one
abbrev pub ShareIn : {S : Type 0} → (S → ℕ × ℕ) → Option (List ℕ) → Option S → Type 0
ShareIn share_of codes None = codes ≡ None
ShareIn share_of codes (Some share) = (list : List ℕ) × (codes ≡ Some list) × (share_of share ≡ share_in list)

-- the first element in a record, where there is one
abbrev pub FirstIn : {E : Type 0} → ℕ → (E → ℕ) → Option (List ℕ) → Option E → Type 0
FirstIn unit number_of codes None = codes ≡ None
FirstIn unit number_of codes (Some value) = (list : List ℕ) × (codes ≡ Some list) × (number_of value ≡ slice_index_or list 0 unit)

-- the seat at a place, where it is one of the ceremony's
abbrev pub SeatAt : ℕ → List ℕ → ℕ → Result ℕ CeremonyFault → Type 0
SeatAt n bytes place (Ok seat) = (seat ≡ slice_index bytes place) × (is_seat n seat ≡ true)
SeatAt n bytes place (Err fault) = (is_seat n (slice_index bytes place) ≡ false) × (fault ≡ NoSeat place)

-- writer and second seat, where they are two of the ceremony's
abbrev pub TwoSeats : Board → List ℕ → Result (ℕ × ℕ) CeremonyFault → Type 0
TwoSeats b bytes (Ok seats) =
    (seats.0 ≡ writer_of bytes) × (seats.1 ≡ second_of bytes)
    × (first_fault (seat_test b (writer_of bytes) 4 ∷ seat_test b (second_of bytes) 5 ∷ differ_test bytes ∷ []) ≡ None)
TwoSeats b bytes (Err fault) =
    first_fault (seat_test b (writer_of bytes) 4 ∷ seat_test b (second_of bytes) 5 ∷ differ_test bytes ∷ []) ≡ Some fault

-- what judging the codes of a record answers
abbrev pub JudgesRecord : {A : Type 0} → Option GroupFault → Result A RecordFault → Type 0
JudgesRecord refusal (Ok a) = refusal ≡ None
JudgesRecord refusal (Err fault) = mapped (λ e. records.Code e) refusal ≡ Some fault
