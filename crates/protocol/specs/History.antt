-- Histories: lists of calls on one ceremony and its custodians, and which seats were faithful in them. Definitions.
use Rattle.std.specs.Prelude.{◌≡◌, ℕ, Bool, true, cond, ◌⊎◌, List, [], ◌∷◌, is_some, Some, None, Option, ◌==◌, ◌≢◌}
use Rattle.group.specs.Meaning.{Meaning}
use Rattle.protocol.specs.declared.phase.Phase.TheVariants.{Dealing}
use Rattle.protocol.specs.declared.fault.CustodianFault.{CustodianFault}
use Rattle.protocol.specs.Seats.{mapped}
use Rattle.protocol.specs.Record.{kind_field, writer_of}
use Rattle.protocol.specs.Board.{Board, empty, phase_of}
use Rattle.protocol.specs.Refusals.{posting_fault, after_opening, after_posting}
use Rattle.protocol.specs.Custodian.{Custodian, seating_fault, seated, writing_fault, write_letter, letter_to, taking_fault, read_letter, with_letter, owing_fault, owed_bytes, owed}

-- A call, with all that is handed to it: bytes, numbers, and the sizes of outputs and scratch. A custodian is named by a number.
pub data Call : Type 0 where
  Open : List ℕ → Call
  Post : List ℕ → Call
  SeatAt : ℕ → ℕ → List ℕ → Call
  WriteLetter : ℕ → ℕ → ℕ → Call
  TakeLetter : ℕ → List ℕ → Call
  Owe : ℕ → ℕ → Call
  DrawSheet : ℕ → ℕ → Call
  Recover : ℕ → List ℕ → Call

-- what the ceremony and the custodians were made over: the sizes of the area and of each store
pub record Made : Type 0 where
  pub area : ℕ
  pub store : ℕ → ℕ

-- what the calls have come to
pub record State : Type 0 where
  pub board : Board
  pub custodians : ℕ → Option Custodian

abbrev pub at_first : State
at_first = record { board = empty; custodians = λ k. None }

-- the custodian k becomes another
abbrev pub with_custodian : State → ℕ → Option Custodian → State
with_custodian state k custodian = record { board = state.board; custodians = λ other. cond (other == k) custodian (state.custodians other) }

-- a refused call changes nothing
abbrev pub unless_refused : Option CustodianFault → State → State → State
unless_refused None after before = after
unless_refused (Some fault) after before = before

unfoldable pub after_call : Meaning → Made → State → Call → State
after_call m made state (Open bytes) = record { board = after_opening m state.board made.area bytes; custodians = state.custodians }
after_call m made state (Post bytes) = record { board = after_posting m state.board bytes; custodians = state.custodians }
after_call m made state (SeatAt k seat coefficients) =
    unless_refused (seating_fault m state.board (state.custodians k) (made.store k) seat coefficients)
    (with_custodian state k (Some (seated m state.board seat coefficients))) state
after_call m made state (WriteLetter k addressee room) = state
after_call m made state (TakeLetter k bytes) =
    unless_refused (taking_fault m state.board (state.custodians k) bytes)
    (with_custodian state k (mapped (with_letter (read_letter m bytes)) (state.custodians k))) state
after_call m made state (Owe k room) = state
after_call m made state (DrawSheet k room) = state
after_call m made state (Recover scratch bytes) = state

-- A history is the list of the calls, the newest first.
unfoldable pub after : Meaning → Made → List Call → State
after m made [] = at_first
after m made (call ∷ earlier) = after_call m made (after m made earlier) call

-- What was drawn up and taken in a history.

-- the custodian k drew up the bytes of a record in one of the calls
abbrev pub DrewUp : Meaning → Made → List Call → ℕ → List ℕ → Type 0
DrewUp m made [] k bytes = ⊥
DrewUp m made (call ∷ earlier) k bytes =
    ((room : ℕ) × (call ≡ Owe k room)
    × (owing_fault m (after m made earlier).board ((after m made earlier).custodians k) room ≡ None)
    × (owed_bytes m (after m made earlier).board ((after m made earlier).custodians k) ≡ Some bytes))
    ⊎ DrewUp m made earlier k bytes

-- the custodian k wrote the bytes of a letter in one of the calls
abbrev pub Wrote : Meaning → Made → List Call → ℕ → List ℕ → Type 0
Wrote m made [] k bytes = ⊥
Wrote m made (call ∷ earlier) k bytes =
    ((addressee : ℕ) × (room : ℕ) × (c : Custodian) × (call ≡ WriteLetter k addressee room)
    × ((after m made earlier).custodians k ≡ Some c)
    × (writing_fault m (after m made earlier).board (Some c) addressee room ≡ None)
    × (bytes ≡ write_letter m (letter_to m (after m made earlier).board c addressee)))
    ⊎ Wrote m made earlier k bytes

-- P holds of each record that posting took, with the calls before it
abbrev pub EachPosted : Meaning → Made → (List Call → List ℕ → Type 0) → List Call → Type 0
EachPosted m made P [] = Unit {0}
EachPosted m made P (call ∷ earlier) =
    ((bytes : List ℕ) → call ≡ Post bytes → posting_fault m (after m made earlier).board bytes ≡ None → P earlier bytes)
    × EachPosted m made P earlier

-- P holds of each letter that a custodian took, with the calls before it
abbrev pub EachLetter : Meaning → Made → (List Call → List ℕ → Type 0) → List Call → Type 0
EachLetter m made P [] = Unit {0}
EachLetter m made P (call ∷ earlier) =
    ((k : ℕ) (bytes : List ℕ) → call ≡ TakeLetter k bytes
    → taking_fault m (after m made earlier).board ((after m made earlier).custodians k) bytes ≡ None → P earlier bytes)
    × EachLetter m made P earlier

abbrev pub IsClose : List ℕ → Type 0
IsClose bytes = kind_field bytes ≡ 8

-- After the calls, the seats that `set` picks out are faithful; `of` gives the custodian of each.
pub record Faithful (m : Meaning) (made : Made) (calls : List Call) (set : ℕ → Bool) (of : ℕ → ℕ) : Type 0 where
  -- exactly one custodian is seated at each of them
  pub seated_one : (i : ℕ) → set i ≡ true → (c : Custodian) × ((after m made calls).custodians (of i) ≡ Some c) × (c.seat ≡ i)
  pub no_other : (i : ℕ) → set i ≡ true → (k : ℕ) (c : Custodian) → (after m made calls).custodians k ≡ Some c → c.seat ≡ i → k ≡ of i
  -- under them posting took only records, and custodians only letters, that their custodian had drawn up in earlier calls, byte for byte
  pub own_records : EachPosted m made (λ earlier bytes. (IsClose bytes → ⊥) → set (writer_of bytes) ≡ true → DrewUp m made earlier (of (writer_of bytes)) bytes) calls
  pub own_letters : EachLetter m made (λ earlier bytes. set (read_letter m bytes).writer ≡ true → Wrote m made earlier (of (read_letter m bytes).writer) bytes) calls
  -- at each taken Close none of them owed anything
  pub nothing_owed : EachPosted m made (λ earlier bytes. IsClose bytes → (i : ℕ) → set i ≡ true → (c : Custodian)
      → (after m made earlier).custodians (of i) ≡ Some c → owed m (after m made earlier).board c ≡ None) calls
  -- when phase 1 ended, each of them had taken the letter of every other
  pub letters_taken : EachPosted m made (λ earlier bytes. IsClose bytes → phase_of m (after m made earlier).board ≡ Dealing
      → (i j : ℕ) → set i ≡ true → set j ≡ true → (i ≢ j)
      → (c : Custodian) × ((after m made earlier).custodians (of j) ≡ Some c) × (is_some (c.letters i) ≡ true)) calls
