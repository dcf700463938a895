-- What can be read off a board: the states of the seats, the words for them, the complaints, the key's code. Definitions.
use Rattle.std.specs.Prelude.{ℕ, cond, not, List, [], ◌∷◌, length, is_some, codes, Option, ◌==◌, nat_le, nat_lt}
use Rattle.group.specs.Code.{code}
use Rattle.group.specs.Meaning.{Meaning}
use Rattle.protocol.specs.declared.phase.Phase.TheVariants.{Finished}
use Rattle.protocol.specs.declared.fault.CeremonyFault.{CeremonyFault}
use Rattle.protocol.specs.declared.fault.CeremonyFault.TheVariants.{OutOfPhase, SmallOutput}
use Rattle.protocol.specs.declared.row.SeatRow.{SeatRow}
use Rattle.protocol.specs.declared.state.SeatState.{SeatState}
use Rattle.protocol.specs.declared.state.SeatState.TheVariants.{Absent, Dealt, Out, Qualified, Contested}
use Rattle.protocol.specs.Board.{Board, starts, phase_of, phase_number, deal_of, complaints, qualified, contested, key}
use Rattle.protocol.specs.Refusals.{unless, first_fault}

-- without a Deal a seat is absent; with one it has dealt until the answers are closed
unfoldable pub state_of : Meaning → Board → ℕ → SeatState
state_of m b i =
    cond (is_some (deal_of b i))
    (cond (nat_lt (starts b.taken) 4) Dealt (cond (contested m b i) Contested (cond (qualified m b i) Qualified Out)))
    Absent

abbrev pub word_of : SeatState → List ℕ
word_of Absent = codes "absent"
word_of Dealt = codes "dealt"
word_of Out = codes "out"
word_of Qualified = codes "qualified"
word_of Contested = codes "contested"

-- a row of the seat list
abbrev pub row_of : Meaning → Board → ℕ → SeatRow
row_of m b i = record { state = state_of m b i; complaints = complaints b i }

abbrev pub key_code : Meaning → Board → List ℕ
key_code m b = code m.w (key m b)

-- The tests of the calls that read, in their order.

abbrev pub opened_test : Meaning → Board → Option CeremonyFault
opened_test m b = unless (not (phase_number (phase_of m b) == 0)) (OutOfPhase 0)

unfoldable pub seat_list_fault : Meaning → Board → ℕ → Option CeremonyFault
seat_list_fault m b rows = first_fault (opened_test m b ∷ unless (nat_le b.n rows) SmallOutput ∷ [])

unfoldable pub key_fault : Meaning → Board → ℕ → Option CeremonyFault
key_fault m b room =
    first_fault (opened_test m b ∷ unless (phase_number (phase_of m b) == phase_number Finished) (OutOfPhase 0) ∷ unless (nat_le m.w room) SmallOutput ∷ [])

unfoldable pub word_fault : SeatState → ℕ → Option CeremonyFault
word_fault state room = unless (nat_le (length (word_of state)) room) SmallOutput
