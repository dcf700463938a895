-- What the calls that read leave in the memory lent to them. Definitions.
use Rattle.std.specs.Prelude.{ℕ, List, ◌++◌, map, length, drop, Some, None, Option}
use Rattle.std.proofs.Math.Seq.{paste}
use Rattle.std.specs.List.{range_with_len}
use Rattle.group.specs.Meaning.{Meaning}
use Rattle.protocol.specs.declared.fault.CeremonyFault.{CeremonyFault}
use Rattle.protocol.specs.declared.row.SeatRow.{SeatRow}
use Rattle.protocol.specs.declared.state.SeatState.{SeatState}
use Rattle.protocol.specs.Board.{Board}
use Rattle.protocol.specs.Readings.{row_of, seat_list_fault, word_of, word_fault, key_code, key_fault}

-- a call that is refused changes nothing
abbrev pub unless_refused : {A : Type 0} → Option CeremonyFault → List A → List A → List A
unless_refused None after before = after
unless_refused (Some fault) after before = before

-- the rows of the seats 1 to n, and behind them the rows that were there
abbrev pub with_seats : Meaning → Board → List SeatRow → List SeatRow
with_seats m b rows = map (row_of m b) (range_with_len 1 b.n) ++ drop b.n rows

abbrev pub after_seat_list : Meaning → Board → List SeatRow → List SeatRow
after_seat_list m b rows = unless_refused (seat_list_fault m b (length rows)) (with_seats m b rows) rows

-- bytes at the start of an output, and behind them the bytes that were there
abbrev pub written_in : List ℕ → List ℕ → List ℕ
written_in out bytes = paste out 0 bytes (length bytes)

abbrev pub after_word : SeatState → List ℕ → List ℕ
after_word state out = unless_refused (word_fault state (length out)) (written_in out (word_of state)) out

abbrev pub after_key : Meaning → Board → List ℕ → List ℕ
after_key m b out = unless_refused (key_fault m b (length out)) (written_in out (key_code m b)) out
