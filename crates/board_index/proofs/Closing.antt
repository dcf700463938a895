-- A Close is taken: there is room for it, and what is kept of the ceremony is kept.
use Rattle.std.proofs.Common.{◌≡◌, ℕ, suc, ◌+◌, ◌≤◌, true, false, List, ◌++◌, length, is_some, refl, ap, ◌∙◌, arith}
use lib.Seq.{length-paste}
use Rattle.std.proofs.lemmas.Bool.{eqb-true}
use Rattle.group.specs.Meaning.{Meaning, Lawful}
use Rattle.protocol.specs.declared.kind.Kind.{Kind}
use Rattle.protocol.specs.declared.kind.Kind.TheVariants as kinds
use Rattle.protocol.specs.declared.phase.Phase.{Phase}
use Rattle.protocol.specs.Record.{kind_number, length_field}
use Rattle.protocol.specs.Board.{is_by, entry, starts, phase_of, phase_number}
use Rattle.protocol.specs.Refusals.{tests_of, posted}
use Rattle.protocol.proofs.Faults.{unless_true}
use Rattle.protocol.proofs.Entries.{by_kind, entry_other, starts_close}
use Rattle.protocol.proofs.Phases.{starts_phase_lem}
use Rattle.protocol.proofs.Taking as taking
use Rattle.board_index.specs.State.{State, filled, board_of, is_indexed, look, closed_at}
use Rattle.board_index.specs.Room.{left}
use Rattle.board_index.specs.Kept.{Kept}
use Rattle.board_index.specs.Deeds.{Closes}
use Rattle.board_index.proofs.Leaving.{left_closed}
use Rattle.board_index.proofs.Looking.{indexed_parts}
use Rattle.board_index.proofs.Keeping.{kept_as}
use Rattle.board_index.proofs.Posting as posting

module _ (m : Meaning) (laws : Lawful m) (s : State) (bytes : List ℕ) (phase : Phase) (k : Kept m s) (c : Closes m s bytes phase) where
  T : posting.Takes m (board_of m s) bytes kinds.Close
  T = posting.takes m (board_of m s) bytes kinds.Close c.taken c.is

  pub close_board : board_of m (closed_at s bytes phase) ≡ posted m (board_of m s) bytes
  close_board = posting.board_after_lem m s bytes k kinds.Close T

  five : length bytes ≡ 5
  unfolding tests_of
  five =
      let field : length_field bytes ≡ 3 = eqb-true _ _ (unless_true _ _ T.silent.0) in
      omega (arith, T.alone)

  -- one of the phases 1 to 6 ends
  few : starts (board_of m s).taken ≤ 6
  few =
      let ends = taking.closing m (board_of m s) bytes (record { kind = kinds.Close; named = T.named; number = T.number; silent = T.silent }) refl in
      let high = ends.high in
      let now = starts_phase_lem m (board_of m s) (phase_number (phase_of m (board_of m s))) refl (omega arith) in
      omega arith

  one_more : starts (posted m (board_of m s) bytes).taken ≡ suc (starts (board_of m s).taken)
  one_more = starts_close (taking.added m (board_of m s) bytes) (board_of m s).taken (ap kind_number (posting.added_kind m (board_of m s) bytes kinds.Close T))

  -- a Close is no record of a seat
  no_seat : (kind : Kind) (i j : ℕ) → is_indexed kind ≡ true → is_by (taking.added m (board_of m s) bytes) kind i j ≡ false
  no_seat kind i j indexed =
      let high = (indexed_parts kind indexed).1 in
      let number = ap kind_number (posting.added_kind m (board_of m s) bytes kinds.Close T) in
      by_kind (taking.added m (board_of m s) bytes) kind i j (λ e. omega arith)

  same_entry : (kind : Kind) (i j : ℕ) → is_indexed kind ≡ true → entry (posted m (board_of m s) bytes).taken kind i j ≡ entry (board_of m s).taken kind i j
  same_entry kind i j indexed = entry_other (taking.added m (board_of m s) bytes) (board_of m s).taken kind i j (no_seat kind i j indexed)

  less : left m (posted m (board_of m s) bytes) + 5 ≡ left m (board_of m s)
  less = left_closed m (board_of m s) (posted m (board_of m s) bytes) refl refl one_more few (λ kind x y indexed. ap is_some (same_entry kind x y indexed))

  pub close_room : s.used + length bytes ≤ length s.area
  close_room = let o = posting.is_open m s bytes k kinds.Close T in omega (arith, less, five, o.room, o.area)

  pub close_kept : Kept m (closed_at s bytes phase)
  close_kept =
      let o = posting.is_open m s bytes k kinds.Close T in
      let size = length-paste s.area s.used bytes (length bytes) close_room (omega arith) in
      kept_as m (closed_at s bytes phase) (posted m (board_of m s) bytes) (filled s ++ bytes) close_board (posting.filled_behind m s bytes k) (record {
        fits = omega (arith, close_room);
        records = posting.records_after_lem m s bytes k kinds.Close T;
        n = k.n;
        t = k.t;
        phase = c.next;
        few = k.few;
        low = k.low;
        places = k.places;
        truths = k.truths;
        index = λ kind i j indexed. posting.indexed_still m (board_of m s) bytes kinds.Close T (filled s) kind i j (no_seat kind i j indexed) (look s.places kind i j) (k.index kind i j indexed);
        true_answers = λ i j. k.true_answers i j ∙ posting.answered_still m (board_of m s) bytes kinds.Close T k.complaints k.answers i j (no_seat kinds.Answer i j refl);
        complaints = posting.complaints_after m (board_of m s) bytes kinds.Close T k.complaints k.answers;
        answers = posting.answers_after m (board_of m s) bytes kinds.Close T k.complaints k.answers;
        started = omega (arith, one_more);
        opening = omega (arith, o.opening);
        room = omega (arith, o.room, less, five);
        area = omega (arith, o.area);
      })
