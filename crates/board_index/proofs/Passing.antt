-- What the tests of a record of a kind 2 to 7 leave, where it is taken.
use Rattle.std.proofs.Common.{◌≡◌, ℕ, true, false, List, None, refl}
use Rattle.std.proofs.lemmas.Bool.{eqb-true, and_from, not-true, false≢true}
use Rattle.group.specs.Meaning.{Meaning}
use Rattle.protocol.specs.declared.kind.Kind.{Kind}
use Rattle.protocol.specs.declared.kind.Kind.TheVariants as kinds
use Rattle.protocol.specs.Seats.{is_seat}
use Rattle.protocol.specs.Record.{length_field, writer_of, second_of, layout_of, length_of, read_record}
use Rattle.protocol.specs.Board.{Board, has}
use Rattle.protocol.specs.Refusals.{tests_of}
use Rattle.protocol.proofs.Faults.{unless_true, mapped_none}
use Rattle.protocol.proofs.Taking.{Silent}
use Rattle.board_index.specs.State.{is_indexed}
use Rattle.board_index.specs.Room.{may_name}
use Rattle.board_index.specs.Kept.{refused_as}

-- the record's size, seats that it may name, no record by the same, and codes that are judged
pub record Fits (m : Meaning) (b : Board) (bytes : List ℕ) (kind : Kind) : Type 0 where
  pub long : length_field bytes ≡ length_of m b.t (layout_of kind)
  pub named : may_name b.n kind (writer_of bytes) (read_record m b.t kind bytes).second ≡ true
  pub fresh : has b.taken kind (writer_of bytes) (read_record m b.t kind bytes).second ≡ false
  pub judged : refused_as m b.t (layout_of kind) bytes 0 ≡ None

pub fits : (m : Meaning) (b : Board) (bytes : List ℕ) (kind : Kind) → is_indexed kind ≡ true → Silent m b bytes kind → Fits m b bytes kind
unfolding tests_of
fits m b bytes kinds.Opening indexed a = absurd (false≢true indexed)
fits m b bytes kinds.Deal indexed a = record {
  long = eqb-true _ _ (unless_true _ _ a.0);
  named = and_from (is_seat b.n (writer_of bytes)) _ (unless_true _ _ a.1.1.0) refl;
  fresh = not-true _ (unless_true _ _ a.1.1.1.0);
  judged = mapped_none _ _ a.1.1.1.1.0;
}
fits m b bytes kinds.Complaint indexed a = record {
  long = eqb-true _ _ (unless_true _ _ a.0);
  named = and_from (is_seat b.n (writer_of bytes)) _ (unless_true _ _ a.1.1.0) (and_from (is_seat b.n (second_of bytes)) _ (unless_true _ _ a.1.1.1.0) (unless_true _ _ a.1.1.1.1.0));
  fresh = not-true _ (unless_true _ _ a.1.1.1.1.1.1.0);
  judged = refl;
}
fits m b bytes kinds.Answer indexed a = record {
  long = eqb-true _ _ (unless_true _ _ a.0);
  named = and_from (is_seat b.n (writer_of bytes)) _ (unless_true _ _ a.1.1.0) (and_from (is_seat b.n (second_of bytes)) _ (unless_true _ _ a.1.1.1.0) (unless_true _ _ a.1.1.1.1.0));
  fresh = not-true _ (unless_true _ _ a.1.1.1.1.1.1.0);
  judged = mapped_none _ _ a.1.1.1.1.1.1.1.0;
}
fits m b bytes kinds.Exposure indexed a = record {
  long = eqb-true _ _ (unless_true _ _ a.0);
  named = and_from (is_seat b.n (writer_of bytes)) _ (unless_true _ _ a.1.1.0) refl;
  fresh = not-true _ (unless_true _ _ a.1.1.1.1.0);
  judged = mapped_none _ _ a.1.1.1.1.1.0;
}
fits m b bytes kinds.Objection indexed a = record {
  long = eqb-true _ _ (unless_true _ _ a.0);
  named = and_from (is_seat b.n (writer_of bytes)) _ (unless_true _ _ a.1.1.0) (and_from (is_seat b.n (second_of bytes)) _ (unless_true _ _ a.1.1.1.0) (unless_true _ _ a.1.1.1.1.0));
  fresh = not-true _ (unless_true _ _ a.1.1.1.1.1.1.0);
  judged = mapped_none _ _ a.1.1.1.1.1.1.1.0;
}
fits m b bytes kinds.Reveal indexed a = record {
  long = eqb-true _ _ (unless_true _ _ a.0);
  named = and_from (is_seat b.n (writer_of bytes)) _ (unless_true _ _ a.1.1.0) (unless_true _ _ a.1.1.1.0);
  fresh = not-true _ (unless_true _ _ a.1.1.1.1.1.0);
  judged = mapped_none _ _ a.1.1.1.1.1.1.0;
}
fits m b bytes kinds.Close indexed a = absurd (false≢true indexed)
fits m b bytes kinds.Letter indexed a = absurd (false≢true indexed)
fits m b bytes kinds.Sheet indexed a = absurd (false≢true indexed)
