-- What a ceremony holds: its area, how much of it is used, and the index of the taken records. Definitions.
use Rattle.std.specs.Prelude.{ℕ, zero, suc, ◌+◌, ◌-◌, ◌*◌, Bool, false, cond, ◌&&◌, List, length, take, Some, None, Option, nat_le, slice_index, slice_index_or, slice_set}
use Rattle.std.proofs.Math.Seq.{paste}
use Rattle.group.specs.Meaning.{Meaning}
use Rattle.protocol.specs.declared.kind.Kind.{Kind}
use Rattle.protocol.specs.declared.kind.Kind.TheVariants.{Opening, Deal, Complaint, Answer, Exposure, Objection, Reveal, Close, Letter, Sheet}
use Rattle.protocol.specs.declared.phase.Phase.{Phase}
use Rattle.protocol.specs.declared.phase.Phase.TheVariants.{Dealing}
use Rattle.protocol.specs.Record.{kind_number}
use Rattle.protocol.specs.Board.{Board}
use Rattle.protocol.specs.Refusals.{n_field, t_field}
use Rattle.board_index.specs.Frames.{board_in}

-- The index has a place for each kind 2 to 7, writer and second seat, where 0 stands for no record;
-- and for each dealer and complainer whether the Answer is true.
pub record State : Type 0 where
  pub area : List ℕ
  pub used : ℕ
  pub n : ℕ
  pub t : ℕ
  pub phase : Phase
  pub places : List ℕ
  pub truths : List Bool

-- the bytes of the taken records
abbrev pub filled : State → List ℕ
filled s = take s.used s.area

abbrev pub board_of : Meaning → State → Board
board_of m s = board_in m (filled s)

-- kinds that are posted under a seat
abbrev pub is_indexed : Kind → Bool
is_indexed kind = nat_le 2 (kind_number kind) && nat_le (kind_number kind) 7

-- a table's row has the numbers 0 to 32
abbrev pub pair_slot : ℕ → ℕ → ℕ
pair_slot i j = i * 33 + j

abbrev pub slot : Kind → ℕ → ℕ → ℕ
slot kind i j = (kind_number kind - 2) * 1089 + pair_slot i j

abbrev pub is_low : ℕ → ℕ → Bool
is_low i j = nat_le i 32 && nat_le j 32

abbrev pub unless_zero : ℕ → Option ℕ
unless_zero zero = None
unless_zero (suc place) = Some (suc place)

-- where the record of a kind, a writer and a second seat begins
unfoldable pub look : List ℕ → Kind → ℕ → ℕ → Option ℕ
look places kind i j = cond (is_low i j) (unless_zero (slice_index places (slot kind i j))) None

-- whether the Answer of i to j is taken and true
unfoldable pub truth_at : List Bool → ℕ → ℕ → Bool
truth_at truths i j = cond (is_low i j) (slice_index_or truths (pair_slot i j) false) false

abbrev pub noted_truths : Kind → List Bool → ℕ → ℕ → Bool → List Bool
noted_truths Opening truths i j truth = truths
noted_truths Deal truths i j truth = truths
noted_truths Complaint truths i j truth = truths
noted_truths Answer truths i j truth = slice_set truths (pair_slot i j) truth
noted_truths Exposure truths i j truth = truths
noted_truths Objection truths i j truth = truths
noted_truths Reveal truths i j truth = truths
noted_truths Close truths i j truth = truths
noted_truths Letter truths i j truth = truths
noted_truths Sheet truths i j truth = truths

-- What the deeds leave: a record behind the others, the other bytes of the area as they were.

abbrev pub appended : State → List ℕ → List ℕ
appended s bytes = paste s.area s.used bytes (length bytes)

-- a record of a kind 2 to 7, noted in the index; `truth` counts for an Answer alone
abbrev pub filed_at : State → List ℕ → Kind → ℕ → ℕ → Bool → State
filed_at s bytes kind i j truth = record {
  area = appended s bytes;
  used = s.used + length bytes;
  n = s.n;
  t = s.t;
  phase = s.phase;
  places = slice_set s.places (slot kind i j) s.used;
  truths = noted_truths kind s.truths i j truth;
}

-- a Close, after which a phase begins
abbrev pub closed_at : State → List ℕ → Phase → State
closed_at s bytes phase = record {
  area = appended s bytes;
  used = s.used + length bytes;
  n = s.n;
  t = s.t;
  phase = phase;
  places = s.places;
  truths = s.truths;
}

abbrev pub opened_at : State → List ℕ → State
opened_at s bytes = record {
  area = appended s bytes;
  used = s.used + length bytes;
  n = n_field bytes;
  t = t_field bytes;
  phase = Dealing;
  places = s.places;
  truths = s.truths;
}
