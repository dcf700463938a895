-- The records of a file, one after another, and what posting them comes to. Definitions.
use Rattle.std.specs.Prelude.{◌≡◌, ℕ, zero, suc, ◌+◌, Bool, true, false, ◌&&◌, List, [], ◌∷◌, length, take, drop, Some, None, Option, nat_le}
use Rattle.std.specs.Borrow.{Bor}
use Rattle.group.specs.Meaning.{Meaning}
use Rattle.protocol.specs.declared.fault.CeremonyFault.{CeremonyFault}
use Rattle.protocol.specs.Record.{length_field}
use Rattle.protocol.specs.Board.{Board}
use Rattle.protocol.specs.Refusals.{posting_fault, after_posting}
use Rattle.board_index.specs.Frames.{board_in}
use Rattle.board_index.specs.State.{State}
use Rattle.std.proofs.Math.Seq.{paste}

-- whether bytes begin with a whole frame: four bytes, a length of 2 or more, and as many bytes as it says
abbrev pub begins_whole : List ℕ → Bool
begins_whole bytes = nat_le 4 (length bytes) && (nat_le 2 (length_field bytes) && nat_le (2 + length_field bytes) (length bytes))

-- the frames that begin in the bytes, up to the first that is broken; the first `left` bytes end one that began before
unfoldable pub frames_after : ℕ → List ℕ → List (List ℕ)
frames_after left [] = []
frames_after (suc left) (byte ∷ rest) = frames_after left rest
frames_after zero (byte ∷ rest) =
    elim (begins_whole (byte ∷ rest)) [
      | true ↦ take (2 + length_field (byte ∷ rest)) (byte ∷ rest) ∷ frames_after (1 + length_field (byte ∷ rest)) rest
      | false ↦ []
    ]

-- where the first broken frame begins, if one does
unfoldable pub broken_after : ℕ → ℕ → List ℕ → Option ℕ
broken_after place left [] = None
broken_after place (suc left) (byte ∷ rest) = broken_after (suc place) left rest
broken_after place zero (byte ∷ rest) =
    elim (begins_whole (byte ∷ rest)) [ true ↦ broken_after (suc place) (1 + length_field (byte ∷ rest)) rest | false ↦ Some place ]

abbrev pub frames_of : List ℕ → List (List ℕ)
frames_of file = frames_after 0 file

abbrev pub broken_at : List ℕ → Option ℕ
broken_at file = broken_after 0 0 file

abbrev pub or_refused : Option CeremonyFault → ℕ → ℕ → ℕ
or_refused None taken refused = taken
or_refused (Some fault) taken refused = refused

-- how many of the records are taken, and how many refused
unfoldable pub taken_of : Meaning → Board → List (List ℕ) → ℕ
taken_of m b [] = 0
taken_of m b (bytes ∷ rest) = or_refused (posting_fault m b bytes) 1 0 + taken_of m (after_posting m b bytes) rest

unfoldable pub refused_of : Meaning → Board → List (List ℕ) → ℕ
refused_of m b [] = 0
refused_of m b (bytes ∷ rest) = or_refused (posting_fault m b bytes) 0 1 + refused_of m (after_posting m b bytes) rest

-- the area and how much of it is used: each taken record stands behind the others
pub record Area : Type 0 where
  pub bytes : List ℕ
  pub used : ℕ

abbrev pub area_of : State → Area
area_of s = record { bytes = s.area; used = s.used }

abbrev pub board_on : Meaning → Area → Board
board_on m a = board_in m (take a.used a.bytes)

abbrev pub area_unless : Option CeremonyFault → Area → Area → Area
area_unless None after before = after
area_unless (Some fault) after before = before

abbrev pub area_after : Meaning → Area → List ℕ → Area
area_after m a bytes =
    area_unless (posting_fault m (board_on m a) bytes)
    (record { bytes = paste a.bytes a.used bytes (length bytes); used = a.used + length bytes }) a

unfoldable pub area_replayed : Meaning → Area → List (List ℕ) → Area
area_replayed m a [] = a
area_replayed m a (bytes ∷ rest) = area_replayed m (area_after m a bytes) rest

-- the frame that bytes begin with, where it is whole, and the bytes behind it
abbrev pub Splits : List ℕ → Option (Bor (List ℕ) × Bor (List ℕ)) → Type 0
Splits bytes None = begins_whole bytes ≡ false
Splits bytes (Some parts) =
    (begins_whole bytes ≡ true) × (parts.0.now ≡ take (2 + length_field bytes) bytes) × (parts.1.now ≡ drop (2 + length_field bytes) bytes)
