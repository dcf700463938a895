-- Reading the bytes of a record: frame, kind, length for the kind. Definitions.
use Rattle.std.specs.Prelude.{◌≡◌, ℕ, ◌+◌, Bool, true, false, ◌&&◌, List, length, Some, Ok, Err, Result, ◌==◌, nat_le}
use Rattle.group.specs.Meaning.{Meaning}
use Rattle.protocol.specs.declared.kind.Kind.{Kind}
use Rattle.protocol.specs.declared.fault.RecordFault.{RecordFault}
use Rattle.protocol.specs.declared.fault.RecordFault.TheVariants as records
use Rattle.protocol.specs.Seats.{holds}
use Rattle.protocol.specs.Record.{kind_number, kind_with, kind_field, length_field, layout_of, length_of}
use Rattle.protocol.specs.Refusals.{is_framed}

-- kinds that are posted
abbrev pub is_posted : Kind → Bool
is_posted kind = nat_le 2 (kind_number kind) && nat_le (kind_number kind) 8

-- the bytes of one record of a kind that is posted
pub record OfKind (m : Meaning) (t : ℕ) (bytes : List ℕ) (kind : Kind) : Type 0 where
  pub framed : is_framed bytes ≡ true
  pub named : kind_with (kind_field bytes) ≡ Some kind
  pub postable : is_posted kind ≡ true
  pub long : length_field bytes ≡ length_of m t (layout_of kind)
  pub size : length bytes ≡ 2 + length_of m t (layout_of kind)

-- what is wrong with bytes that are none; the frame comes first, then the kind, then the length
abbrev pub Misread : Meaning → ℕ → List ℕ → RecordFault → Type 0
Misread m t bytes (records.Frame place) = (is_framed bytes ≡ false) × (place ≡ 0)
Misread m t bytes (records.Kind place) = (is_framed bytes ≡ true) × (holds (kind_with (kind_field bytes)) is_posted ≡ false) × (place ≡ 2)
Misread m t bytes (records.Length place) =
    (is_framed bytes ≡ true) × ((kind : Kind) × (kind_with (kind_field bytes) ≡ Some kind) × (is_posted kind ≡ true)
    × ((length_field bytes == length_of m t (layout_of kind)) ≡ false)) × (place ≡ 0)
Misread m t bytes (records.Code fault) = ⊥

abbrev pub ReadsKind : Meaning → ℕ → List ℕ → Result Kind RecordFault → Type 0
ReadsKind m t bytes (Ok kind) = OfKind m t bytes kind
ReadsKind m t bytes (Err fault) = Misread m t bytes fault

abbrev pub ReadsFrame : List ℕ → Result ℕ RecordFault → Type 0
ReadsFrame bytes (Ok number) = (is_framed bytes ≡ true) × (number ≡ kind_field bytes) × (length bytes ≡ 2 + length_field bytes)
ReadsFrame bytes (Err fault) = (is_framed bytes ≡ false) × (fault ≡ records.Frame 0)
