-- Reading what was written gives it back. Definitions.
use Rattle.std.specs.Prelude.{◌≡◌, ℕ, ◌+◌, ◌*◌, ◌^◌, ◌<◌, ◌≤◌, true, List, [], ◌++◌, length, Some}
use Rattle.std.specs.List.{AllByRecursion}
use Rattle.group.specs.Meaning.{Meaning, Lawful}
use Rattle.protocol.specs.declared.kind.Kind.TheVariants as kinds
use Rattle.protocol.specs.Record.{Posted, kind_with, kind_field, length_field, Layout, Elements, Second, SecondAndShare, Nothing, layout_of, length_of, read_record, write_record}
use Rattle.protocol.specs.Refusals.{is_framed}
use Rattle.protocol.specs.Custodian.{Letter, write_letter, read_letter, Sheet, write_sheet}
use Rattle.protocol.specs.Recovery.{sheet_at, sheet_size}

abbrev pub Bytes : List ℕ → Type 0
Bytes l = AllByRecursion (λ byte. byte < 256) l

-- what fits the bytes of a record of its kind, where t + 1 elements make a Deal
abbrev pub FitsAs : Meaning → ℕ → Layout → Posted → Type 0
FitsAs m t Elements r = (r.second ≡ 0) × (length r.codes ≡ t + 1) × AllByRecursion (λ n. n < 256 ^ m.w) r.codes
FitsAs m t Second r = (r.second < 256) × (r.codes ≡ [])
FitsAs m t SecondAndShare r = (r.second < 256) × (length r.codes ≡ 2) × AllByRecursion (λ n. n < 256 ^ m.s) r.codes
FitsAs m t Nothing r = (r.second ≡ 0) × (r.codes ≡ [])

abbrev pub Fits : Meaning → ℕ → Posted → Type 0
Fits m t r = (r.writer < 256) × FitsAs m t (layout_of r.kind) r

-- the bytes of a posted record: framed, of its kind, as long as its kind asks, and they say it
pub record Says (m : Meaning) (t : ℕ) (bytes : List ℕ) (r : Posted) : Type 0 where
  pub framed : is_framed bytes ≡ true
  pub kind : kind_with (kind_field bytes) ≡ Some r.kind
  pub long : length_field bytes ≡ length_of m t (layout_of r.kind)
  pub says : read_record m t r.kind bytes ≡ r

abbrev pub RecordsReadBack : Type 0
RecordsReadBack = (m : Meaning) → Lawful m → (t : ℕ) → t ≤ 15 → (r : Posted) → Fits m t r → Says m t (write_record m r) r

-- and no other bytes say it
abbrev pub RecordsWriteBack : Type 0
RecordsWriteBack = (m : Meaning) → Lawful m → (t : ℕ) → t ≤ 15 → (r : Posted) (bytes : List ℕ) → Bytes bytes → Says m t bytes r → write_record m r ≡ bytes

pub record LetterFits (m : Meaning) (l : Letter) : Type 0 where
  pub label : (length l.label ≡ 16) × Bytes l.label
  pub writer : l.writer < 256
  pub addressee : l.addressee < 256
  pub share : (l.share.0 < 256 ^ m.s) × (l.share.1 < 256 ^ m.s)

pub record LetterSays (m : Meaning) (bytes : List ℕ) (l : Letter) : Type 0 where
  pub framed : is_framed bytes ≡ true
  pub kind : kind_with (kind_field bytes) ≡ Some kinds.Letter
  pub long : length_field bytes ≡ 20 + 2 * m.s
  pub says : read_letter m bytes ≡ l

abbrev pub LettersReadBack : Type 0
LettersReadBack = (m : Meaning) → Lawful m → (l : Letter) → LetterFits m l → LetterSays m (write_letter m l) l

pub record SheetFits (m : Meaning) (s : Sheet) : Type 0 where
  pub label : (length s.label ≡ 16) × Bytes s.label
  pub seat : s.seat < 256
  pub many : length s.shares ≤ 32
  pub shares : AllByRecursion (λ share. (share.0 < 256 ^ m.s) × (share.1 < 256 ^ m.s)) s.shares

-- a sheet between other bytes
abbrev pub SheetsReadBack : Type 0
SheetsReadBack =
    (m : Meaning) → Lawful m → (s : Sheet) → SheetFits m s → (before after : List ℕ)
    → (length (write_sheet m s) ≡ sheet_size m (length s.shares))
    × (sheet_at m (length s.shares) (before ++ (write_sheet m s ++ after)) (length before) ≡ s)
