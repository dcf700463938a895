-- Reading a sheet that was written, among other bytes, gives it back.
use Rattle.std.proofs.Common.{◌≡◌, ℕ, ◌+◌, List, ◌∷◌, ◌++◌, length, take, drop, sym, ap, ◌∙◌, append_assoc, arith, length-append, drop-drop, take_at}
use lib.Seq.{drop-append_seam}
use Rattle.group.specs.Meaning.{Meaning}
use Rattle.protocol.specs.declared.kind.Kind.TheVariants as kinds
use Rattle.protocol.specs.Custodian.{Sheet, pair_codes, write_sheet}
use Rattle.protocol.specs.Recovery.{sheet_at, sheet_size}
use Rattle.protocol.specs.ReadBack.{SheetFits, SheetsReadBack}
use Rattle.protocol.proofs.Codes.{behind, byte_back, behind_byte, pairs_back, pairs_length}
use Rattle.protocol.proofs.Frames.{framed_length, body_behind}

pub same_sheet : (s : Sheet) {label : List ℕ} {seat : ℕ} {shares : List (ℕ × ℕ)} → label ≡ s.label → seat ≡ s.seat → shares ≡ s.shares
    → ◌≡◌ {A = Sheet} (record { label = label; seat = seat; shares = shares }) s
same_sheet s p q e = λ i. record { label = p i; seat = q i; shares = e i }

sheet_length : (m : Meaning) (s : Sheet) → SheetFits m s → length (write_sheet m s) ≡ sheet_size m (length s.shares)
sheet_length m s fits =
    let shares = pair_codes m.s s.shares in
    let label = fits.label.0 in
    let body = length-append s.label (s.seat ∷ shares) in
    let pairs = pairs_length m.s s.shares in
    framed_length kinds.Sheet (s.label ++ (s.seat ∷ shares)) ∙ omega arith

sheet_back : (m : Meaning) (s : Sheet) (bytes : List ℕ) (at : ℕ) (after : List ℕ) → SheetFits m s → drop at bytes ≡ write_sheet m s ++ after
    → sheet_at m (length s.shares) bytes at ≡ s
sheet_back m s bytes at after fits e =
    let shares = pair_codes m.s s.shares in
    let label = fits.label.0 in
    let body = s.label ++ (s.seat ∷ shares) in
    let rest = s.seat ∷ (shares ++ after) in
    let at4 : drop (at + 4) bytes ≡ s.label ++ rest =
    sym (drop-drop 4 at bytes) ∙ ap (drop 4) e ∙ body_behind kinds.Sheet body after ∙ append_assoc s.label (s.seat ∷ shares) after in
    let place20 : at + 20 ≡ at + 4 + length s.label = omega arith in
    let place21 : at + 21 ≡ at + 20 + 1 = omega arith in
    let at20 = behind bytes (at + 4) (at + 20) s.label rest place20 at4 in
    let at21 = behind_byte bytes (at + 20) (at + 21) s.seat (shares ++ after) place21 at20 in
    same_sheet s (ap (take 16) at4 ∙ take_at s.label rest 16 label)
    (byte_back bytes (at + 20) s.seat (shares ++ after) at20)
    (pairs_back m.s s.shares bytes (at + 21) after fits.shares at21)

pub sheets_read_back_lem : SheetsReadBack
sheets_read_back_lem m laws s fits before after =
    (sheet_length m s fits, sheet_back m s (before ++ (write_sheet m s ++ after)) (length before) after fits (drop-append_seam before (write_sheet m s ++ after)))
