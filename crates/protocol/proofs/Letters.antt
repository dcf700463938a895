-- Reading a letter that was written gives it back.
use Rattle.std.proofs.Common.{◌≡◌, ℕ, ◌+◌, ◌*◌, List, [], ◌∷◌, ◌++◌, length, take, drop, sym, refl, ap, ◌∙◌, append-nil, arith, length-append, take_at}
use Rattle.group.specs.Code.{code}
use Rattle.group.specs.Meaning.{Meaning}
use Rattle.group.specs.CodeLaws.{code_length}
use Rattle.sharing.specs.LinearLaws.{join}
use Rattle.protocol.specs.declared.kind.Kind.TheVariants as kinds
use Rattle.protocol.specs.Custodian.{Letter, read_letter}
use Rattle.protocol.specs.ReadBack.{LetterFits, LettersReadBack}
use Rattle.protocol.proofs.Codes.{behind, byte_back, behind_byte, behind_code, code_back}
use Rattle.protocol.proofs.Frames.{frame_back}

pub same_letter : (l : Letter) {label : List ℕ} {writer addressee : ℕ} {share : ℕ × ℕ}
    → label ≡ l.label → writer ≡ l.writer → addressee ≡ l.addressee → share ≡ l.share
    → ◌≡◌ {A = Letter} (record { label = label; writer = writer; addressee = addressee; share = share }) l
same_letter l p q r e = λ i. record { label = p i; writer = q i; addressee = r i; share = e i }

abbrev share_bytes : Meaning → Letter → List ℕ
share_bytes m l = code m.s l.share.0 ++ code m.s l.share.1

abbrev letter_body : Meaning → Letter → List ℕ
letter_body m l = l.label ++ (l.writer ∷ l.addressee ∷ share_bytes m l)

body_length : (m : Meaning) (l : Letter) → LetterFits m l → 2 + length (letter_body m l) ≡ 20 + 2 * m.s
body_length m l fits =
    let label = fits.label.0 in
    omega (
      arith,
      length-append l.label (l.writer ∷ l.addressee ∷ share_bytes m l),
      length-append (code m.s l.share.0) (code m.s l.share.1),
      code_length m.s l.share.0,
      code_length m.s l.share.1,
    )

letter_back : (m : Meaning) (l : Letter) (bytes : List ℕ) → LetterFits m l → drop 4 bytes ≡ letter_body m l → read_letter m bytes ≡ l
letter_back m l bytes fits e =
    let a = l.share.0 in
    let b = l.share.1 in
    let share = share_bytes m l in
    let label = fits.label.0 in
    let at20 = behind bytes 4 20 l.label (l.writer ∷ l.addressee ∷ share) (ap (λ (n : ℕ). 4 + n) (sym label)) e in
    let at21 = behind_byte bytes 20 21 l.writer (l.addressee ∷ share) refl at20 in
    let at22 = behind_byte bytes 21 22 l.addressee share refl at21 in
    let last = behind_code bytes 22 m.s a (code m.s b) at22 ∙ sym (append-nil (code m.s b)) in
    same_letter l (ap (take 16) e ∙ take_at l.label (l.writer ∷ l.addressee ∷ share) 16 label)
    (byte_back bytes 20 l.writer (l.addressee ∷ share) at20)
    (byte_back bytes 21 l.addressee share at21)
    (join (code_back m.s bytes 22 a (code m.s b) fits.share.0 at22) (code_back m.s bytes (22 + m.s) b [] fits.share.1 last))

pub letters_read_back_lem : LettersReadBack
letters_read_back_lem m laws l fits =
    let long = body_length m l fits in
    let short = laws.s_to in
    let frame = frame_back kinds.Letter (letter_body m l) (omega arith) in
    record {
      framed = frame.framed;
      kind = frame.kind;
      long = frame.long ∙ long;
      says = letter_back m l _ fits frame.body;
    }
