-- Sheets and letters are read back whatever sixteen numbers their label has: the label is copied, and nothing else depends on it.
use Rattle.std.proofs.Common.{◌≡◌, ℕ, zero, suc, ◌+◌, ◌*◌, ◌^◌, ◌<◌, List, [], ◌∷◌, ◌++◌, length, get_or, take, drop, replicate, sym, refl, ap, ◌∙◌, ap₂, append_assoc, arith, length-append, take_at, get_or-append-add, drop_at}
use Rattle.std.specs.List.{AllByRecursion}
use Rattle.group.specs.Code.{code, code_at}
use Rattle.group.specs.CodeLaws.{code_length}
use Rattle.group.specs.Meaning.{Meaning, Lawful}
use Rattle.sharing.specs.Codes.{decoded_from}
use Rattle.sharing.specs.LinearLaws.{join}
use Rattle.protocol.specs.Custodian.{Letter, write_letter, read_letter, Sheet, pair_codes, write_sheet}
use Rattle.protocol.specs.Recovery.{sheet_at, sheet_size}
use Rattle.protocol.specs.ReadBack.{SheetFits, SheetsReadBack, LettersReadBack}
use Rattle.protocol.proofs.Letters.{same_letter}
use Rattle.protocol.proofs.Sheets.{same_sheet}
use Rattle.protocol.proofs.SheetBytes.{code_behind, SheetReads, SheetSmall}

zeros : (n : ℕ) → AllByRecursion (λ x. x < 256) (replicate n 0)
zeros zero = tt
zeros (suc n) = (omega arith, zeros n)

abbrev blank : List ℕ
blank = replicate 16 0

-- the front of a frame with a label: twenty bytes behind what stands before
abbrev pub front : List ℕ → ℕ → ℕ → List ℕ → List ℕ
front before n kind label = before ++ (code 2 n ++ (code 2 kind ++ label))

pub front_length : (before : List ℕ) (n kind : ℕ) (label : List ℕ) → length label ≡ 16 → length (front before n kind label) ≡ length before + 20
front_length before n kind label e =
    length-append before (code 2 n ++ (code 2 kind ++ label))
    ∙ ap (λ (z : ℕ). length before + z) (length-append (code 2 n) (code 2 kind ++ label) ∙ ap₂ ◌+◌ (code_length 2 n) (length-append (code 2 kind) label ∙ ap₂ ◌+◌ (code_length 2 kind) e))

pub front_all : (before : List ℕ) (n kind : ℕ) (label rest after : List ℕ)
    → before ++ ((code 2 n ++ (code 2 kind ++ (label ++ rest))) ++ after) ≡ front before n kind label ++ (rest ++ after)
front_all before n kind label rest after = simp append_assoc

pub label_in : (before : List ℕ) (n kind : ℕ) (label rest : List ℕ) (p : ℕ) → length label ≡ 16 → p ≡ length before + 4 → take 16 (drop p (front before n kind label ++ rest)) ≡ label
label_in before n kind label rest p e at =
    let head : List ℕ = before ++ (code 2 n ++ code 2 kind) in
    let long : length head ≡ p =
    length-append before (code 2 n ++ code 2 kind) ∙ ap (λ (z : ℕ). length before + z) (length-append (code 2 n) (code 2 kind) ∙ ap₂ ◌+◌ (code_length 2 n) (code_length 2 kind)) ∙ sym at in
    let same : front before n kind label ++ rest ≡ head ++ (label ++ rest) = simp append_assoc in
    ap (λ (z : List ℕ). take 16 (drop p z)) same ∙ ap (take 16) (drop_at head (label ++ rest) p long) ∙ take_at label rest 16 e

pairs_behind : (m : Meaning) (ahead rest : List ℕ) (p k n : ℕ) → p ≡ length ahead + k
    → decoded_from {V = ℕ × ℕ} (λ place. (code_at (ahead ++ rest) m.s place, code_at (ahead ++ rest) m.s (place + m.s))) (2 * m.s) p n
    ≡ decoded_from {V = ℕ × ℕ} (λ place. (code_at rest m.s place, code_at rest m.s (place + m.s))) (2 * m.s) k n
unfolding decoded_from
pairs_behind m ahead rest p k zero e = refl
pairs_behind m ahead rest p k (suc n) e =
    let one : code_at (ahead ++ rest) m.s p ≡ code_at rest m.s k = code_behind ahead rest m.s p k e in
    let two : code_at (ahead ++ rest) m.s (p + m.s) ≡ code_at rest m.s (k + m.s) = code_behind ahead rest m.s (p + m.s) (k + m.s) (omega arith) in
    ap₂ (λ (x : ℕ × ℕ) (xs : List (ℕ × ℕ)). x ∷ xs) (join one two) (pairs_behind m ahead rest (p + 2 * m.s) (k + 2 * m.s) n (omega arith))

-- Sheets.

pub sheet_reads : (m : Meaning) → Lawful m → SheetsReadBack → (s : Sheet) → SheetSmall m s → SheetReads m s
sheet_reads m laws back s small = record { size = size; reads = reads }
  where
    plain : Sheet
    plain = record { label = blank; seat = s.seat; shares = s.shares }

    fits : SheetFits m plain
    fits = record { label = (refl, zeros 16); seat = small.seat; many = small.many; shares = small.shares }

    body : List ℕ
    body = s.seat ∷ pair_codes m.s s.shares

    n : ℕ
    n = 2 + length (blank ++ body)

    same_n : 2 + length (s.label ++ body) ≡ n
    same_n = ap (λ (z : ℕ). 2 + z) (length-append s.label body ∙ ap (λ (z : ℕ). z + length body) small.label ∙ sym (length-append blank body))

    written : write_sheet m s ≡ code 2 n ++ (code 2 17 ++ (s.label ++ body))
    written = ap (λ (z : ℕ). code 2 z ++ (code 2 17 ++ (s.label ++ body))) same_n

    long : (label : List ℕ) → length label ≡ 16 → length (code 2 n ++ (code 2 17 ++ (label ++ body))) ≡ 20 + length body
    long label e =
        length-append (code 2 n) (code 2 17 ++ (label ++ body)) ∙ ap₂ ◌+◌ (code_length 2 n) (length-append (code 2 17) (label ++ body)
        ∙ ap₂ ◌+◌ (code_length 2 17) (length-append label body ∙ ap (λ (z : ℕ). z + length body) e)) ∙ omega arith

    size : length (write_sheet m s) ≡ sheet_size m (length s.shares)
    size = ap length written ∙ long s.label small.label ∙ sym (long blank refl) ∙ (back m laws plain fits [] []).0

    reads : (before after : List ℕ) → sheet_at m (length s.shares) (before ++ (write_sheet m s ++ after)) (length before) ≡ s
    reads before after =
        let rest : List ℕ = body ++ after in
        let F : List ℕ = front before n 17 s.label in
        let F₀ : List ℕ = front before n 17 blank in
        let k : ℕ = length s.shares in
        let lf = front_length before n 17 s.label small.label in
        let lf₀ = front_length before n 17 blank refl in
        let all : before ++ (write_sheet m s ++ after) ≡ F ++ rest = ap (λ (z : List ℕ). before ++ (z ++ after)) written ∙ front_all before n 17 s.label body after in
        let all₀ : before ++ (write_sheet m plain ++ after) ≡ F₀ ++ rest = front_all before n 17 blank body after in
        let r₀ : sheet_at m k (F₀ ++ rest) (length before) ≡ plain = ap (λ (z : List ℕ). sheet_at m k z (length before)) (sym all₀) ∙ (back m laws plain fits before after).1 in
        let seat₀ : get_or (F₀ ++ rest) (length before + 20) 0 ≡ s.seat = ap (λ (x : Sheet). x.seat) r₀ in
        let shares₀ = ap (λ (x : Sheet). x.shares) r₀ in
        let at : length before + 20 ≡ length F + 0 = omega arith in
        let at₀ : length before + 20 ≡ length F₀ + 0 = omega arith in
        ap (λ (z : List ℕ). sheet_at m k z (length before)) all
        ∙ same_sheet s
        (label_in before n 17 s.label rest (length before + 4) small.label refl)
        (ap (λ (z : ℕ). get_or (F ++ rest) z 0) at ∙ get_or-append-add F rest 0 0 ∙ sym (ap (λ (z : ℕ). get_or (F₀ ++ rest) z 0) at₀ ∙ get_or-append-add F₀ rest 0 0) ∙ seat₀)
        (pairs_behind m F rest (length before + 21) 1 k (omega arith) ∙ sym (pairs_behind m F₀ rest (length before + 21) 1 k (omega arith)) ∙ shares₀)

-- Letters.

pub letter_reads : (m : Meaning) → Lawful m → LettersReadBack → (l : Letter) → length l.label ≡ 16 → l.writer < 256 → l.addressee < 256
    → l.share.0 < 256 ^ m.s → l.share.1 < 256 ^ m.s → read_letter m (write_letter m l) ≡ l
letter_reads m laws back l e w a x y =
    let plain : Letter = record { label = blank; writer = l.writer; addressee = l.addressee; share = l.share } in
    let body : List ℕ = l.writer ∷ l.addressee ∷ (code m.s l.share.0 ++ code m.s l.share.1) in
    let n : ℕ = 2 + length (blank ++ body) in
    let same_n : 2 + length (l.label ++ body) ≡ n =
    ap (λ (z : ℕ). 2 + z) (length-append l.label body ∙ ap (λ (z : ℕ). z + length body) e ∙ sym (length-append blank body)) in
    let F : List ℕ = front [] n 16 l.label in
    let F₀ : List ℕ = front [] n 16 blank in
    let lf = front_length [] n 16 l.label e in
    let lf₀ = front_length [] n 16 blank refl in
    let all : write_letter m l ≡ F ++ body = ap (λ (z : ℕ). code 2 z ++ (code 2 16 ++ (l.label ++ body))) same_n ∙ simp append_assoc in
    let all₀ : write_letter m plain ≡ F₀ ++ body = simp append_assoc in
    let S = back m laws plain (record { label = (refl, zeros 16); writer = w; addressee = a; share = (x, y) }) in
    let r₀ : read_letter m (F₀ ++ body) ≡ plain = ap (read_letter m) (sym all₀) ∙ S.says in
    let byte : (p k : ℕ) → p ≡ 20 + k → get_or (F ++ body) p 0 ≡ get_or (F₀ ++ body) p 0 = λ p k z.
    ap (λ (u : ℕ). get_or (F ++ body) u 0) {x = p} {y = length F + k} (omega arith) ∙ get_or-append-add F body k 0
    ∙ sym (ap (λ (u : ℕ). get_or (F₀ ++ body) u 0) {x = p} {y = length F₀ + k} (omega arith) ∙ get_or-append-add F₀ body k 0) in
    let number : (p k : ℕ) → p ≡ 20 + k → code_at (F ++ body) m.s p ≡ code_at (F₀ ++ body) m.s p = λ p k z.
    code_behind F body m.s p k (omega arith) ∙ sym (code_behind F₀ body m.s p k (omega arith)) in
    ap (read_letter m) all
    ∙ same_letter l
    (label_in [] n 16 l.label body 4 e refl)
    (byte 20 0 refl ∙ ap (λ (z : Letter). z.writer) r₀)
    (byte 21 1 refl ∙ ap (λ (z : Letter). z.addressee) r₀)
    (join (number 22 2 refl ∙ ap (λ (z : Letter). z.share.0) r₀) (number (22 + m.s) (2 + m.s) (omega arith) ∙ ap (λ (z : Letter). z.share.1) r₀))
