-- Reading a record that was written gives it back.
use Rattle.std.proofs.Common.{◌≡◌, ℕ, ◌+◌, ◌*◌, ◌^◌, ◌<◌, ◌≤◌, List, [], ◌∷◌, length, drop, sym, refl, ap, ◌∙◌, append-nil, mul-le-mul, arith}
use Rattle.std.specs.List.{AllByRecursion}
use Rattle.group.specs.Code.{code_at}
use Rattle.group.specs.Meaning.{Meaning, Lawful}
use Rattle.sharing.specs.Codes.{decoded_from}
use Rattle.protocol.specs.Record.{Posted, Layout, Elements, Second, SecondAndShare, Nothing, layout_of, length_of, read_as, body_as, codes_of}
use Rattle.protocol.specs.ReadBack.{FitsAs, RecordsReadBack}
use Rattle.protocol.proofs.Codes.{byte_back, behind_byte, codes_back, codes_length}
use Rattle.protocol.proofs.Frames.{frame_back}

-- a layout's body is as long as it asks, and short
body_length : (m : Meaning) (t : ℕ) (layout : Layout) (r : Posted) → FitsAs m t layout r → 2 + length (body_as m layout r) ≡ length_of m t layout
body_length m t Elements r fits =
    let long = codes_length m.w r.codes in
    let many : length r.codes * m.w ≡ (t + 1) * m.w = ap (λ (k : ℕ). k * m.w) fits.1 in
    omega arith
body_length m t Second r fits = refl
body_length m t SecondAndShare r fits =
    let long = codes_length m.s r.codes in
    let many : length r.codes * m.s ≡ 2 * m.s = ap (λ (k : ℕ). k * m.s) fits.1 in
    omega arith
body_length m t Nothing r fits = refl

length_small : (m : Meaning) → Lawful m → (t : ℕ) → t ≤ 15 → (layout : Layout) → length_of m t layout < 65536
length_small m laws t few Elements =
    let one : t + 1 ≤ 16 = omega arith in
    let all : (t + 1) * m.w ≤ 16 * 4 = mul-le-mul one laws.w_to in
    omega arith
length_small m laws t few Second = omega arith
length_small m laws t few SecondAndShare = let short = laws.s_to in omega arith
length_small m laws t few Nothing = omega arith

same_posted : (r : Posted) {writer second : ℕ} {codes : List ℕ} → writer ≡ r.writer → second ≡ r.second → codes ≡ r.codes
    → ◌≡◌ {A = Posted} (record { kind = r.kind; writer = writer; second = second; codes = codes }) r
same_posted r p q e = λ i. record { kind = r.kind; writer = p i; second = q i; codes = e i }

-- codes that end the bytes, as many as the layout asks for
codes_at_end : (w count : ℕ) (ns bytes : List ℕ) (at : ℕ) → length ns ≡ count → AllByRecursion (λ n. n < 256 ^ w) ns → drop at bytes ≡ codes_of w ns
    → decoded_from (λ place. code_at bytes w place) w at count ≡ ns
codes_at_end w count ns bytes at many small e =
    ap (decoded_from (λ place. code_at bytes w place) w at) (sym many) ∙ codes_back w ns bytes at [] small (e ∙ sym (append-nil (codes_of w ns)))

read_back : (m : Meaning) (t : ℕ) (layout : Layout) (r : Posted) (bytes : List ℕ) → FitsAs m t layout r → drop 4 bytes ≡ body_as m layout r
    → read_as m t r.kind layout bytes ≡ r
read_back m t Elements r bytes fits e =
    let rest = codes_of m.w r.codes in
    same_posted r (byte_back bytes 4 r.writer rest e) (sym fits.0)
    (codes_at_end m.w (t + 1) r.codes bytes 5 fits.1 fits.2 (behind_byte bytes 4 5 r.writer rest refl e))
read_back m t Second r bytes fits e =
    let rest = behind_byte bytes 4 5 r.writer (r.second ∷ []) refl e in
    same_posted r (byte_back bytes 4 r.writer (r.second ∷ []) e) (byte_back bytes 5 r.second [] rest) (sym fits.1)
read_back m t SecondAndShare r bytes fits e =
    let share = codes_of m.s r.codes in
    let rest = behind_byte bytes 4 5 r.writer (r.second ∷ share) refl e in
    same_posted r (byte_back bytes 4 r.writer (r.second ∷ share) e) (byte_back bytes 5 r.second share rest)
    (codes_at_end m.s 2 r.codes bytes 6 fits.1 fits.2 (behind_byte bytes 5 6 r.second share refl rest))
read_back m t Nothing r bytes fits e = same_posted r (byte_back bytes 4 r.writer [] e) (sym fits.0) (sym fits.1)

pub records_read_back_lem : RecordsReadBack
records_read_back_lem m laws t few r fits =
    let layout = layout_of r.kind in
    let body = body_as m layout r in
    let long = body_length m t layout r fits.1 in
    let small = length_small m laws t few layout in
    let frame = frame_back r.kind body (omega arith) in
    record {
      framed = frame.framed;
      kind = frame.kind;
      long = frame.long ∙ long;
      says = read_back m t layout r _ fits.1 frame.body;
    }
