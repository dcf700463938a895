-- The bytes that say a record are the bytes that are written for it.
use Rattle.std.proofs.Common.{◌≡◌, ℕ, ◌+◌, ◌*◌, List, ◌∷◌, ◌++◌, length, get_or, drop, sym, ap, ◌∙◌, append-nil, arith}
use Rattle.std.proofs.lemmas.List.{drop_more, drop_all}
use Rattle.group.specs.Code.{code_at}
use Rattle.group.specs.Meaning.{Meaning}
use Rattle.sharing.specs.Codes.{decoded_from}
use Rattle.protocol.specs.declared.kind.Kind.{Kind}
use Rattle.protocol.specs.Record.{Layout, Elements, Second, SecondAndShare, Nothing, layout_of, length_of, read_as, body_as, codes_of, framed}
use Rattle.protocol.specs.ReadBack.{Bytes, RecordsWriteBack}
use Rattle.protocol.proofs.CodesWritten.{codes_written}
use Rattle.protocol.proofs.Frames.{framed_long, frame_written}

-- codes up to the end of the bytes
codes_to_end : (w count : ℕ) (bytes : List ℕ) (at : ℕ) → Bytes bytes → length bytes ≡ at + count * w
    → codes_of w (decoded_from (λ place. code_at bytes w place) w at count) ≡ drop at bytes
codes_to_end w count bytes at each long =
    let codes = codes_of w (decoded_from (λ place. code_at bytes w place) w at count) in
    sym (append-nil codes) ∙ ap (λ (xs : List ℕ). codes ++ xs) (sym (drop_all (at + count * w) bytes (omega arith)))
    ∙ sym (codes_written w count bytes at each (omega arith))

body_written : (m : Meaning) (t : ℕ) (kind : Kind) (layout : Layout) (bytes : List ℕ) → Bytes bytes → length bytes ≡ 2 + length_of m t layout
    → body_as m layout (read_as m t kind layout bytes) ≡ drop 4 bytes
body_written m t kind Elements bytes each long =
    ap (λ (xs : List ℕ). get_or bytes 4 0 ∷ xs) (codes_to_end m.w (t + 1) bytes 5 each (omega arith)) ∙ sym (drop_more bytes 4 0 (omega arith))
body_written m t kind Second bytes each long =
    ap (λ (xs : List ℕ). get_or bytes 4 0 ∷ get_or bytes 5 0 ∷ xs) (sym (drop_all 6 bytes (omega arith)))
    ∙ ap (λ (xs : List ℕ). get_or bytes 4 0 ∷ xs) (sym (drop_more bytes 5 0 (omega arith))) ∙ sym (drop_more bytes 4 0 (omega arith))
body_written m t kind SecondAndShare bytes each long =
    ap (λ (xs : List ℕ). get_or bytes 4 0 ∷ get_or bytes 5 0 ∷ xs) (codes_to_end m.s 2 bytes 6 each (omega arith))
    ∙ ap (λ (xs : List ℕ). get_or bytes 4 0 ∷ xs) (sym (drop_more bytes 5 0 (omega arith))) ∙ sym (drop_more bytes 4 0 (omega arith))
body_written m t kind Nothing bytes each long =
    ap (λ (xs : List ℕ). get_or bytes 4 0 ∷ xs) (sym (drop_all 5 bytes (omega arith))) ∙ sym (drop_more bytes 4 0 (omega arith))

pub records_write_back_lem : RecordsWriteBack
records_write_back_lem m laws t few r bytes each says =
    let layout = layout_of r.kind in
    let long = framed_long bytes says.framed in
    let all : length bytes ≡ 2 + length_of m t layout = sym long.1 ∙ ap (λ (n : ℕ). 2 + n) says.long in
    ap (framed r.kind) (ap (body_as m layout) (sym says.says) ∙ body_written m t r.kind layout bytes each all)
    ∙ frame_written r.kind bytes each says.framed says.kind
