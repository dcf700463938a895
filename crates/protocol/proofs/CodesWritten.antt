-- Bytes are the codes of what they spell: the converse of reading back.
use Rattle.std.proofs.Common.{◌≡◌, ℕ, zero, suc, ◌+◌, ◌*◌, ◌/◌, ◌%◌, ◌<◌, ◌≤◌, List, ◌∷◌, ◌++◌, length, get_or, drop, sym, ap, ◌∙◌, ap₂, append_assoc, suc-mul, arith}
use Rattle.std.proofs.lemmas.List.{drop_more}
use Rattle.std.proofs.ByRecursion.{All-get_or}
use Rattle.group.specs.Code.{code, code_at}
use Rattle.sharing.specs.Codes.{decoded_from}
use Rattle.protocol.specs.Record.{codes_of}
use Rattle.protocol.specs.ReadBack.{Bytes}

pub code_written : (w : ℕ) (bytes : List ℕ) (at : ℕ) → Bytes bytes → at + w ≤ length bytes → drop at bytes ≡ code w (code_at bytes w at) ++ drop (at + w) bytes
unfolding code code_at
code_written zero bytes at each room = let place : at ≡ at + 0 = omega arith in ap (λ (k : ℕ). drop k bytes) place
code_written (suc w) bytes at each room =
    let byte = get_or bytes at 0 in
    let high = code_at bytes w (at + 1) in
    let small : byte < 256 = All-get_or (λ x. x < 256) bytes at 0 (omega arith) each in
    let low : byte ≡ (byte + 256 * high) % 256 = omega arith in
    let left : high ≡ (byte + 256 * high) / 256 = omega arith in
    let place : at + 1 + w ≡ at + suc w = omega arith in
    drop_more bytes at 0 (omega arith)
    ∙ ap₂ (λ (x : ℕ) (xs : List ℕ). x ∷ xs) low
    (code_written w bytes (at + 1) each (omega arith)
    ∙ ap₂ (λ (n k : ℕ). code w n ++ drop k bytes) left place)

pub codes_written : (w count : ℕ) (bytes : List ℕ) (at : ℕ) → Bytes bytes → at + count * w ≤ length bytes
    → drop at bytes ≡ codes_of w (decoded_from (λ place. code_at bytes w place) w at count) ++ drop (at + count * w) bytes
unfolding codes_of decoded_from
codes_written w zero bytes at each room = let place : at ≡ at + 0 * w = omega arith in ap (λ (k : ℕ). drop k bytes) place
codes_written w (suc count) bytes at each room =
    let more = suc-mul count w in
    let place : at + w + count * w ≡ at + suc count * w = omega arith in
    let one = code w (code_at bytes w at) in
    let others = codes_of w (decoded_from (λ place. code_at bytes w place) w (at + w) count) in
    code_written w bytes at each (omega arith)
    ∙ ap (λ xs. one ++ xs) (codes_written w count bytes (at + w) each (omega arith) ∙ ap (λ (k : ℕ). others ++ drop k bytes) place)
    ∙ sym (append_assoc one others (drop (at + suc count * w) bytes))
