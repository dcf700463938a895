-- Codes that stand in bytes are read back. What stands at a place is said by `drop`: the bytes from there on are a part, then the rest.
use Rattle.std.proofs.Common.{◌≡◌, ℕ, zero, suc, ◌+◌, ◌*◌, ◌/◌, ◌%◌, ◌^◌, ◌<◌, List, [], ◌∷◌, ◌++◌, length, get_or, drop, sym, refl, ap, ◌∙◌, ap₂, append_assoc, suc-mul, pow-suc, zero-mul, arith, length-append, get_or-drop, drop-drop}
use lib.Seq.{drop-append_seam}
use Rattle.std.specs.List.{AllByRecursion}
use Rattle.group.specs.Code.{code, code_at}
use Rattle.sharing.specs.Codes.{decoded_from}
use Rattle.group.specs.CodeLaws.{code_length}
use Rattle.sharing.specs.LinearLaws.{join}
use Rattle.protocol.specs.Record.{codes_of}
use Rattle.protocol.specs.Custodian.{pair_codes}

-- behind a part stands the rest
pub behind : (bytes : List ℕ) (at next : ℕ) (part rest : List ℕ) → next ≡ at + length part → drop at bytes ≡ part ++ rest → drop next bytes ≡ rest
behind bytes at next part rest place e =
    ap (λ (k : ℕ). drop k bytes) place ∙ sym (drop-drop (length part) at bytes) ∙ ap (drop (length part)) e ∙ drop-append_seam part rest

pub byte_back : (bytes : List ℕ) (at x : ℕ) (rest : List ℕ) → drop at bytes ≡ x ∷ rest → get_or bytes at 0 ≡ x
byte_back bytes at x rest e =
    let place : at ≡ at + 0 = omega arith in
    ap (λ (k : ℕ). get_or bytes k 0) place ∙ sym (get_or-drop at bytes 0 0) ∙ ap (λ (xs : List ℕ). get_or xs 0 0) e

pub behind_byte : (bytes : List ℕ) (at next x : ℕ) (rest : List ℕ) → next ≡ at + 1 → drop at bytes ≡ x ∷ rest → drop next bytes ≡ rest
behind_byte bytes at next x rest place e = behind bytes at next (x ∷ []) rest place e

pub behind_code : (bytes : List ℕ) (at w n : ℕ) (rest : List ℕ) → drop at bytes ≡ code w n ++ rest → drop (at + w) bytes ≡ rest
behind_code bytes at w n rest e = behind bytes at (at + w) (code w n) rest (ap (λ (k : ℕ). at + k) (sym (code_length w n))) e

pub code_back : (w : ℕ) (bytes : List ℕ) (at n : ℕ) (rest : List ℕ) → n < 256 ^ w → drop at bytes ≡ code w n ++ rest → code_at bytes w at ≡ n
unfolding code code_at
code_back zero bytes at n rest small e = omega arith
code_back (suc w) bytes at n rest small e =
    let here : get_or bytes at 0 ≡ n % 256 = byte_back bytes at (n % 256) (code w (n / 256) ++ rest) e in
    let wide = pow-suc 256 w in
    let left : n / 256 < 256 ^ w = omega arith in
    let later = code_back w bytes (at + 1) (n / 256) rest left (behind_byte bytes at (at + 1) (n % 256) (code w (n / 256) ++ rest) refl e) in
    omega arith

pub codes_length : (w : ℕ) (ns : List ℕ) → length (codes_of w ns) ≡ length ns * w
unfolding codes_of
codes_length w [] = sym (zero-mul w)
codes_length w (n ∷ ns) = length-append (code w n) (codes_of w ns) ∙ omega (arith, code_length w n, codes_length w ns, suc-mul (length ns) w)

pub codes_back : (w : ℕ) (ns bytes : List ℕ) (at : ℕ) (rest : List ℕ) → AllByRecursion (λ n. n < 256 ^ w) ns → drop at bytes ≡ codes_of w ns ++ rest
    → decoded_from (λ place. code_at bytes w place) w at (length ns) ≡ ns
unfolding codes_of decoded_from
codes_back w [] bytes at rest small e = refl
codes_back w (n ∷ ns) bytes at rest small e =
    let first : drop at bytes ≡ code w n ++ (codes_of w ns ++ rest) = e ∙ append_assoc (code w n) (codes_of w ns) rest in
    ap₂ (λ (x : ℕ) (xs : List ℕ). x ∷ xs)
    (code_back w bytes at n (codes_of w ns ++ rest) small.0 first)
    (codes_back w ns bytes (at + w) rest small.1 (behind_code bytes at w n (codes_of w ns ++ rest) first))

-- Pairs of codes.

pub pairs_length : (w : ℕ) (shares : List (ℕ × ℕ)) → length (pair_codes w shares) ≡ 2 * length shares * w
unfolding pair_codes
pairs_length w [] = sym (zero-mul w)
pairs_length w (share ∷ shares) =
    length-append (code w share.0) (code w share.1 ++ pair_codes w shares)
    ∙ omega (arith, length-append (code w share.1) (pair_codes w shares), code_length w share.0, code_length w share.1, pairs_length w shares)

pub pairs_back : (w : ℕ) (shares : List (ℕ × ℕ)) (bytes : List ℕ) (at : ℕ) (rest : List ℕ)
    → AllByRecursion (λ share. (share.0 < 256 ^ w) × (share.1 < 256 ^ w)) shares → drop at bytes ≡ pair_codes w shares ++ rest
    → decoded_from (λ place. (code_at bytes w place, code_at bytes w (place + w))) (2 * w) at (length shares) ≡ shares
unfolding pair_codes decoded_from
pairs_back w [] bytes at rest small e = refl
pairs_back w (share ∷ shares) bytes at rest small e =
    let a = code w share.0 in
    let b = code w share.1 in
    let others = pair_codes w shares ++ rest in
    let first : drop at bytes ≡ a ++ (b ++ others) = e ∙ append_assoc a (b ++ pair_codes w shares) rest ∙ ap (λ xs. a ++ xs) (append_assoc b (pair_codes w shares) rest) in
    let second = behind_code bytes at w share.0 (b ++ others) first in
    let place : at + 2 * w ≡ at + w + w = omega arith in
    let third : drop (at + 2 * w) bytes ≡ others = ap (λ (k : ℕ). drop k bytes) place ∙ behind_code bytes (at + w) w share.1 others second in
    ap₂ (λ (x : ℕ × ℕ) (xs : List (ℕ × ℕ)). x ∷ xs)
    (join (code_back w bytes at share.0 (b ++ others) small.0.0 first) (code_back w bytes (at + w) share.1 others small.0.1 second))
    (pairs_back w shares bytes (at + 2 * w) rest small.1 third)
