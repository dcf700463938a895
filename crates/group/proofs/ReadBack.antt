-- A code that stands between other bytes spells its number.
use Rattle.std.proofs.Common.{◌≡◌, ℕ, zero, suc, ◌+◌, ◌*◌, ◌/◌, ◌%◌, ◌^◌, ◌<◌, List, [], ◌∷◌, ◌++◌, length, take, drop, sym, refl, ◌∙◌, ap₂, append_assoc, pow-suc, arith, length-append}
use Rattle.std.proofs.lemmas.List.Edits.{paste_all}
use Rattle.std.proofs.lemmas.List.{get_or_at, length-take-le}
use Rattle.group.specs.Code.{code, code_at, CodesReadBack}
use Rattle.group.specs.CodeLaws.{code_length}

pub code_between : (before after : List ℕ) (w n : ℕ) → n < 256 ^ w → code_at (before ++ (code w n ++ after)) w (length before) ≡ n
unfolding code code_at
code_between before after zero n h = omega arith
code_between before after (suc w) n h =
    let rest = code w (n / 256) ++ after in
    let low = n % 256 in
    let moved : before ++ (low ∷ rest) ≡ (before ++ (low ∷ [])) ++ rest = sym (append_assoc before (low ∷ []) rest) in
    let long : length before + 1 ≡ length (before ++ (low ∷ [])) = sym (length-append before (low ∷ [])) in
    let later = ap₂ (λ (xs : List ℕ) (at : ℕ). code_at xs w at) moved long ∙ code_between (before ++ (low ∷ [])) after w (n / 256) (omega (arith, pow-suc 256 w)) in
    let here = get_or_at before low rest 0 (length before) refl in
    let whole : low + 256 * (n / 256) ≡ n = omega arith in
    ap₂ (λ (x y : ℕ). x + 256 * y) here later ∙ whole

pub codes_read_back_lem : CodesReadBack
codes_read_back_lem bytes w at n within small =
    let front = length-take-le at bytes (omega arith) in
    ap₂ (λ (xs : List ℕ) (place : ℕ). code_at xs w place) (paste_all bytes at (code w n) w (sym (code_length w n))) (sym front)
    ∙ code_between (take at bytes) (drop (at + w) bytes) w n small
