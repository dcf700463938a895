-- Codes written one after another.
use Rattle.std.proofs.Common.{◌≡◌, ℕ, zero, suc, ◌+◌, ◌-◌, ◌*◌, ◌<◌, ◌≤◌, List, [], ◌∷◌, ◌++◌, length, sym, refl, ap, ◌∙◌, ap₂, append_assoc, append-nil, mod-eq_of_lt, suc-mul, arith, length-append}
use lib.Seq.{paste}
use Rattle.std.proofs.lemmas.List.Edits.{paste-paste}
use Rattle.group.specs.Code.{code}
use Rattle.sharing.specs.Codes.{decoded_from}
use Rattle.group.specs.CodeLaws.{code_length}
use Rattle.protocol.specs.declared.kind.Kind.TheVariants.{Deal}
use Rattle.protocol.proofs.Codes as codes
use Rattle.protocol.specs.Record.{codes_of, framed}

-- one value more
pub decoded_push : {V : Type 0} (decoded : ℕ → V) (w p k : ℕ) → decoded_from decoded w p (suc k) ≡ decoded_from decoded w p k ++ (decoded (p + k * w) ∷ [])
unfolding decoded_from
decoded_push decoded w p zero = let place : p ≡ p + 0 * w = omega arith in ap (λ (x : ℕ). decoded x ∷ []) place
decoded_push decoded w p (suc k) =
    let place : p + w + k * w ≡ p + suc k * w = omega (arith, suc-mul k w) in
    ap (λ vs. decoded p ∷ vs) (decoded_push decoded w (p + w) k ∙ ap (λ (x : ℕ). decoded_from decoded w (p + w) k ++ (decoded x ∷ [])) place)

pub decoded_length : {V : Type 0} (decoded : ℕ → V) (w p k : ℕ) → length (decoded_from decoded w p k) ≡ k
unfolding decoded_from
decoded_length decoded w p zero = refl
decoded_length decoded w p (suc k) = ap suc (decoded_length decoded w (p + w) k)

pub codes_push : (w : ℕ) (ns : List ℕ) (n : ℕ) → codes_of w (ns ++ (n ∷ [])) ≡ codes_of w ns ++ code w n
unfolding codes_of
codes_push w [] n = append-nil (code w n)
codes_push w (m ∷ ns) n = ap (λ xs. code w m ++ xs) (codes_push w ns n) ∙ sym (append_assoc (code w m) (codes_of w ns) (code w n))

codes_length : (w : ℕ) (ns : List ℕ) (k : ℕ) → length ns ≡ k → length (codes_of w ns) ≡ k * w
codes_length w ns k e = codes.codes_length w ns ∙ ap (λ (n : ℕ). n * w) e

-- one code more, pasted behind those before it
pub paste_code : (out : List ℕ) (at : ℕ) (decoded : ℕ → ℕ) (s w k : ℕ) → at ≤ length out
    → paste (paste out at (codes_of w (decoded_from decoded s 0 k)) (k * w)) (at + k * w) (code w (decoded (0 + k * s))) w
    ≡ paste out at (codes_of w (decoded_from decoded s 0 (k + 1))) ((k + 1) * w)
paste_code out at decoded s w k h =
    let before = decoded_from decoded s 0 k in
    let one : k + 1 ≡ suc k = omega arith in
    let wide : k * w + w ≡ (k + 1) * w = omega (arith, suc-mul k w, ap (λ (x : ℕ). x * w) one) in
    paste-paste out at (codes_of w before) (code w (decoded (0 + k * s))) (k * w) w (sym (codes_length w before k (decoded_length decoded s 0 k))) (sym (code_length w (decoded (0 + k * s)))) h
    ∙ ap₂ (paste out at) (sym (codes_push w before (decoded (0 + k * s))) ∙ ap (codes_of w) (sym (ap (decoded_from decoded s 0) one ∙ decoded_push decoded s 0 k))) wide

-- The bytes of a Deal.

abbrev pub deal : ℕ → ℕ → List ℕ → List ℕ
deal w seat commitments = framed Deal (seat ∷ codes_of w commitments)

seat_code : (seat : ℕ) → seat < 256 → code 1 seat ≡ seat ∷ []
unfolding code
seat_code seat h = ap (λ (x : ℕ). x ∷ []) (mod-eq_of_lt h)

pub deal_length : (w seat : ℕ) (commitments : List ℕ) (k : ℕ) → length commitments ≡ k → length (deal w seat commitments) ≡ 5 + k * w
deal_length w seat commitments k e =
    let body = codes_of w commitments in
    let rest = length-append (code 2 2) (seat ∷ body) in
    length-append (code 2 (2 + length (seat ∷ body))) (code 2 2 ++ (seat ∷ body))
    ∙ omega (arith, rest, code_length 2 (2 + length (seat ∷ body)), code_length 2 2, codes_length w commitments k e)

pub deal_pasted : (out : List ℕ) (w seat size : ℕ) (commitments : List ℕ) (k : ℕ) → seat < 256 → length commitments ≡ k → size ≡ 5 + k * w
    → paste (paste (paste (paste out 0 (code 2 (size - 2)) 2) 2 (code 2 2) 2) 4 (code 1 seat) 1) 5 (codes_of w commitments) (k * w)
    ≡ paste out 0 (deal w seat commitments) size
deal_pasted out w seat size commitments k small e is =
    let body = codes_of w commitments in
    let long = codes_length w commitments k e in
    let a = code 2 (size - 2) in
    let b = code 2 2 in
    let s = code 1 seat in
    let start : 0 ≤ length out = omega arith in
    let first : size - 2 ≡ 2 + length (seat ∷ body) = omega arith in
    ap (λ (d : List ℕ). paste (paste d 4 s 1) 5 body (k * w)) (paste-paste out 0 a b 2 2 (sym (code_length 2 (size - 2))) (sym (code_length 2 2)) start)
    ∙ ap (λ (d : List ℕ). paste d 5 body (k * w)) (paste-paste out 0 (a ++ b) s 4 1 (sym (length-append a b ∙ ap₂ ◌+◌ (code_length 2 (size - 2)) (code_length 2 2))) (sym (code_length 1 seat)) start)
    ∙ paste-paste out 0 ((a ++ b) ++ s) body 5 (k * w) (sym (length-append (a ++ b) s ∙ ap₂ ◌+◌ (length-append a b ∙ ap₂ ◌+◌ (code_length 2 (size - 2)) (code_length 2 2)) (code_length 1 seat))) (sym long) start
    ∙ ap₂ (paste out 0) (append_assoc (a ++ b) s body ∙ append_assoc a b (s ++ body) ∙ ap₂ (λ (x y : List ℕ). x ++ (b ++ (y ++ body))) (ap (code 2) first) (seat_code seat small)) (sym is)
