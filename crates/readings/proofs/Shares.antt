-- Shares written one after another, and read back as the entries of their seats.
use Rattle.std.proofs.Common.{◌≡◌, ℕ, ◌+◌, ◌*◌, ◌^◌, ◌<◌, ◌≤◌, List, [], ◌∷◌, ◌++◌, map, length, get_or, take, drop, None, sym, refl, ap, ◌∙◌, ap₂, append_assoc, arith, length-append, length-take-le}
use lib.Seq.{paste}
use Rattle.std.proofs.lemmas.List.{append-nil, map_more, length-map}
use Rattle.std.proofs.lemmas.List.Edits.{paste-paste, paste_all}
use Rattle.std.proofs.lemmas.Bool.{lt-ltb, cond-true}
use Rattle.group.specs.Code.{code, code_at}
use Rattle.group.specs.CodeLaws.{code_length}
use Rattle.group.specs.Meaning.{Meaning, Lawful}
use Rattle.sharing.specs.Codes.{first_of, refused_from, scalar_refused}
use Rattle.sharing.specs.Interpolation.{entries_from, Share}
use Rattle.sharing.specs.LinearLaws.{join}
use Rattle.protocol.specs.Custodian.{pair_codes}
use Rattle.protocol.proofs.Codes.{code_back, behind_code, pairs_length}
use Rattle.readings.specs.Outputs.{written_in}

abbrev pair_code : ℕ → ℕ × ℕ → List ℕ
pair_code w x = code w x.0 ++ code w x.1

pairs_push : (w : ℕ) (xs : List (ℕ × ℕ)) (x : ℕ × ℕ) → pair_codes w (xs ++ x ∷ []) ≡ pair_codes w xs ++ pair_code w x
unfolding pair_codes
pairs_push w [] x = ap (λ (ys : List ℕ). code w x.0 ++ ys) (append-nil (code w x.1))
pairs_push w (y ∷ xs) x =
    ap (λ (ys : List ℕ). code w y.0 ++ (code w y.1 ++ ys)) (pairs_push w xs x)
    ∙ ap (λ (ys : List ℕ). code w y.0 ++ ys) (sym (append_assoc (code w y.1) (pair_codes w xs) (pair_code w x)))
    ∙ sym (append_assoc (code w y.0) (code w y.1 ++ pair_codes w xs) (pair_code w x))

-- the codes of the shares of the first k seats
module _ (w : ℕ) (f : ℕ → ℕ × ℕ) (seats : List ℕ) where
  abbrev front : ℕ → List ℕ
  front k = pair_codes w (map f (take k seats))

  front_length : (k : ℕ) → k ≤ length seats → length (front k) ≡ k * (w + w)
  front_length k h =
      let count : length (map f (take k seats)) ≡ k = length-map (take k seats) f ∙ length-take-le k seats h in
      pairs_length w (map f (take k seats)) ∙ ap (λ (n : ℕ). 2 * n * w) count ∙ omega arith

  -- one share more, behind those before it
  pub share_more : (out : List ℕ) (k : ℕ) → k < length seats
      → paste (written_in out (front k)) (k * (w + w)) (pair_code w (f (get_or seats k 0))) (w + w) ≡ written_in out (front (k + 1))
  share_more out k h =
      let x = f (get_or seats k 0) in
      let one : length (pair_code w x) ≡ w + w = length-append (code w x.0) (code w x.1) ∙ ap₂ ◌+◌ (code_length w x.0) (code_length w x.1) in
      let place : k * (w + w) ≡ 0 + length (front k) = omega (arith, front_length k (omega arith)) in
      let next : front k ++ pair_code w x ≡ front (k + 1) = sym (ap (pair_codes w) (map_more f seats k 0 h) ∙ pairs_push w (map f (take k seats)) x) in
      let wide : length (front k) + (w + w) ≡ length (front (k + 1)) = omega (arith, ap length next, length-append (front k) (pair_code w x)) in
      ap (λ (p : ℕ). paste (written_in out (front k)) p (pair_code w x) (w + w)) place
      ∙ paste-paste out 0 (front k) (pair_code w x) (length (front k)) (w + w) refl (sym one) (omega arith)
      ∙ ap₂ (paste out 0) next wide

-- where the codes of the shares of some seats stand, their entries are read back, and no code is refused
module _ (m : Meaning) (laws : Lawful m) (f : ℕ → ℕ × ℕ) (below : (j : ℕ) → Share m.q (f j)) (bytes : List ℕ) where
  narrow : (x : ℕ) → x < m.q → x < 256 ^ m.s
  narrow x h = omega (arith, laws.scalar_fits)

  -- the two codes of the first share, and the codes behind them
  pub record Standing (at j : ℕ) (js rest : List ℕ) : Type 0 where
    pub left : code_at bytes m.s at ≡ (f j).0
    pub right : code_at bytes m.s (at + m.s) ≡ (f j).1
    pub others : drop (at + (m.s + m.s)) bytes ≡ pair_codes m.s (map f js) ++ rest

  standing : (at j : ℕ) (js rest : List ℕ) → drop at bytes ≡ pair_codes m.s (map f (j ∷ js)) ++ rest → Standing at j js rest
  unfolding pair_codes
  standing at j js rest e =
      let w = m.s in
      let a = code w (f j).0 in
      let b = code w (f j).1 in
      let later = pair_codes w (map f js) in
      let first : drop at bytes ≡ a ++ (b ++ (later ++ rest)) = e ∙ append_assoc a (b ++ later) rest ∙ ap (λ (xs : List ℕ). a ++ xs) (append_assoc b later rest) in
      let second = behind_code bytes at w (f j).0 (b ++ (later ++ rest)) first in
      let place : at + (w + w) ≡ at + w + w = omega arith in
      record {
        left = code_back w bytes at (f j).0 (b ++ (later ++ rest)) (narrow (f j).0 (below j).0) first;
        right = code_back w bytes (at + w) (f j).1 (later ++ rest) (narrow (f j).1 (below j).1) second;
        others = ap (λ (k : ℕ). drop k bytes) place ∙ behind_code bytes (at + w) w (f j).1 (later ++ rest) second;
      }

  entries_back : (seats : List ℕ) (at : ℕ) (rest : List ℕ) → drop at bytes ≡ pair_codes m.s (map f seats) ++ rest
      → entries_from (λ p. (code_at bytes m.s p, code_at bytes m.s (p + m.s))) (m.s + m.s) at seats ≡ map (λ j. (j, f j)) seats
  unfolding entries_from
  entries_back [] at rest e = refl
  entries_back (j ∷ js) at rest e =
      let S = standing at j js rest e in
      ap₂ (λ (x : ℕ × ℕ) (es : List (ℕ × (ℕ × ℕ))). (j, x) ∷ es) (join S.left S.right) (entries_back js (at + (m.s + m.s)) rest S.others)

  taken_at : (p n : ℕ) → code_at bytes m.s p ≡ n → n < m.q → scalar_refused m bytes p ≡ None
  taken_at p n e h = cond-true _ None _ (lt-ltb (code_at bytes m.s p) m.q (omega arith))

  shares_taken : (seats : List ℕ) (at : ℕ) (rest : List ℕ) → drop at bytes ≡ pair_codes m.s (map f seats) ++ rest
      → refused_from (λ p. first_of (scalar_refused m bytes p) (scalar_refused m bytes (p + m.s))) (m.s + m.s) at (length seats) ≡ None
  unfolding refused_from
  shares_taken [] at rest e = refl
  shares_taken (j ∷ js) at rest e =
      let S = standing at j js rest e in
      ap₂ first_of (ap₂ first_of (taken_at at (f j).0 S.left (below j).0) (taken_at (at + m.s) (f j).1 S.right (below j).1))
      (shares_taken js (at + (m.s + m.s)) rest S.others)

  pub record ReadBack (seats : List ℕ) : Type 0 where
    pub taken : refused_from (λ p. first_of (scalar_refused m bytes p) (scalar_refused m bytes (p + m.s))) (m.s + m.s) 0 (length seats) ≡ None
    pub entries : entries_from (λ p. (code_at bytes m.s p, code_at bytes m.s (p + m.s))) (m.s + m.s) 0 seats ≡ map (λ j. (j, f j)) seats

  pub read_back : (seats out : List ℕ) → bytes ≡ written_in out (pair_codes m.s (map f seats)) → ReadBack seats
  read_back seats out e =
      let codes = pair_codes m.s (map f seats) in
      let stands : drop 0 bytes ≡ codes ++ drop (0 + length codes) out = e ∙ paste_all out 0 codes (length codes) refl in
      record { taken = shares_taken seats 0 _ stands; entries = entries_back seats 0 _ stands }
