-- One byte more of a code, read or written.
use Rattle.std.proofs.Common.{◌≡◌, ℕ, zero, suc, ◌+◌, ◌-◌, ◌*◌, ◌/◌, ◌%◌, ◌^◌, ◌<◌, ◌≤◌, List, [], ◌∷◌, ◌++◌, length, get_or, take, drop, set, sym, refl, ap, subst, ◌∙◌, append_assoc, pow-suc, arith, get_or-drop, length-drop}
use Rattle.std.specs.List.{push}
use Rattle.std.proofs.lemmas.List.{length_push, take_more_set, length-take-le}
use Rattle.group.specs.Code.{code, code_at}

-- Reading: of the w bytes from a place on, `rest` are left, and n is what those behind them spell.
pub record Read (bytes : List ℕ) (w at : ℕ) (rest : List ℕ) (n : ℕ) : Type 0 where
  pub few : length rest ≤ w
  pub front : rest ≡ take (length rest) (drop at bytes)
  pub small : n < 256 ^ (w - length rest)
  pub spelled : n ≡ code_at bytes (w - length rest) (at + length rest)

code_at_none : (bytes : List ℕ) (w at : ℕ) → w ≡ 0 → code_at bytes w at ≡ 0
unfolding code_at
code_at_none bytes w at e = ap (λ (x : ℕ). code_at bytes x at) e

code_at_more : (bytes : List ℕ) (w v at : ℕ) → w ≡ suc v → code_at bytes w at ≡ get_or bytes at 0 + 256 * code_at bytes v (at + 1)
unfolding code_at
code_at_more bytes w v at e = ap (λ (x : ℕ). code_at bytes x at) e

small_power : (n j : ℕ) → j ≤ 3 → n < 256 ^ j → n < 16777216
small_power n zero h l = omega arith
small_power n (suc zero) h l = omega arith
small_power n (suc (suc zero)) h l = omega arith
small_power n (suc (suc (suc zero))) h l = omega arith
small_power n (suc (suc (suc (suc j)))) h l = absurd (omega arith)

-- the last byte of the front that is left
last_of : (xs rest : List ℕ) (b : ℕ) → push rest b ≡ take (suc (length rest)) xs → (rest ≡ take (length rest) xs) × (b ≡ get_or xs (length rest) 0)
last_of [] [] b e = absurd (cc)
last_of (x ∷ xs) [] b e = (refl, cc)
last_of [] (r ∷ rest) b e = absurd (cc)
last_of (x ∷ xs) (r ∷ rest) b e = let t = last_of xs rest b (cc) in (cc, t.1)

one_less : (rest next : List ℕ) (b : ℕ) → rest ≡ push next b → length rest ≡ suc (length next)
one_less rest next b e = ap (length {A = ℕ}) e ∙ length_push next b ∙ omega arith

module _ {bytes : List ℕ} {w at n : ℕ} {rest : List ℕ} where
  pub read_none : rest ≡ take w (drop at bytes) → at + w ≤ length bytes → n ≡ 0 → Read bytes w at rest n
  read_none e within none =
      let whole : length rest ≡ w = ap (length {A = ℕ}) e ∙ length-take-le w (drop at bytes) (omega (arith, length-drop at bytes)) in
      let all : w - length rest ≡ 0 = omega arith in
      let one : 256 ^ (w - length rest) ≡ 1 = ap (λ (x : ℕ). 256 ^ x) all in record {
        few = omega arith;
        front = e ∙ ap (λ (x : ℕ). take x (drop at bytes)) (sym whole);
        small = omega arith;
        spelled = none ∙ sym (code_at_none bytes (w - length rest) (at + length rest) all);
      }

  pub read_room : Read bytes w at rest n → (next : List ℕ) (b : ℕ) → rest ≡ push next b → w ≤ 4 → n < 16777216
  read_room r next b e narrow = let l = one_less rest next b e in small_power n (w - length rest) (omega arith) r.small

  -- the byte at the end of the rest is the one at that place
  here : Read bytes w at rest n → (next : List ℕ) (b : ℕ) → rest ≡ push next b → (next ≡ take (length next) (drop at bytes)) × (b ≡ get_or bytes (at + length next) 0)
  here r next b e =
      let last = last_of (drop at bytes) next b (sym e ∙ r.front ∙ ap (λ (x : ℕ). take x (drop at bytes)) (one_less rest next b e)) in
      (last.0, last.1 ∙ get_or-drop at bytes (length next) 0)

  pub read_byte : Read bytes w at rest n → (next : List ℕ) (b : ℕ) → rest ≡ push next b → ((i : ℕ) → get_or bytes i 0 < 256) → b < 256
  read_byte r next b e fits = subst (λ (x : ℕ). x < 256) (sym (here r next b e).1) (fits (at + length next))

  pub read_more : Read bytes w at rest n → (next : List ℕ) (b : ℕ) → rest ≡ push next b → b < 256 → Read bytes w at next (n * 256 + b)
  read_more r next b e byte =
      let l = one_less rest next b e in
      let j = w - length rest in
      let few = r.few in
      let more : w - length next ≡ suc j = omega arith in
      let byte_is = (here r next b e).1 in
      let wide : 256 ^ (w - length next) ≡ 256 ^ j * 256 = ap (λ (x : ℕ). 256 ^ x) more ∙ pow-suc 256 j in
      let behind : n ≡ code_at bytes j (at + length next + 1) = r.spelled ∙ ap (code_at bytes j) (omega arith) in record {
        few = omega arith;
        front = (here r next b e).0;
        small = let s = r.small in omega arith;
        spelled = omega (arith, code_at_more bytes (w - length next) j (at + length next) more);
      }

-- Writing: what is written, and the code of what is left of n, spell n.

pub write_more : (bytes : List ℕ) (i j left : ℕ) → i < length bytes → take (i + 1) (set bytes i (left % 256)) ++ code j (left / 256) ≡ take i bytes ++ code (suc j) left
unfolding code
write_more bytes i j left h = rw (take_more_set, append_assoc)
