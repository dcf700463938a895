-- One frame of a file more, or the end.
use Rattle.std.proofs.Common.{◌≡◌, ℕ, zero, suc, ◌+◌, ◌-◌, ◌<◌, ◌≤◌, Bool, true, false, leb, List, [], ◌∷◌, length, take, drop, Some, None, sym, refl, ap, ◌∙◌, ap₂, add-zero, arith, length-drop}
use lib.Seq.{take-length}
use Rattle.std.proofs.lemmas.Bool.{and_parts, leb-true}
use Rattle.protocol.specs.Record.{length_field}
use Rattle.replay.specs.Files.{begins_whole, frames_after, broken_after, frames_of}

skipped : (k : ℕ) (bytes : List ℕ) → frames_after k bytes ≡ frames_after 0 (drop k bytes)
unfolding frames_after
skipped zero bytes = refl
skipped (suc k) [] = refl
skipped (suc k) (byte ∷ rest) = skipped k rest

broken_skipped : (place k : ℕ) (bytes : List ℕ) → broken_after place k bytes ≡ broken_after (place + k) 0 (drop k bytes)
unfolding broken_after
broken_skipped place zero bytes = ap (λ (n : ℕ). broken_after n 0 bytes) (sym (add-zero place))
broken_skipped place (suc k) [] = refl
broken_skipped place (suc k) (byte ∷ rest) = broken_skipped (suc place) k rest ∙ ap (λ (n : ℕ). broken_after n 0 (drop k rest)) (let e : suc place + k ≡ place + suc k = omega arith in e)

pub whole_long : (bytes : List ℕ) → begins_whole bytes ≡ true → (2 ≤ length_field bytes) × (2 + length_field bytes ≤ length bytes)
whole_long bytes e =
    let p = and_parts (leb 4 (length bytes)) _ e in
    let q = and_parts (leb 2 (length_field bytes)) _ p.1 in
    (leb-true _ _ q.0, leb-true _ _ q.1)

pub frames_whole : (bytes : List ℕ) → begins_whole bytes ≡ true → frames_of bytes ≡ (take (2 + length_field bytes) bytes ∷ frames_of (drop (2 + length_field bytes) bytes))
unfolding frames_after
frames_whole [] e = absurd (let h = whole_long [] e in omega (arith, h.1))
frames_whole (byte ∷ rest) e =
    let size : 2 + length_field (byte ∷ rest) ≡ suc (1 + length_field (byte ∷ rest)) = omega arith in
    ap (λ (v : Bool). elim v [
      | true ↦ take (2 + length_field (byte ∷ rest)) (byte ∷ rest) ∷ frames_after (1 + length_field (byte ∷ rest)) rest
      | false ↦ []
    ]) e
    ∙ ap (λ (l : List (List ℕ)). take (2 + length_field (byte ∷ rest)) (byte ∷ rest) ∷ l)
    (skipped (1 + length_field (byte ∷ rest)) rest ∙ ap (λ (n : ℕ). frames_of (drop n (byte ∷ rest))) (sym size))

pub broken_whole : (place : ℕ) (bytes : List ℕ) → begins_whole bytes ≡ true
    → broken_after place 0 bytes ≡ broken_after (place + (2 + length_field bytes)) 0 (drop (2 + length_field bytes) bytes)
unfolding broken_after
broken_whole place [] e = absurd (let h = whole_long [] e in omega (arith, h.1))
broken_whole place (byte ∷ rest) e =
    let size : 2 + length_field (byte ∷ rest) ≡ suc (1 + length_field (byte ∷ rest)) = omega arith in
    let there : suc place + (1 + length_field (byte ∷ rest)) ≡ place + (2 + length_field (byte ∷ rest)) = omega arith in
    ap (λ (v : Bool). elim v [ true ↦ broken_after (suc place) (1 + length_field (byte ∷ rest)) rest | false ↦ Some place ]) e
    ∙ broken_skipped (suc place) (1 + length_field (byte ∷ rest)) rest
    ∙ ap₂ (λ (p n : ℕ). broken_after p 0 (drop n (byte ∷ rest))) there (sym size)

pub frames_broken : (bytes : List ℕ) → begins_whole bytes ≡ false → frames_of bytes ≡ []
unfolding frames_after
frames_broken [] e = refl
frames_broken (byte ∷ rest) e =
    ap (λ (v : Bool). elim v [
      | true ↦ take (2 + length_field (byte ∷ rest)) (byte ∷ rest) ∷ frames_after (1 + length_field (byte ∷ rest)) rest
      | false ↦ []
    ]) e

pub broken_here : (place : ℕ) (bytes : List ℕ) → 0 < length bytes → begins_whole bytes ≡ false → broken_after place 0 bytes ≡ Some place
unfolding broken_after
broken_here place [] h e = absurd (omega arith)
broken_here place (byte ∷ rest) h e =
    ap (λ (v : Bool). elim v [ true ↦ broken_after (suc place) (1 + length_field (byte ∷ rest)) rest | false ↦ Some place ]) e

pub none_left : (bytes : List ℕ) → length bytes ≤ 0 → frames_of bytes ≡ []
unfolding frames_after
none_left [] h = refl
none_left (byte ∷ rest) h = absurd (omega arith)

pub none_broken : (place : ℕ) (bytes : List ℕ) → length bytes ≤ 0 → broken_after place 0 bytes ≡ None
unfolding broken_after
none_broken place [] h = refl
none_broken place (byte ∷ rest) h = absurd (omega arith)
