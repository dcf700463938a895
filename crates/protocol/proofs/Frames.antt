-- The frame: its fields and its body are read back, and framed bytes are the frame of what they say.
use Rattle.std.proofs.Common.{◌≡◌, ℕ, ◌+◌, ◌<◌, ◌≤◌, true, ◌&&◌, eqb, leb, List, ◌++◌, length, drop, Some, sym, refl, ap, ◌∙◌, ap₂, arith, length-drop}
use Rattle.std.proofs.lemmas.Bool.{leb-true, eqb-true, le-leb, eq-eqb, and_parts, and_from}
use Rattle.group.specs.Code.{code}
use Rattle.protocol.specs.declared.kind.Kind.{Kind}
use Rattle.protocol.specs.Record.{kind_number, kind_with, length_field, kind_field, framed}
use Rattle.protocol.specs.Refusals.{is_framed}
use Rattle.protocol.specs.ReadBack.{Bytes}
use Rattle.protocol.proofs.Codes.{code_back}
use Rattle.protocol.proofs.CodesWritten.{code_written}
use Rattle.protocol.proofs.Entries.{number_kind, kind_number_lem, kind_small}

pub framed_length : (kind : Kind) (body : List ℕ) → length (framed kind body) ≡ 4 + length body
unfolding code
framed_length kind body = omega arith

-- the body stands behind the four bytes of the frame, also among other bytes
pub body_behind : (kind : Kind) (body after : List ℕ) → drop 4 (framed kind body ++ after) ≡ body ++ after
unfolding code
body_behind kind body after = refl

-- what is read of a body with its frame
pub record Framed (k : Kind) (inner bytes : List ℕ) : Type 0 where
  pub framed : is_framed bytes ≡ true
  pub kind : kind_with (kind_field bytes) ≡ Some k
  pub long : length_field bytes ≡ 2 + length inner
  pub body : drop 4 bytes ≡ inner

pub frame_back : (kind : Kind) (body : List ℕ) → 2 + length body < 65536 → Framed kind body (framed kind body)
unfolding code
frame_back kind body small =
    let bytes = framed kind body in
    let long : length_field bytes ≡ 2 + length body = code_back 2 bytes 0 (2 + length body) (code 2 (kind_number kind) ++ body) small refl in
    let number : kind_field bytes ≡ kind_number kind = code_back 2 bytes 2 (kind_number kind) body (kind_small kind) refl in
    let all = framed_length kind body in
    record {
      framed = and_from (leb 4 (length bytes)) (leb 2 (length_field bytes) && eqb (2 + length_field bytes) (length bytes))
          (le-leb 4 (length bytes) (omega arith))
          (and_from (leb 2 (length_field bytes)) (eqb (2 + length_field bytes) (length bytes)) (le-leb 2 (length_field bytes) (omega arith)) (eq-eqb (2 + length_field bytes) (length bytes) (omega arith)));
      kind = ap kind_with number ∙ number_kind kind;
      long = long;
      body = refl;
    }

-- framed bytes are as long as they say
pub framed_long : (bytes : List ℕ) → is_framed bytes ≡ true → (4 ≤ length bytes) × (2 + length_field bytes ≡ length bytes)
framed_long bytes e =
    let outer = and_parts (leb 4 (length bytes)) (leb 2 (length_field bytes) && eqb (2 + length_field bytes) (length bytes)) e in
    let inner = and_parts (leb 2 (length_field bytes)) (eqb (2 + length_field bytes) (length bytes)) outer.1 in
    (leb-true 4 (length bytes) outer.0, eqb-true (2 + length_field bytes) (length bytes) inner.1)

pub frame_written : (kind : Kind) (bytes : List ℕ) → Bytes bytes → is_framed bytes ≡ true → kind_with (kind_field bytes) ≡ Some kind
    → framed kind (drop 4 bytes) ≡ bytes
frame_written kind bytes each e known =
    let long = framed_long bytes e in
    let rest = length-drop 4 bytes in
    let size : 2 + length (drop 4 bytes) ≡ length_field bytes = omega arith in
    let number = sym (kind_number_lem (kind_field bytes) kind known) in
    ap₂ (λ (n k : ℕ). code 2 n ++ (code 2 k ++ drop 4 bytes)) size number
    ∙ ap (λ (xs : List ℕ). code 2 (length_field bytes) ++ xs) (sym (code_written 2 bytes 2 each (omega arith)))
    ∙ sym (code_written 2 bytes 0 each (omega arith))
