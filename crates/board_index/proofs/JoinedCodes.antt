-- Codes in bytes that are put together: those in front stay where they are, those behind move by the length of the front.
use Rattle.std.proofs.Common.{◌≡◌, ℕ, zero, suc, ◌+◌, ◌*◌, ◌≤◌, Bool, true, false, cond, ltb, List, ◌∷◌, ◌++◌, length, Some, None, Option, sym, refl, ap, ◌∙◌, ap₂, add_assoc, suc-mul, arith, get_or-append-add}
use Rattle.std.proofs.lemmas.List.{get_or_append_left}
use Rattle.group.specs.Code.{code_at}
use Rattle.group.specs.Meaning.{Meaning}
use Rattle.group.specs.Reading.{element_refusal, scalar_refusal}
use Rattle.group.specs.declared.fault.GroupFault.{GroupFault}
use Rattle.sharing.specs.Codes.{first_of, decoded_from, refused_from}
use Rattle.sharing.specs.LinearLaws.{first_none}
use Rattle.protocol.specs.declared.kind.Kind.{Kind}
use Rattle.protocol.proofs.Counting.{none_some}
use Rattle.protocol.specs.Record.{Layout, Elements, Second, SecondAndShare, Nothing, length_of, read_as}
use Rattle.board_index.specs.Kept.{codes_as, refused_as}

module _ (u bs : List ℕ) where
  pub code_left : (w at : ℕ) → at + w ≤ length u → code_at (u ++ bs) w at ≡ code_at u w at
  unfolding code_at
  code_left zero at h = refl
  code_left (suc w) at h =
      ap₂ (λ (a b : ℕ). a + 256 * b) (get_or_append_left u bs 0 at (omega arith)) (code_left w (at + 1) (omega arith))

  pub code_right : (w at : ℕ) → code_at (u ++ bs) w (length u + at) ≡ code_at bs w at
  unfolding code_at
  code_right zero at = refl
  code_right (suc w) at =
      ap₂ (λ (a b : ℕ). a + 256 * b) (get_or-append-add u bs at 0) (ap (code_at (u ++ bs) w) (add_assoc (length u) at 1) ∙ code_right w (at + 1))

  decoded_left : (w at count : ℕ) → at + count * w ≤ length u
      → decoded_from (λ place. code_at (u ++ bs) w place) w at count ≡ decoded_from (λ place. code_at u w place) w at count
  unfolding decoded_from
  decoded_left w at zero h = refl
  decoded_left w at (suc count) h =
      let e = suc-mul count w in
      ap₂ (λ (x : ℕ) (xs : List ℕ). x ∷ xs) (code_left w at (omega arith)) (decoded_left w (at + w) count (omega arith))

  decoded_right : (w at count : ℕ)
      → decoded_from (λ place. code_at (u ++ bs) w place) w (length u + at) count ≡ decoded_from (λ place. code_at bs w place) w at count
  unfolding decoded_from
  decoded_right w at zero = refl
  decoded_right w at (suc count) =
      ap₂ (λ (x : ℕ) (xs : List ℕ). x ∷ xs) (code_right w at)
      (ap (λ (p : ℕ). decoded_from (λ place. code_at (u ++ bs) w place) w p count) (add_assoc (length u) at w) ∙ decoded_right w (at + w) count)

  -- what is said against the codes, by their numbers and places
  module _ (refusal : ℕ → ℕ → Option GroupFault) where
    refused_left : (w at count : ℕ) → at + count * w ≤ length u
        → refused_from (λ place. refusal (code_at (u ++ bs) w place) place) w at count ≡ refused_from (λ place. refusal (code_at u w place) place) w at count
    unfolding refused_from
    refused_left w at zero h = refl
    refused_left w at (suc count) h =
        let e = suc-mul count w in
        ap₂ first_of (ap (λ (n : ℕ). refusal n at) (code_left w at (omega arith))) (refused_left w (at + w) count (omega arith))

    -- where nothing is said against a number, the place does not matter
    refused_right : ((n p r : ℕ) → refusal n p ≡ None → refusal n r ≡ None) → (w at count : ℕ)
        → refused_from (λ place. refusal (code_at bs w place) place) w at count ≡ None
        → refused_from (λ place. refusal (code_at (u ++ bs) w place) place) w (length u + at) count ≡ None
    unfolding refused_from
    refused_right moved w at zero e = refl
    refused_right moved w at (suc count) e =
        let none = first_none (refusal (code_at bs w at) at) (refused_from (λ place. refusal (code_at bs w place) place) w (at + w) count) e in
        ap₂ first_of
        (ap (λ (n : ℕ). refusal n (length u + at)) (code_right w at) ∙ moved (code_at bs w at) at (length u + at) none.0)
        (ap (λ (p : ℕ). refused_from (λ place. refusal (code_at (u ++ bs) w place) place) w p count) (add_assoc (length u) at w)
        ∙ refused_right moved w (at + w) count none.1)

no_place : (test : Bool) (a b : GroupFault) → ◌≡◌ {A = Option GroupFault} (cond test None (Some a)) None → ◌≡◌ {A = Option GroupFault} (cond test None (Some b)) None
no_place true a b e = refl
no_place false a b e = none_some a (sym e)

-- By layout: what a record that lies in front says, and what the record behind says.
module _ (m : Meaning) (t : ℕ) (u bs : List ℕ) where
  pub codes_left : (layout : Layout) (at : ℕ) → at + (2 + length_of m t layout) ≤ length u → codes_as m t layout (u ++ bs) at ≡ codes_as m t layout u at
  codes_left Elements at h = decoded_left u bs m.w (at + 5) (t + 1) (omega arith)
  codes_left Second at h = refl
  codes_left SecondAndShare at h = decoded_left u bs m.s (at + 6) 2 (omega arith)
  codes_left Nothing at h = refl

  pub judged_left : (layout : Layout) (at : ℕ) → at + (2 + length_of m t layout) ≤ length u → refused_as m t layout (u ++ bs) at ≡ refused_as m t layout u at
  judged_left Elements at h = refused_left u bs (element_refusal m) m.w (at + 5) (t + 1) (omega arith)
  judged_left Second at h = refl
  judged_left SecondAndShare at h = refused_left u bs (scalar_refusal m) m.s (at + 6) 2 (omega arith)
  judged_left Nothing at h = refl

  pub codes_right : (layout : Layout) → codes_as m t layout (u ++ bs) (length u) ≡ codes_as m t layout bs 0
  codes_right Elements = decoded_right u bs m.w 5 (t + 1)
  codes_right Second = refl
  codes_right SecondAndShare = decoded_right u bs m.s 6 2
  codes_right Nothing = refl

  pub judged_right : (layout : Layout) → refused_as m t layout bs 0 ≡ None → refused_as m t layout (u ++ bs) (length u) ≡ None
  judged_right Elements e = refused_right u bs (element_refusal m) (λ n p r h. no_place (m.member n) _ _ h) m.w 5 (t + 1) e
  judged_right Second e = refl
  judged_right SecondAndShare e = refused_right u bs (scalar_refusal m) (λ n p r h. no_place (ltb n m.q) _ _ h) m.s 6 2 e
  judged_right Nothing e = refl

-- the codes that are read of a record are those at its start
pub codes_read : (m : Meaning) (t : ℕ) (kind : Kind) (layout : Layout) (bytes : List ℕ) → (read_as m t kind layout bytes).codes ≡ codes_as m t layout bytes 0
codes_read m t kind Elements bytes = refl
codes_read m t kind Second bytes = refl
codes_read m t kind SecondAndShare bytes = refl
codes_read m t kind Nothing bytes = refl
