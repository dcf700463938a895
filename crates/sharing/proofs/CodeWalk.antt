-- One code more of codes that stand one after another.
use Rattle.std.proofs.Common.{◌≡◌, ℕ, zero, suc, ◌+◌, ◌-◌, ◌*◌, ◌<◌, ◌≤◌, Bool, true, [], ◌∷◌, Some, None, Err, Option, Result, sym, refl, ap, ◌∙◌, subst, ap₂, mul-le-mul_right, suc-mul, zero-mul, arith}
use Rattle.std.specs.List.{AllByRecursion}
use Rattle.group.specs.declared.fault.GroupFault.{GroupFault}
use Rattle.sharing.specs.Codes.{first_of, decoded_from, refused_from, Judges}
use Rattle.sharing.specs.LinearLaws.{first_none}

pub judges_refused : {E : Type 0} (refusal : Option GroupFault) (r : Result E GroupFault) (fault : GroupFault) → r ≡ Err fault → refusal ≡ Some fault → Judges refusal r
judges_refused refusal r fault e h = subst (Judges refusal) (sym e) h

-- the code k lies within all
pub room : (k count w : ℕ) → k < count → k * w + w ≤ count * w
room k count w h = let m : suc k * w ≤ count * w = mul-le-mul_right w h in omega (arith, suc-mul k w)

-- the place of the code k is one width past that of the code before it
pub place_after : (at k w : ℕ) → 0 < k → at + k * w ≡ at + (k - 1) * w + w
place_after at zero w h = absurd (omega arith)
place_after at (suc k) w h = let before : suc k - 1 ≡ k = omega arith in rw before (omega (arith, suc-mul k w))

pub place_next : (at k w : ℕ) → at + k * w + w ≡ at + (k + 1) * w
place_next at k w = let one : k + 1 ≡ suc k = omega arith in omega (arith, suc-mul k w, ap (λ (x : ℕ). x * w) one)

pub place_first : (at k w : ℕ) → k ≡ 0 → at + k * w ≡ at
place_first at k w e = let none : k * w ≡ 0 = ap (λ (x : ℕ). x * w) e ∙ zero-mul w in omega arith

module _ (refusal : ℕ → Option GroupFault) (w : ℕ) where
  refused_next : (p left rest : ℕ) → left ≡ suc rest → refused_from refusal w p left ≡ first_of (refusal p) (refused_from refusal w (p + w) rest)
  unfolding refused_from
  refused_next p left rest e = ap (refused_from refusal w p) e

  pub refused_here : (p left rest : ℕ) (fault : GroupFault) → left ≡ suc rest → refusal p ≡ Some fault → refused_from refusal w p left ≡ Some fault
  refused_here p left rest fault e h = refused_next p left rest e ∙ ap (λ r. first_of r (refused_from refusal w (p + w) rest)) h

  pub refused_later : (p left rest : ℕ) → left ≡ suc rest → refusal p ≡ None → refused_from refusal w p left ≡ refused_from refusal w (p + w) rest
  refused_later p left rest e h = refused_next p left rest e ∙ ap (λ r. first_of r (refused_from refusal w (p + w) rest)) h

  -- the code k is taken, and those behind it are left
  pub refused_behind : (at k count : ℕ) → k < count → refusal (at + k * w) ≡ None → refused_from refusal w (at + k * w) (count - k) ≡ refused_from refusal w (at + (k + 1) * w) (count - (k + 1))
  refused_behind at k count h none =
      let next : count - k ≡ suc (count - (k + 1)) = omega arith in
      refused_later (at + k * w) (count - k) (count - (k + 1)) next none ∙ ap (λ (p : ℕ). refused_from refusal w p (count - (k + 1))) (place_next at k w)

  pub refused_none : (p left : ℕ) → left ≡ 0 → refused_from refusal w p left ≡ None
  unfolding refused_from
  refused_none p left e = ap (refused_from refusal w p) e

  -- where none is refused, neither is the code k, nor one of those from k on
  pub taken_rest : (k p count : ℕ) → k ≤ count → refused_from refusal w p count ≡ None → refused_from refusal w (p + k * w) (count - k) ≡ None
  unfolding refused_from
  taken_rest zero p count h e =
      let place : p + 0 * w ≡ p = omega arith in
      let left : count - 0 ≡ count = omega arith in
      ap₂ (refused_from refusal w) place left ∙ e
  taken_rest (suc k) p zero h e = absurd (omega arith)
  taken_rest (suc k) p (suc count) h e =
      let place : p + suc k * w ≡ p + w + k * w = omega (arith, suc-mul k w) in
      let left : suc count - suc k ≡ count - k = omega arith in
      ap₂ (refused_from refusal w) place left
      ∙ taken_rest k (p + w) count (omega arith) (first_none (refusal p) (refused_from refusal w (p + w) count) e).1

  -- where none of all is refused, none of those in front is
  pub taken_front : (p k count : ℕ) → k ≤ count → refused_from refusal w p count ≡ None → refused_from refusal w p k ≡ None
  unfolding refused_from
  taken_front p zero count h e = refl
  taken_front p (suc k) zero h e = absurd (omega arith)
  taken_front p (suc k) (suc count) h e =
      let none = first_none (refusal p) (refused_from refusal w (p + w) count) e in
      ap₂ first_of none.0 (taken_front (p + w) k count (omega arith) none.1)

  pub taken_at : (k p count : ℕ) → k < count → refused_from refusal w p count ≡ None → refusal (p + k * w) ≡ None
  taken_at k p count h e =
      let next : count - k ≡ suc (count - (k + 1)) = omega arith in
      (first_none (refusal (p + k * w)) (refused_from refusal w (p + k * w + w) (count - (k + 1)))
      (sym (refused_next (p + k * w) (count - k) (count - (k + 1)) next) ∙ taken_rest k p count (omega arith) e)).0

module _ {V : Type 0} (decoded : ℕ → V) (w : ℕ) where
  pub decoded_next : (p left rest : ℕ) → left ≡ suc rest → decoded_from decoded w p left ≡ decoded p ∷ decoded_from decoded w (p + w) rest
  unfolding decoded_from
  decoded_next p left rest e = ap (decoded_from decoded w p) e

  pub decoded_none : (p left : ℕ) → left ≡ 0 → decoded_from decoded w p left ≡ []
  unfolding decoded_from
  decoded_none p left e = ap (decoded_from decoded w p) e

  pub decoded_members : (member : V → Bool) (refusal : ℕ → Option GroupFault) → ((at : ℕ) → refusal at ≡ None → member (decoded at) ≡ true)
      → (p count : ℕ) → refused_from refusal w p count ≡ None → AllByRecursion (λ v. member v ≡ true) (decoded_from decoded w p count)
  unfolding decoded_from refused_from
  decoded_members member refusal judged p zero e = tt
  decoded_members member refusal judged p (suc count) e =
      let none = first_none (refusal p) (refused_from refusal w (p + w) count) e in
      (judged p none.0, decoded_members member refusal judged (p + w) count none.1)
