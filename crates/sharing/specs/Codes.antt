-- Codes that stand one after another in bytes. Definitions.
use Rattle.std.specs.Prelude.{◌≡◌, ℕ, zero, suc, ◌+◌, List, [], ◌∷◌, Some, None, Ok, Err, Option, Result}
use Rattle.group.specs.declared.fault.GroupFault.{GroupFault}
use Rattle.group.specs.Code.{code_at}
use Rattle.group.specs.Meaning.{Meaning}
use Rattle.group.specs.Reading.{element_refusal, scalar_refusal}

-- the first of two refusals
abbrev pub first_of : Option GroupFault → Option GroupFault → Option GroupFault
first_of (Some fault) later = Some fault
first_of None later = later

-- the values of `count` codes of a width, from a place on
unfoldable pub decoded_from : {V : Type 0} → (ℕ → V) → ℕ → ℕ → ℕ → List V
decoded_from decoded width at zero = []
decoded_from decoded width at (suc count) = decoded at ∷ decoded_from decoded width (at + width) count

-- what is said against the first of them that is refused
unfoldable pub refused_from : (ℕ → Option GroupFault) → ℕ → ℕ → ℕ → Option GroupFault
refused_from refusal width at zero = None
refused_from refusal width at (suc count) = first_of (refusal at) (refused_from refusal width (at + width) count)

-- what is said against the element code, and the scalar code, at a place
abbrev pub element_refused : Meaning → List ℕ → ℕ → Option GroupFault
element_refused m bytes at = element_refusal m (code_at bytes m.w at) at

abbrev pub scalar_refused : Meaning → List ℕ → ℕ → Option GroupFault
scalar_refused m bytes at = scalar_refusal m (code_at bytes m.s at) at

-- what judging answers
abbrev pub Judges : {E : Type 0} → Option GroupFault → Result E GroupFault → Type 0
Judges refusal (Ok x) = refusal ≡ None
Judges refusal (Err fault) = refusal ≡ Some fault
