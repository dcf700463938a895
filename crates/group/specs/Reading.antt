-- What reading a code answers, and what an inverse is. Definitions.
use Rattle.std.specs.Prelude.{◌≡◌, ℕ, ◌*◌, ◌%◌, cond, Some, None, Ok, Err, Option, Result, nat_lt}
use Rattle.group.specs.Meaning.{Meaning}
use Rattle.group.specs.declared.fault.GroupFault.{GroupFault}
use Rattle.group.specs.declared.fault.GroupFault.TheVariants.{NoCandidate, NoMember}

-- the number of each reason
abbrev pub reason_of : GroupFault → ℕ
reason_of (NoCandidate place) = 1
reason_of (NoMember place) = 2

-- where the refused code stands
abbrev pub place_of : GroupFault → ℕ
place_of (NoCandidate place) = place
place_of (NoMember place) = place

-- what is said against the element code of number n that stands at a place
abbrev pub element_refusal : Meaning → ℕ → ℕ → Option GroupFault
element_refusal m n place = cond (m.member n) None (Some (cond (m.candidate n) (NoMember place) (NoCandidate place)))

-- what is said against the scalar code of number n that stands at a place
abbrev pub scalar_refusal : Meaning → ℕ → ℕ → Option GroupFault
scalar_refusal m n place = cond (nat_lt n m.q) None (Some (NoCandidate place))

-- what reading a value answers: the value v, where nothing is said against its code; else the refusal
abbrev pub Reads : {E V : Type 0} → Option GroupFault → (E → V) → V → Result E GroupFault → Type 0
Reads refusal of v (Ok x) = (refusal ≡ None) × (of x ≡ v)
Reads refusal of v (Err fault) = refusal ≡ Some fault

-- the inverse modulo q of a scalar; only 0 has none
abbrev pub Inverts : {S : Type 0} → ℕ → (S → ℕ) → S → Option S → Type 0
Inverts q scalar_of x (Some y) = (scalar_of y * scalar_of x) % q ≡ 1
Inverts q scalar_of x None = scalar_of x ≡ 0
