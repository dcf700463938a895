-- What can be added and scaled: scalars, group elements, and pairs. Definitions.
use Rattle.std.specs.Prelude.{◌≡◌, ℕ, ◌+◌, ◌%◌, Bool, true, ◌&&◌}
use Rattle.group.specs.Monoid.{Monoid, power}

-- n·v: v, added n times
abbrev pub scaled : {V : Type 0} → Monoid V → ℕ → V → V
scaled sum n v = power sum v n

-- q is an exponent of the sum: the multiple by q of every member is the unit
abbrev pub Exponent : {V : Type 0} → ℕ → (V → Bool) → Monoid V → Type 0
Exponent {V} q member sum = (v : V) → member v ≡ true → scaled sum q v ≡ sum.unit

-- scalars: sums modulo q
abbrev pub scalar_sum : ℕ → Monoid ℕ
scalar_sum q = record { op = λ x y. (x + y) % q; unit = 0 }

-- pairs, part by part
abbrev pub pair_sum : {A B : Type 0} → Monoid A → Monoid B → Monoid (A × B)
pair_sum a b = record { op = λ x y. (a.op x.0 y.0, b.op x.1 y.1); unit = (a.unit, b.unit) }

abbrev pub both_members : {A B : Type 0} → (A → Bool) → (B → Bool) → A × B → Bool
both_members in_a in_b x = in_a x.0 && in_b x.1
