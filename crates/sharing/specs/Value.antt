-- The value of a polynomial at a number. Definitions.
use Rattle.std.specs.Prelude.{ℕ, suc, ◌^◌, List, [], ◌∷◌}
use Rattle.group.specs.Monoid.{Monoid}
use Rattle.sharing.specs.Linear.{scaled}

-- the sum of j^(k + i)·v_i over the coefficients v_0, v_1, ..
unfoldable pub sum_from : {V : Type 0} → Monoid V → List V → ℕ → ℕ → V
sum_from sum [] j k = sum.unit
sum_from sum (v ∷ vs) j k = sum.op (scaled sum (j ^ k) v) (sum_from sum vs j (suc k))

-- the value at j: the sum of j^k·v_k
abbrev pub value_at : {V : Type 0} → Monoid V → List V → ℕ → V
value_at sum vs j = sum_from sum vs j 0
