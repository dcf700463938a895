-- The members of both groups: the candidates whose q-th power is the unit. Definitions.
use Rattle.std.specs.Prelude.{ℕ, Bool, ◌&&◌, ◌==◌, nat_lt}
use Rattle.group.specs.Monoid.{Monoid, power}

-- the numbers from 1 to below n
abbrev pub positive_below : ℕ → ℕ → Bool
positive_below n u = nat_lt 0 u && nat_lt u n

abbrev pub roots : (ℕ → Bool) → Monoid ℕ → ℕ → ℕ → Bool
roots candidate m q u = candidate u && power m u q == m.unit
