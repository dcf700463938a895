-- The laws of powers, for every group. Definitions.
use Rattle.std.specs.Prelude.{◌≡◌, ℕ, ◌+◌, ◌*◌, ◌%◌, true}
use Rattle.group.specs.Monoid.{power}
use Rattle.group.specs.Meaning.{Meaning, Lawful, products}

pub record PowersOf (m : Meaning) (u v a b : ℕ) : Type 0 where
  pub sum : power (products m) u (a + b) ≡ m.product (power (products m) u a) (power (products m) u b)
  pub multiple : power (products m) u (a * b) ≡ power (products m) (power (products m) u a) b
  pub modulo : power (products m) u (a % m.q) ≡ power (products m) u a
  pub of_product : power (products m) (m.product u v) a ≡ m.product (power (products m) u a) (power (products m) v a)

abbrev pub PowerLaws : Type 0
PowerLaws = (m : Meaning) → Lawful m → (u v : ℕ) → m.member u ≡ true → m.member v ≡ true → (a b : ℕ) → PowersOf m u v a b
