-- Group 2: polynomials over GF(2) modulo z^17 + z^3 + 1, bit k the coefficient of z^k. Definitions.
use Rattle.std.specs.Prelude.{◌≡◌, ℕ, zero, suc, ◌*◌, ◌/◌, ◌%◌, ◌<◌, bit_xor}
use Rattle.group.specs.Monoid.{Monoid}
use Rattle.group.specs.Meaning.{Meaning}
use Rattle.group.specs.Subgroup.{positive_below, roots}

-- z·a: where z^17 comes up, z^17 + z^3 + 1 is taken away
unfoldable pub times_z : ℕ → ℕ
times_z a = bit_xor (a * 2) (a / 65536 % 2 * 131081)

-- the sum of z^k·a over the n low bits k of b that are set
unfoldable pub sum_of_shifts : ℕ → ℕ → ℕ → ℕ
sum_of_shifts zero a b = 0
sum_of_shifts (suc n) a b = bit_xor (b % 2 * a) (sum_of_shifts n (times_z a) (b / 2))

abbrev pub times_reduced : Monoid ℕ
times_reduced = record { op = sum_of_shifts 17; unit = 1 }

abbrev pub polynomials : Meaning
polynomials = record {
  number = 2;
  w = 3;
  s = 3;
  q = 131071;
  candidate = positive_below 131072;
  member = roots (positive_below 131072) times_reduced 131071;
  product = times_reduced.op;
  unit = 1;
  g = 2;
  h = 3;
}

-- the product of a and b as polynomials over GF(2), where b has at most n bits: nothing is taken away
unfoldable pub carryless : ℕ → ℕ → ℕ → ℕ
carryless zero a b = 0
carryless (suc n) a b = bit_xor (b % 2 * a) (carryless n (a * 2) (b / 2))

-- r is what division of the polynomial by z^17 + z^3 + 1 leaves: it has a degree below 17, and the rest is a multiple
abbrev pub Remainder : ℕ → ℕ → Type 0
Remainder polynomial r = (r < 131072) × ((c : ℕ) × (c < 131072) × (polynomial ≡ bit_xor (carryless 17 131081 c) r))

-- the group's product is the remainder of the product of polynomials, and no other number is one
abbrev pub ProductIsRemainder : Type 0
ProductIsRemainder =
    (a b : ℕ) → a < 131072 → b < 131072
    → Remainder (carryless 17 a b) (polynomials.product a b) × ((r : ℕ) → Remainder (carryless 17 a b) r → r ≡ polynomials.product a b)
