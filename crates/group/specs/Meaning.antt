-- What a sealing group is: its numbers and widths, its elements as numbers, and the laws. Definitions.
use Rattle.std.specs.Prelude.{◌≡◌, ℕ, ◌%◌, ◌^◌, ◌<◌, ◌≤◌, Bool, true, ◌≢◌}
use Rattle.group.specs.Monoid.{Monoid, power, Commutative}

pub record Prime (q : ℕ) : Type 0 where
  pub above_one : 1 < q
  pub no_divisor : (d : ℕ) → 1 < d → d < q → q % d ≢ 0

-- An element is known by its number. `w` and `s` are the widths of an element code and of a scalar code, in bytes.
pub record Meaning : Type 0 where
  pub number : ℕ
  pub w : ℕ
  pub s : ℕ
  pub q : ℕ
  pub candidate : ℕ → Bool
  pub member : ℕ → Bool
  pub product : ℕ → ℕ → ℕ
  pub unit : ℕ
  pub g : ℕ
  pub h : ℕ

abbrev pub products : Meaning → Monoid ℕ
products m = record { op = m.product; unit = m.unit }

-- What is asked of every group, and all that is assumed of one.
pub record Lawful (m : Meaning) : Type 0 where
  pub number_two_bytes : m.number < 2 ^ 16
  pub w_from : 1 ≤ m.w
  pub w_to : m.w ≤ 4
  pub s_from : 1 ≤ m.s
  pub s_to : m.s ≤ 4
  pub q_above : 64 < m.q
  pub q_below : m.q < 2 ^ 32
  pub q_prime : Prime m.q
  pub scalar_fits : m.q ≤ 256 ^ m.s
  pub member_fits : (u : ℕ) → m.member u ≡ true → u < 256 ^ m.w
  pub member_candidate : (u : ℕ) → m.member u ≡ true → m.candidate u ≡ true
  pub commutative : Commutative m.member (products m)
  pub order : (u : ℕ) → m.member u ≡ true → power (products m) u m.q ≡ m.unit
  pub g_member : m.member m.g ≡ true
  pub h_member : m.member m.h ≡ true
  pub g_no_unit : m.g ≡ m.unit → ⊥
