-- An operation with its unit on the values of a type, and powers. Definitions.
use Rattle.std.specs.Prelude.{◌≡◌, ℕ, zero, suc, Bool, true}

pub record Monoid (V : Type 0) : Type 0 where
  pub op : V → V → V
  pub unit : V

-- v^n: v, n times, under the operation; where the operation is a sum, this is the multiple n·v
unfoldable pub power : {V : Type 0} → Monoid V → V → ℕ → V
power m v zero = m.unit
power m v (suc n) = m.op v (power m v n)

-- on the members the operation is closed, associative and commutative, and the unit is a member and neutral
pub record Commutative {V : Type 0} (member : V → Bool) (m : Monoid V) : Type 0 where
  pub closed : (u v : V) → member u ≡ true → member v ≡ true → member (m.op u v) ≡ true
  pub unit_member : member m.unit ≡ true
  pub assoc : (u v w : V) → member u ≡ true → member v ≡ true → member w ≡ true → m.op (m.op u v) w ≡ m.op u (m.op v w)
  pub comm : (u v : V) → member u ≡ true → member v ≡ true → m.op u v ≡ m.op v u
  pub neutral : (u : V) → member u ≡ true → m.op m.unit u ≡ u
