-- Pedersen commitments, and the two equations that a share is tested by. Definitions.
use Rattle.std.specs.Prelude.{ℕ, Bool, List, ◌==◌}
use Rattle.group.specs.Monoid.{power}
use Rattle.group.specs.Meaning.{Meaning, products}
use Rattle.sharing.specs.Value.{value_at}

-- g^s·h^s' of a share (s, s')
abbrev pub commitment : Meaning → ℕ × ℕ → ℕ
commitment m share = m.product (power (products m) m.g share.0) (power (products m) m.h share.1)

-- equation 1: the share at seat j opens the value at j of the commitments C_0 .. C_t
abbrev pub equation1 : Meaning → List ℕ → ℕ → ℕ × ℕ → Bool
equation1 m commitments j share = commitment m share == value_at (products m) commitments j

-- equation 2: g^s is the value at j of A_0 .. A_t
abbrev pub equation2 : Meaning → List ℕ → ℕ → ℕ → Bool
equation2 m exposed j s = power (products m) m.g s == value_at (products m) exposed j
