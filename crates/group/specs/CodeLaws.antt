-- A code has as many bytes as its width. Proofs.
use Rattle.std.specs.Prelude.{◌≡◌, ℕ, zero, suc, ◌/◌, length, refl}
use Rattle.std.proofs.Common.{ap}
use Rattle.group.specs.Code.{code}

pub code_length : (w n : ℕ) → length (code w n) ≡ w
unfolding code
code_length zero n = refl
code_length (suc w) n = ap suc (code_length w (n / 256))
