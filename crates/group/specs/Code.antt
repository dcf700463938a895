-- Numbers in bytes, lowest byte first. Definitions.
use Rattle.std.specs.Prelude.{◌≡◌, ℕ, zero, suc, ◌+◌, ◌*◌, ◌/◌, ◌%◌, ◌^◌, ◌<◌, ◌≤◌, List, [], ◌∷◌, length, slice_index}
use Rattle.std.proofs.Math.Seq.{paste}

-- the code of n: its w low bytes
unfoldable pub code : ℕ → ℕ → List ℕ
code zero n = []
code (suc w) n = n % 256 ∷ code w (n / 256)

-- the number that the w bytes from a place on spell
unfoldable pub code_at : List ℕ → ℕ → ℕ → ℕ
code_at bytes zero at = 0
code_at bytes (suc w) at = slice_index bytes at + 256 * code_at bytes w (at + 1)

-- the bytes with the code of n from a place on; every other byte stays
abbrev pub with_code : List ℕ → ℕ → ℕ → ℕ → List ℕ
with_code bytes w at n = paste bytes at (code w n) w

-- reading what was written gives it back
abbrev pub CodesReadBack : Type 0
CodesReadBack =
    (bytes : List ℕ) (w at n : ℕ) → at + w ≤ length bytes → n < 256 ^ w → code_at (with_code bytes w at n) w at ≡ n
