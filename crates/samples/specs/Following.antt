-- Which number follows another. Definitions.
use Rattle.std.specs.Prelude.{ℕ, ◌+◌, ◌*◌, ◌%◌, ◌^◌}

abbrev pub following : ℕ → ℕ
following n = (n * 1664525 + 1013904223) % 2 ^ 32
