-- Records that stand one after another in bytes, and the board that they say. Definitions.
use Rattle.std.specs.Prelude.{ℕ, zero, suc, ◌+◌, Bool, cond, List, [], ◌∷◌, map, take, ◌==◌}
use Rattle.group.specs.Meaning.{Meaning}
use Rattle.protocol.specs.declared.kind.Kind.TheVariants as kinds
use Rattle.protocol.specs.Record.{Posted, kind_with, length_field, kind_field, read_record}
use Rattle.protocol.specs.Board.{Board}
use Rattle.protocol.specs.Refusals.{n_field, t_field, label_field, kind_or}

-- the records that start in the bytes, of which the first `left` end one that started before
unfoldable pub records_after : ℕ → List ℕ → List (List ℕ)
records_after left [] = []
records_after zero (byte ∷ rest) = take (2 + length_field (byte ∷ rest)) (byte ∷ rest) ∷ records_after (suc (length_field (byte ∷ rest))) rest
records_after (suc left) (byte ∷ rest) = records_after left rest

-- whether the last of them ends with the bytes
unfoldable pub ends_after : ℕ → List ℕ → Bool
ends_after left [] = left == 0
ends_after zero (byte ∷ rest) = ends_after (suc (length_field (byte ∷ rest))) rest
ends_after (suc left) (byte ∷ rest) = ends_after left rest

abbrev pub records_in : List ℕ → List (List ℕ)
records_in bytes = records_after 0 bytes

abbrev pub are_records : List ℕ → Bool
are_records bytes = ends_after 0 bytes

-- what a taken record says; an Opening has no writer
abbrev pub said : Meaning → ℕ → List ℕ → Posted
said m t bytes =
    cond (kind_field bytes == 1) (record { kind = kinds.Opening; writer = 0; second = 0; codes = [] })
    (read_record m t (kind_or kinds.Close (kind_with (kind_field bytes))) bytes)

-- the board that records say, the first of them the Opening; no bytes say the empty board
unfoldable pub board_in : Meaning → List ℕ → Board
board_in m bytes = record {
  n = n_field bytes;
  t = t_field bytes;
  label = label_field bytes;
  taken = map (said m (t_field bytes)) (records_in bytes);
}
