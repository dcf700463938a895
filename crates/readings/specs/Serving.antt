-- The Reveals that serve for a dealer: whose they are, and their shares. Definitions.
use Rattle.std.specs.Prelude.{ℕ, ◌+◌, List, take}
use Rattle.protocol.specs.declared.kind.Kind.TheVariants.{Reveal}
use Rattle.protocol.specs.Seats.{those}
use Rattle.protocol.specs.Board.{Board, entry, revealed, share_or0}

abbrev pub serving_seats : Board → ℕ → List ℕ
serving_seats b i = take (b.t + 1) (those b.n (λ j. revealed b j i))

abbrev pub share_of : Board → ℕ → ℕ → ℕ × ℕ
share_of b i j = share_or0 (entry b.taken Reveal j i)
