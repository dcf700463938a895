-- The hypotheses of the guarantee are met, and both answers of recovery occur. Definitions.
use Rattle.std.specs.Prelude.{◌≡◌, ℕ, ◌+◌, Bool, true, List, map, length}
use Rattle.std.specs.List.{AllByRecursion}
use Rattle.group.specs.Meaning.{Meaning, Lawful}
use Rattle.sharing.specs.Interpolation.{Seats}
use Rattle.protocol.specs.declared.phase.Phase.TheVariants.{Finished}
use Rattle.protocol.specs.declared.recovered.Recovered.TheVariants.{Logarithm, Openings}
use Rattle.protocol.specs.Board.{Board, phase_of, contested}
use Rattle.protocol.specs.Custodian.{Sheet}
use Rattle.protocol.specs.Recovery.{sheet_passes, recovered_from}
use Rattle.protocol.specs.History.{Call, Made, after}
use Rattle.protocol.specs.Guarantee.{Trusted, sheets_written}

-- t + 1 passing sheets of different seats
pub record Enough (m : Meaning) (b : Board) (sheets : List Sheet) : Type 0 where
  pub many : length sheets ≡ b.t + 1
  pub passing : AllByRecursion (λ s. sheet_passes m b s ≡ true) sheets
  pub different : Seats (map (λ s. s.seat) sheets)

-- a lawful group and a finished history with a trusted set and a contested dealer; sheets that give the logarithm, and sheets that give two openings
pub record Met : Type 0 where
  pub m : Meaning
  pub laws : Lawful m
  pub made : Made
  pub calls : List Call
  pub set : ℕ → Bool
  pub of : ℕ → ℕ
  pub trusted : Trusted m made calls set of
  pub finished : phase_of m (after m made calls).board ≡ Finished
  pub dealer : ℕ
  pub liar : contested m (after m made calls).board dealer ≡ true
  pub sheets : List Sheet
  pub enough : Enough m (after m made calls).board sheets
  pub x : ℕ
  pub answer : recovered_from m (after m made calls).board (sheets_written m sheets) ≡ Logarithm x
  pub others : List Sheet
  pub others_enough : Enough m (after m made calls).board others
  pub y : ℕ × ℕ
  pub z : ℕ × ℕ
  pub w : ℕ
  pub others_answer : recovered_from m (after m made calls).board (sheets_written m others) ≡ Openings dealer y z w
