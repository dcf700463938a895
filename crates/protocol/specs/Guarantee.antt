-- The guarantee, for every group with the laws and every history. Definitions.
use Rattle.std.specs.Prelude.{◌≡◌, ℕ, ◌+◌, ◌*◌, ◌<◌, ◌≤◌, Bool, true, ◌⊎◌, List, [], ◌∷◌, ◌++◌, map, length, is_some, Some, None, slice_index}
use Rattle.std.specs.List.{AllByRecursion}
use Rattle.group.specs.Monoid.{power}
use Rattle.group.specs.Meaning.{Meaning, Lawful, products}
use Rattle.sharing.specs.Commitment.{commitment}
use Rattle.sharing.specs.Interpolation.{Seats}
use Rattle.protocol.specs.declared.kind.Kind.TheVariants as kinds
use Rattle.protocol.specs.declared.phase.Phase.TheVariants.{Void, Finished}
use Rattle.protocol.specs.declared.fault.CeremonyFault.TheVariants.{FewReveals}
use Rattle.protocol.specs.declared.recovered.Recovered.TheVariants.{Logarithm, Openings}
use Rattle.protocol.specs.Seats.{count}
use Rattle.protocol.specs.Record.{Posted}
use Rattle.protocol.specs.Board.{Board, phase_of, phase_number, deal_of, qualified, contested, revealed_share, key}
use Rattle.protocol.specs.Refusals.{posting_fault}
use Rattle.protocol.specs.Custodian.{Custodian, Sheet, owed, share_from, sheet_of, write_sheet}
use Rattle.protocol.specs.Recovery.{sheet_passes, sheets_share, recovery_fault, recovered_from}
use Rattle.protocol.specs.History.{Call, Made, after, Faithful}

-- n − t or more seats are faithful after the calls
pub record Trusted (m : Meaning) (made : Made) (calls : List Call) (set : ℕ → Bool) (of : ℕ → ℕ) : Type 0 where
  pub faithful : Faithful m made calls set of
  pub enough : (after m made calls).board.n ≤ count (after m made calls).board.n set + (after m made calls).board.t

-- (a) From the close of the answers on each of them is qualified; the ceremony is never void;
-- its last Close is refused for want of Reveals only while one of them owes a Reveal.
pub record Upheld (m : Meaning) (made : Made) (calls : List Call) (set : ℕ → Bool) (of : ℕ → ℕ) : Type 0 where
  pub stay_qualified : 4 ≤ phase_number (phase_of m (after m made calls).board) → (i : ℕ) → set i ≡ true → qualified m (after m made calls).board i ≡ true
  pub never_void : phase_of m (after m made calls).board ≡ Void → ⊥
  pub last_close : (bytes : List ℕ) (place : ℕ) → posting_fault m (after m made calls).board bytes ≡ Some (FewReveals place)
      → (i : ℕ) × (c : Custodian) × (r : Posted) × (set i ≡ true) × ((after m made calls).custodians (of i) ≡ Some c)
      × (owed m (after m made calls).board c ≡ Some r) × (r.kind ≡ kinds.Reveal)

-- (b) Once it is finished each of them has a share from every qualified dealer, and its sheet passes.
abbrev pub Complete : (m : Meaning) (made : Made) (calls : List Call) (set : ℕ → Bool) (of : ℕ → ℕ) → Type 0
Complete m made calls set of =
    phase_of m (after m made calls).board ≡ Finished
    → (i : ℕ) → set i ≡ true → (c : Custodian) → (after m made calls).custodians (of i) ≡ Some c
    → ((d : ℕ) → qualified m (after m made calls).board d ≡ true → is_some (share_from m (after m made calls).board c d) ≡ true)
    × ((s : Sheet) × (sheet_of m (after m made calls).board c ≡ Some s) × (sheet_passes m (after m made calls).board s ≡ true))

-- x is the one number below q with g^x equal to u
pub record IsLogarithm (m : Meaning) (x u : ℕ) : Type 0 where
  pub below : x < m.q
  pub is : power (products m) m.g x ≡ u
  pub only : (y : ℕ) → y < m.q → power (products m) m.g y ≡ u → y ≡ x

abbrev pub Agree : Meaning → Board → List Sheet → Type 0
Agree m b sheets = (i : ℕ) → contested m b i ≡ true → (sheets_share m b sheets i).0 ≡ (revealed_share m b i).0

unfoldable pub sheets_written : Meaning → List Sheet → List ℕ
sheets_written m [] = []
sheets_written m (s ∷ rest) = write_sheet m s ++ sheets_written m rest

-- the answer x, the logarithm of the key
pub record Found (m : Meaning) (b : Board) (bytes : List ℕ) : Type 0 where
  pub x : ℕ
  pub answer : recovered_from m b bytes ≡ Logarithm x
  pub logarithm : IsLogarithm m x (key m b)

-- the answer by two openings of one first commitment, and the logarithm of h
pub record Opened (m : Meaning) (b : Board) (bytes : List ℕ) : Type 0 where
  pub dealer : ℕ
  pub y : ℕ × ℕ
  pub z : ℕ × ℕ
  pub w : ℕ
  pub commitments : List ℕ
  pub answer : recovered_from m b bytes ≡ Openings dealer y z w
  pub deal : deal_of b dealer ≡ Some commitments
  pub different : y.0 ≡ z.0 → ⊥
  pub opens_y : commitment m y ≡ slice_index commitments 0
  pub opens_z : commitment m z ≡ slice_index commitments 0
  pub logarithm : IsLogarithm m w m.h

-- (c) Once it is finished, recovery from any t + 1 passing sheets of different seats, given its scratch, is not refused,
-- and answers x exactly where they agree with the Reveals.
abbrev pub Recoverable : Meaning → Board → Type 0
Recoverable m b =
    phase_of m b ≡ Finished → (sheets : List Sheet) → length sheets ≡ b.t + 1
    → AllByRecursion (λ s. sheet_passes m b s ≡ true) sheets → Seats (map (λ s. s.seat) sheets)
    → (scratch : ℕ) → 2 * (b.t + 1) * m.s ≤ scratch
    → (recovery_fault m b scratch (sheets_written m sheets) ≡ None)
    × ((Agree m b sheets × Found m b (sheets_written m sheets)) ⊎ ((Agree m b sheets → ⊥) × Opened m b (sheets_written m sheets)))

pub record Holds (m : Meaning) (made : Made) (calls : List Call) : Type 0 where
  pub upheld : (set : ℕ → Bool) (of : ℕ → ℕ) → Trusted m made calls set of → Upheld m made calls set of
  pub complete : (set : ℕ → Bool) (of : ℕ → ℕ) → Trusted m made calls set of → Complete m made calls set of
  pub recoverable : Recoverable m (after m made calls).board

abbrev pub Guarantee : Type 0
Guarantee = (m : Meaning) → Lawful m → (made : Made) (calls : List Call) → Holds m made calls
