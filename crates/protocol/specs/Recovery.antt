-- Recovery from sheets: which sheets pass, and what they give. Definitions.
use Rattle.std.specs.Prelude.{ℕ, zero, suc, ◌+◌, ◌*◌, ◌%◌, Bool, true, false, cond, not, ◌&&◌, ◌||◌, List, [], ◌∷◌, map, length, take, drop, Some, None, Option, ◌==◌, nat_le, nat_lt, slice_index}
use Rattle.group.specs.Code.{code_at}
use Rattle.group.specs.Meaning.{Meaning}
use Rattle.sharing.specs.Codes.{decoded_from, refused_from, scalar_refused}
use Rattle.sharing.specs.Interpolation.{minus, inverse, interpolated}
use Rattle.protocol.specs.declared.kind.Kind.TheVariants as kinds
use Rattle.protocol.specs.declared.phase.Phase.TheVariants.{Finished}
use Rattle.protocol.specs.declared.recovered.Recovered.{Recovered}
use Rattle.protocol.specs.declared.recovered.Recovered.TheVariants.{Logarithm, Openings}
use Rattle.protocol.specs.declared.fault.RecordFault.TheVariants as records
use Rattle.protocol.specs.declared.fault.Equation.TheVariants.{First, Second}
use Rattle.protocol.specs.declared.fault.CeremonyFault.TheVariants.{Record, OutOfPhase, NoSeat, Repeated, Unequal}
use Rattle.protocol.specs.declared.fault.CustodianFault.{CustodianFault}
use Rattle.protocol.specs.declared.fault.CustodianFault.TheVariants.{Ceremony, TooSmall, Stranger}
use Rattle.protocol.specs.Seats.{is_seat, lowest, mapped}
use Rattle.protocol.specs.Record.{kind_number}
use Rattle.protocol.specs.Board.{Board, shares, passes1, passes2, contested, dealers, revealed_share}
use Rattle.protocol.specs.Refusals.{unless, first_fault}
use Rattle.protocol.specs.Custodian.{Sheet, in_phase, same_bytes}

-- A sheet passes where its label and seat are of this ceremony, and each share is below q and satisfies its equations.

abbrev pub share_below : Meaning → ℕ × ℕ → Bool
share_below m share = nat_lt share.0 m.q && nat_lt share.1 m.q

abbrev pub share_passes : Meaning → Board → ℕ → ℕ → ℕ × ℕ → Bool
share_passes m b i j share = passes1 m b i j share && (contested m b i || passes2 m b i j share.0)

-- the shares at the seat j, from these dealers
unfoldable pub shares_pass : Meaning → Board → ℕ → List ℕ → List (ℕ × ℕ) → Bool
shares_pass m b j [] [] = true
shares_pass m b j [] (share ∷ rest) = false
shares_pass m b j (i ∷ is) [] = false
shares_pass m b j (i ∷ is) (share ∷ rest) = (share_below m share && share_passes m b i j share) && shares_pass m b j is rest

unfoldable pub sheet_passes : Meaning → Board → Sheet → Bool
sheet_passes m b s = same_bytes s.label b.label && (is_seat b.n s.seat && shares_pass m b s.seat (dealers m b) s.shares)

-- What is worked out of sheets.

-- the share from the dealer i, among shares from these dealers
unfoldable pub share_of : List ℕ → List (ℕ × ℕ) → ℕ → ℕ × ℕ
share_of [] rest i = (0, 0)
share_of (d ∷ ds) [] i = (0, 0)
share_of (d ∷ ds) (share ∷ rest) i = cond (i == d) share (share_of ds rest i)

abbrev pub sheet_entries : Meaning → Board → List Sheet → ℕ → List (ℕ × (ℕ × ℕ))
sheet_entries m b sheets i = map (λ s. (s.seat, share_of (dealers m b) s.shares i)) sheets

-- (y, y')
abbrev pub sheets_share : Meaning → Board → List Sheet → ℕ → ℕ × ℕ
sheets_share m b sheets i = interpolated (shares m) m.q (sheet_entries m b sheets i)

-- a contested dealer for whom the sheets do not agree with the Reveals
unfoldable pub disagrees : Meaning → Board → List Sheet → ℕ → Bool
disagrees m b sheets i = contested m b i && not ((sheets_share m b sheets i).0 == (revealed_share m b i).0)

unfoldable pub sum_over : ℕ → (ℕ → ℕ) → List ℕ → ℕ
sum_over q f [] = 0
sum_over q f (i ∷ is) = (f i + sum_over q f is) % q

-- (z − y) / (y' − z') modulo q
abbrev pub quotient : Meaning → ℕ × ℕ → ℕ × ℕ → ℕ
quotient m y z = (minus m.q z.0 y.0 * inverse m.q (minus m.q y.1 z.1)) % m.q

abbrev pub answer_for : Meaning → Board → List Sheet → Option ℕ → Recovered
answer_for m b sheets None = Logarithm (sum_over m.q (λ i. (sheets_share m b sheets i).0) (dealers m b))
answer_for m b sheets (Some i) =
    Openings i (sheets_share m b sheets i) (revealed_share m b i) (quotient m (sheets_share m b sheets i) (revealed_share m b i))

unfoldable pub recovery : Meaning → Board → List Sheet → Recovered
recovery m b sheets = answer_for m b sheets (lowest b.n (disagrees m b sheets))

-- The bytes of sheets, one after another, and their tests in order.

abbrev pub sheet_at : Meaning → ℕ → List ℕ → ℕ → Sheet
sheet_at m count bytes at = record {
  label = take 16 (drop (at + 4) bytes);
  seat = slice_index bytes (at + 20);
  shares = decoded_from (λ place. (code_at bytes m.s place, code_at bytes m.s (place + m.s))) (2 * m.s) (at + 21) count;
}

abbrev pub sheet_size : Meaning → ℕ → ℕ
sheet_size m count = 21 + 2 * count * m.s

-- the first share that fails an equation, its codes from a place on
unfoldable pub equations_fault : Meaning → Board → ℕ → List ℕ → List (ℕ × ℕ) → ℕ → Option CustodianFault
equations_fault m b j [] shares place = None
equations_fault m b j (i ∷ is) [] place = None
equations_fault m b j (i ∷ is) (share ∷ rest) place =
    first_fault (
    unless (passes1 m b i j share) (Ceremony (Unequal place First))
    ∷ unless (contested m b i || passes2 m b i j share.0) (Ceremony (Unequal place Second))
    ∷ equations_fault m b j is rest (place + 2 * m.s) ∷ [])

unfoldable pub among : ℕ → List ℕ → Bool
among i [] = false
among i (j ∷ js) = i == j || among i js

-- the sheet at a place, after sheets of some seats
unfoldable pub sheet_fault_at : Meaning → Board → List ℕ → List ℕ → ℕ → Option CustodianFault
sheet_fault_at m b bytes earlier at =
    let count = length (dealers m b) in
    let sheet = sheet_at m count bytes at in
    let size = 2 + code_at bytes 2 at in
    first_fault (
    unless (nat_le (at + 4) (length bytes) && (nat_le 4 size && nat_le (at + size) (length bytes))) (Ceremony (Record (records.Frame at)))
    ∷ unless (code_at bytes 2 (at + 2) == kind_number kinds.Sheet) (Ceremony (Record (records.Kind (at + 2))))
    ∷ unless (size == sheet_size m count) (Ceremony (Record (records.Length at)))
    ∷ unless (is_seat b.n sheet.seat) (Ceremony (NoSeat (at + 20)))
    ∷ unless (not (among sheet.seat earlier)) (Ceremony (Repeated (at + 20)))
    ∷ mapped (λ fault. Ceremony (Record (records.Code fault))) (refused_from (scalar_refused m bytes) m.s (at + 21) (2 * count))
    ∷ equations_fault m b sheet.seat (dealers m b) sheet.shares (at + 21)
    ∷ unless (same_bytes sheet.label b.label) (Stranger (at + 4)) ∷ [])

-- a number of sheets from a place on, then bytes left over
unfoldable pub sheets_fault : Meaning → Board → List ℕ → List ℕ → ℕ → ℕ → Option CustodianFault
sheets_fault m b bytes earlier zero at = unless (at == length bytes) (Ceremony (Record (records.Length at)))
sheets_fault m b bytes earlier (suc left) at =
    let count = length (dealers m b) in
    first_fault (
    sheet_fault_at m b bytes earlier at
    ∷ sheets_fault m b bytes ((sheet_at m count bytes at).seat ∷ earlier) left (at + sheet_size m count) ∷ [])

unfoldable pub recovery_fault : Meaning → Board → ℕ → List ℕ → Option CustodianFault
recovery_fault m b scratch bytes =
    first_fault (
    unless (in_phase m b Finished) (Ceremony (OutOfPhase 0))
    ∷ unless (nat_le (2 * (b.t + 1) * m.s) scratch) TooSmall
    ∷ sheets_fault m b bytes [] (b.t + 1) 0 ∷ [])

unfoldable pub sheets_in : Meaning → ℕ → List ℕ → ℕ → ℕ → List Sheet
sheets_in m count bytes zero at = []
sheets_in m count bytes (suc left) at = sheet_at m count bytes at ∷ sheets_in m count bytes left (at + sheet_size m count)

-- what recovery answers where it is not refused
abbrev pub recovered_from : Meaning → Board → List ℕ → Recovered
recovered_from m b bytes = recovery m b (sheets_in m (length (dealers m b)) bytes (b.t + 1) 0)
