-- What each call of a dealing answers. Definitions.
use Rattle.std.specs.Prelude.{◌≡◌, ℕ, ◌*◌, Bool, cond, ◌&&◌, List, ◌++◌, length, Some, None, Ok, Err, Option, Result, ◌==◌, nat_le, codes, decimal}
use Rattle.std.proofs.Math.Seq.{paste}
use Rattle.group.specs.declared.fault.GroupFault.{GroupFault}
use Rattle.group.specs.Code.{code, code_at}
use Rattle.group.specs.Meaning.{Meaning, products}
use Rattle.group.specs.Reading as reading
use Rattle.sharing.specs.Value.{value_at}
use Rattle.sharing.specs.Codes.{first_of, decoded_from, refused_from, scalar_refused, element_refused}
use Rattle.sharing.specs.Commitment.{commitment}
use Rattle.protocol.specs.Seats.{is_seat}
use Rattle.protocol.specs.Record.{write_record}
use Rattle.dealing.specs.Dealing.{commitments_of, deal_of, share_for}
use Rattle.dealing.specs.declared.sides.Sides.{Sides}
use Rattle.dealing.specs.declared.fault.DealingFault.{DealingFault}
use Rattle.dealing.specs.declared.fault.DealingFault.TheVariants.{Length, NoSeat, Code, Output}

-- the number of each refusal
abbrev pub number_of : DealingFault → ℕ
number_of Length = 3
number_of NoSeat = 5
number_of (Code fault) = 9
number_of Output = 14

-- the byte that it names in what was handed over, else 0
abbrev pub place_of : DealingFault → ℕ
place_of Length = 0
place_of NoSeat = 0
place_of (Code fault) = reading.place_of fault
place_of Output = 0

-- the group's reason, else 0
abbrev pub reason_of : DealingFault → ℕ
reason_of Length = 0
reason_of NoSeat = 0
reason_of (Code fault) = reading.reason_of fault
reason_of Output = 0

-- the text of a refusal: its number, its place and its reason
abbrev pub refusal_text : DealingFault → List ℕ
refusal_text fault =
    codes "refused with " ++ (decimal (number_of fault) ++ (codes " at " ++ (decimal (place_of fault) ++ (codes ", reason " ++ decimal (reason_of fault)))))

-- an answer that stands where a test holds
abbrev pub unless : {A : Type 0} → Bool → DealingFault → Result A DealingFault → Result A DealingFault
unless test fault answer = cond test answer (Err fault)

-- an answer that stands where no code is refused
abbrev pub where_taken : {A : Type 0} → Option GroupFault → Result A DealingFault → Result A DealingFault
where_taken None answer = answer
where_taken (Some fault) answer = Err (Code fault)

-- an answer that stands where the coefficients and the seat pass: tested are the length, then the seat, then the codes in order
abbrev pub where_passed : {A : Type 0} → Meaning → List ℕ → ℕ → ℕ → Result A DealingFault → Result A DealingFault
where_passed m coefficients count seat answer =
    unless (length coefficients == 2 * (count * m.s)) Length
    (unless (is_seat 32 seat) NoSeat
    (where_taken (refused_from (scalar_refused m coefficients) m.s 0 (2 * count)) answer))

-- the coefficients are tested before the room for what is written
abbrev pub drawn_up : Meaning → List ℕ → ℕ → ℕ → ℕ → List ℕ → Result (List ℕ) DealingFault
drawn_up m coefficients count seat room written =
    where_passed m coefficients count seat (unless (nat_le (length written) room) Output (Ok written))

-- what drawing up a Deal answers: the record
abbrev pub deal_drawn_up : Meaning → ℕ → ℕ → List ℕ → ℕ → Result (List ℕ) DealingFault
deal_drawn_up m seat count coefficients room =
    drawn_up m coefficients count seat room (write_record m (deal_of seat (commitments_of m coefficients count)))

-- what drawing up a share answers: the codes of s and s'
abbrev pub share_drawn_up : Meaning → ℕ → List ℕ → ℕ → ℕ → Result (List ℕ) DealingFault
share_drawn_up m count coefficients seat room =
    let share = share_for m coefficients count seat in
    drawn_up m coefficients count seat room (code m.s share.0 ++ code m.s share.1)

-- what was drawn up stands at the start of the output, whose other bytes stay; a refusal changes nothing
abbrev pub Writes : Result (List ℕ) DealingFault → List ℕ → Result ℕ DealingFault → List ℕ → Type 0
Writes (Ok written) before r after = (r ≡ Ok (length written)) × (after ≡ paste before 0 written (length written))
Writes (Err fault) before r after = (r ≡ Err fault) × (after ≡ before)

-- what testing a share answers: both sides of equation 1, each read from its bytes;
-- tested are first the lengths, then the seat, then the codes of the commitments, then those of the share
abbrev pub sides_of : Meaning → ℕ → List ℕ → List ℕ → ℕ → Result Sides DealingFault
sides_of m count commitments share seat =
    unless (length commitments == count * m.w && length share == 2 * m.s) Length
    (unless (is_seat 32 seat) NoSeat
    (where_taken (refused_from (element_refused m commitments) m.w 0 count)
    (where_taken (first_of (scalar_refused m share 0) (scalar_refused m share m.s))
    (Ok (record {
      committed = commitment m (code_at share m.s 0, code_at share m.s m.s);
      value = value_at (products m) (decoded_from (λ place. code_at commitments m.w place) m.w 0 count) seat;
    })))))
