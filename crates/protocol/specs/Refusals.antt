-- The tests of opening and posting, in their order. The first that fails decides. Definitions.
use Rattle.std.specs.Prelude.{ℕ, ◌+◌, ◌-◌, ◌*◌, Bool, true, false, not, ◌&&◌, ◌||◌, List, [], ◌∷◌, ◌++◌, length, take, drop, is_some, Some, None, Option, ◌==◌, nat_le, nat_lt, slice_index}
use Rattle.group.specs.declared.fault.GroupFault.{GroupFault}
use Rattle.group.specs.Code.{code_at}
use Rattle.group.specs.Meaning.{Meaning}
use Rattle.group.specs.Reading as reading
use Rattle.sharing.specs.Codes.{refused_from, element_refused, scalar_refused}
use Rattle.protocol.specs.declared.kind.Kind.{Kind}
use Rattle.protocol.specs.declared.kind.Kind.TheVariants as kinds
use Rattle.protocol.specs.declared.fault.RecordFault.{RecordFault}
use Rattle.protocol.specs.declared.fault.RecordFault.TheVariants as records
use Rattle.protocol.specs.declared.fault.Equation.{Equation}
use Rattle.protocol.specs.declared.fault.Equation.TheVariants.{First, Second}
use Rattle.protocol.specs.declared.fault.CeremonyFault.{CeremonyFault}
use Rattle.protocol.specs.declared.fault.CeremonyFault.TheVariants.{Record, OutOfPhase, NoSeat, EqualSeats, Missing, Repeated, Unequal, FewReveals, Parameter, SmallArea, SmallOutput}
use Rattle.protocol.specs.declared.report.Report.{Report}
use Rattle.protocol.specs.declared.report.Layer.TheVariants as layers
use Rattle.protocol.specs.Seats.{is_seat, or_else, mapped}
use Rattle.protocol.specs.Record.{kind_number, kind_with, length_field, kind_field, layout_of, length_of, writer_of, second_of, read_record}
use Rattle.protocol.specs.Board.{Board, phase_of, phase_number, has, deal_of, exposure_of, complained, objected, revealed, share_in, passes1, passes2, qualified, contested, all_revealed}

-- A test: what it says against the call, or nothing.
abbrev pub unless : {F : Type 0} → Bool → F → Option F
unless true fault = None
unless false fault = Some fault

-- the first fault of all
unfoldable pub first_fault : {F : Type 0} → List (Option F) → Option F
first_fault [] = None
first_fault (test ∷ tests) = or_else test (first_fault tests)

abbrev pub code_fault : Option GroupFault → Option CeremonyFault
code_fault refusal = mapped (λ fault. Record (records.Code fault)) refusal

-- four bytes, a length of 2 or more, and as many bytes as it says
abbrev pub is_framed : List ℕ → Bool
is_framed bytes = nat_le 4 (length bytes) && (nat_le 2 (length_field bytes) && 2 + length_field bytes == length bytes)

abbrev pub frame_test : List ℕ → Option CeremonyFault
frame_test bytes = unless (is_framed bytes) (Record (records.Frame 0))

abbrev pub length_test : Meaning → Board → Kind → List ℕ → Option CeremonyFault
length_test m b kind bytes = unless (length_field bytes == length_of m b.t (layout_of kind)) (Record (records.Length 0))

-- kinds 2 to 7 belong to the phases 1 to 6 in that order
abbrev pub phase_test : Meaning → Board → Kind → Option CeremonyFault
phase_test m b kind = unless (phase_number (phase_of m b) + 1 == kind_number kind) (OutOfPhase 2)

abbrev pub seat_test : Board → ℕ → ℕ → Option CeremonyFault
seat_test b i place = unless (is_seat b.n i) (NoSeat place)

abbrev pub differ_test : List ℕ → Option CeremonyFault
differ_test bytes = unless (not (writer_of bytes == second_of bytes)) (EqualSeats 5)

abbrev pub element_test : Meaning → Board → List ℕ → Option CeremonyFault
element_test m b bytes = code_fault (refused_from (element_refused m bytes) m.w 5 (b.t + 1))

abbrev pub share_test : Meaning → List ℕ → Option CeremonyFault
share_test m bytes = code_fault (refused_from (scalar_refused m bytes) m.s 6 2)

-- The tests behind the kind, for each kind. i and j are the writer and the second seat.
unfoldable pub tests_of : Meaning → Board → List ℕ → Kind → List (Option CeremonyFault)
tests_of m b bytes kinds.Deal =
    let i = writer_of bytes in
    length_test m b kinds.Deal bytes ∷ phase_test m b kinds.Deal ∷ seat_test b i 4
    ∷ unless (not (is_some (deal_of b i))) (Repeated 4)
    ∷ element_test m b bytes ∷ []
tests_of m b bytes kinds.Complaint =
    let j = writer_of bytes in
    let i = second_of bytes in
    length_test m b kinds.Complaint bytes ∷ phase_test m b kinds.Complaint ∷ seat_test b j 4 ∷ seat_test b i 5 ∷ differ_test bytes
    ∷ unless (is_some (deal_of b i)) (Missing 5)
    ∷ unless (not (complained b j i)) (Repeated 4) ∷ []
tests_of m b bytes kinds.Answer =
    let i = writer_of bytes in
    let j = second_of bytes in
    length_test m b kinds.Answer bytes ∷ phase_test m b kinds.Answer ∷ seat_test b i 4 ∷ seat_test b j 5 ∷ differ_test bytes
    ∷ unless (complained b j i) (Missing 5)
    ∷ unless (not (has b.taken kinds.Answer i j)) (Repeated 4)
    ∷ share_test m bytes ∷ []
tests_of m b bytes kinds.Exposure =
    let i = writer_of bytes in
    length_test m b kinds.Exposure bytes ∷ phase_test m b kinds.Exposure ∷ seat_test b i 4
    ∷ unless (qualified m b i) (Missing 4)
    ∷ unless (not (is_some (exposure_of b i))) (Repeated 4)
    ∷ element_test m b bytes ∷ []
tests_of m b bytes kinds.Objection =
    let j = writer_of bytes in
    let i = second_of bytes in
    let share = share_in (read_record m b.t kinds.Objection bytes).codes in
    length_test m b kinds.Objection bytes ∷ phase_test m b kinds.Objection ∷ seat_test b j 4 ∷ seat_test b i 5 ∷ differ_test bytes
    ∷ unless (qualified m b i && is_some (exposure_of b i)) (Missing 5)
    ∷ unless (not (objected b j i)) (Repeated 4)
    ∷ share_test m bytes
    ∷ unless (passes1 m b i j share) (Unequal 6 First)
    ∷ unless (not (passes2 m b i j share.0)) (Unequal 6 Second) ∷ []
tests_of m b bytes kinds.Reveal =
    let j = writer_of bytes in
    let i = second_of bytes in
    length_test m b kinds.Reveal bytes ∷ phase_test m b kinds.Reveal ∷ seat_test b j 4 ∷ seat_test b i 5
    ∷ unless (contested m b i) (Missing 5)
    ∷ unless (not (revealed b j i)) (Repeated 4)
    ∷ share_test m bytes
    ∷ unless (passes1 m b i j (share_in (read_record m b.t kinds.Reveal bytes).codes)) (Unequal 6 First) ∷ []
tests_of m b bytes kinds.Close =
    let phase = phase_number (phase_of m b) in
    length_test m b kinds.Close bytes
    ∷ unless (nat_le 1 phase && nat_le phase 6) (OutOfPhase 2)
    ∷ unless (writer_of bytes == phase) (OutOfPhase 4)
    ∷ unless (not (phase == 6) || all_revealed m b) (FewReveals 4) ∷ []
tests_of m b bytes kinds.Opening = Some (Record (records.Kind 2)) ∷ []
tests_of m b bytes kinds.Letter = Some (Record (records.Kind 2)) ∷ []
tests_of m b bytes kinds.Sheet = Some (Record (records.Kind 2)) ∷ []

abbrev pub tests_for : Meaning → Board → List ℕ → Option Kind → List (Option CeremonyFault)
tests_for m b bytes None = Some (Record (records.Kind 2)) ∷ []
tests_for m b bytes (Some kind) = tests_of m b bytes kind

-- what posting says against the bytes of a record; where it says nothing, the record is taken
unfoldable pub posting_fault : Meaning → Board → List ℕ → Option CeremonyFault
posting_fault m b bytes =
    first_fault (unless (not (phase_number (phase_of m b) == 0)) (OutOfPhase 0) ∷ frame_test bytes ∷ tests_for m b bytes (kind_with (kind_field bytes)))

-- Opening: group number, n, t and a label of sixteen bytes.

abbrev pub group_field : List ℕ → ℕ
group_field bytes = code_at bytes 2 4

abbrev pub n_field : List ℕ → ℕ
n_field bytes = slice_index bytes 6

abbrev pub t_field : List ℕ → ℕ
t_field bytes = slice_index bytes 7

abbrev pub label_field : List ℕ → List ℕ
label_field bytes = take 16 (drop 8 bytes)

-- the size that the area must have
abbrev pub area_needed : Meaning → ℕ → ℕ → ℕ
area_needed m n t = 54 + 2 * n * (5 + (t + 1) * m.w) + 6 * n * (n - 1) + (3 * n * n - 2 * n) * (6 + 2 * m.s)

unfoldable pub opening_fault : Meaning → Board → ℕ → List ℕ → Option CeremonyFault
opening_fault m b area bytes =
    let n = n_field bytes in
    let t = t_field bytes in
    first_fault (
    frame_test bytes
    ∷ unless (kind_field bytes == 1) (Record (records.Kind 2))
    ∷ unless (length_field bytes == 22) (Record (records.Length 0))
    ∷ unless (phase_number (phase_of m b) == 0) (OutOfPhase 2)
    ∷ unless (group_field bytes == m.number) (Parameter 4)
    ∷ unless (is_seat 32 n) (Parameter 6)
    ∷ unless (nat_lt (2 * t) n) (Parameter 7)
    ∷ unless (nat_le (area_needed m n t) area) SmallArea ∷ [])

-- What a call leaves of the board.

abbrev pub opened : List ℕ → Board
opened bytes = record {
  n = n_field bytes;
  t = t_field bytes;
  label = label_field bytes;
  taken = record { kind = kinds.Opening; writer = 0; second = 0; codes = [] } ∷ [];
}

abbrev pub kind_or : Kind → Option Kind → Kind
kind_or kind None = kind
kind_or kind (Some other) = other

abbrev pub posted : Meaning → Board → List ℕ → Board
posted m b bytes = record {
  n = b.n;
  t = b.t;
  label = b.label;
  taken = b.taken ++ (read_record m b.t (kind_or kinds.Close (kind_with (kind_field bytes))) bytes ∷ []);
}

-- a call that is refused changes nothing
abbrev pub unless_fault : Option CeremonyFault → Board → Board → Board
unless_fault None after before = after
unless_fault (Some fault) after before = before

abbrev pub after_opening : Meaning → Board → ℕ → List ℕ → Board
after_opening m b area bytes = unless_fault (opening_fault m b area bytes) (opened bytes) b

abbrev pub after_posting : Meaning → Board → List ℕ → Board
after_posting m b bytes = unless_fault (posting_fault m b bytes) (posted m b bytes) b

-- records posted one after another
unfoldable pub replayed : Meaning → Board → List (List ℕ) → Board
replayed m b [] = b
replayed m b (bytes ∷ rest) = replayed m (after_posting m b bytes) rest

-- How many equations a posting tests: an Answer taken one, an Objection taken two, a Reveal taken one, a refusal by an equation its number.

abbrev pub equation_number : Equation → ℕ
equation_number First = 1
equation_number Second = 2

abbrev pub equations_taken : Option Kind → ℕ
equations_taken None = 0
equations_taken (Some kinds.Opening) = 0
equations_taken (Some kinds.Deal) = 0
equations_taken (Some kinds.Complaint) = 0
equations_taken (Some kinds.Answer) = 1
equations_taken (Some kinds.Exposure) = 0
equations_taken (Some kinds.Objection) = 2
equations_taken (Some kinds.Reveal) = 1
equations_taken (Some kinds.Close) = 0
equations_taken (Some kinds.Letter) = 0
equations_taken (Some kinds.Sheet) = 0

abbrev pub equations_refused : CeremonyFault → ℕ
equations_refused (Record fault) = 0
equations_refused (OutOfPhase place) = 0
equations_refused (NoSeat place) = 0
equations_refused (EqualSeats place) = 0
equations_refused (Missing place) = 0
equations_refused (Repeated place) = 0
equations_refused (Unequal place equation) = equation_number equation
equations_refused (FewReveals place) = 0
equations_refused (Parameter place) = 0
equations_refused SmallArea = 0
equations_refused SmallOutput = 0

abbrev pub equations_by : Option CeremonyFault → Option Kind → ℕ
equations_by None kind = equations_taken kind
equations_by (Some fault) kind = equations_refused fault

-- how many equations posting tested, taken or refused
abbrev pub equations_tested : Meaning → Board → List ℕ → ℕ
equations_tested m b bytes = equations_by (posting_fault m b bytes) (kind_with (kind_field bytes))

-- over records posted one after another
unfoldable pub equations_replayed : Meaning → Board → List (List ℕ) → ℕ
equations_replayed m b [] = 0
equations_replayed m b (bytes ∷ rest) = equations_tested m b bytes + equations_replayed m (after_posting m b bytes) rest

-- The number, layer, place and reason of each fault.

abbrev pub record_report : RecordFault → Report
record_report (records.Frame place) = record { number = 1; layer = layers.Frame; place = place; reason = 0 }
record_report (records.Kind place) = record { number = 2; layer = layers.Frame; place = place; reason = 0 }
record_report (records.Length place) = record { number = 3; layer = layers.Frame; place = place; reason = 0 }
record_report (records.Code fault) = record { number = 9; layer = layers.Group; place = reading.place_of fault; reason = reading.reason_of fault }

abbrev pub report_of : CeremonyFault → Report
report_of (Record fault) = record_report fault
report_of (OutOfPhase place) = record { number = 4; layer = layers.Ceremony; place = place; reason = 0 }
report_of (NoSeat place) = record { number = 5; layer = layers.Ceremony; place = place; reason = 0 }
report_of (EqualSeats place) = record { number = 6; layer = layers.Ceremony; place = place; reason = 0 }
report_of (Missing place) = record { number = 7; layer = layers.Ceremony; place = place; reason = 0 }
report_of (Repeated place) = record { number = 8; layer = layers.Ceremony; place = place; reason = 0 }
report_of (Unequal place equation) = record { number = 10; layer = layers.Ceremony; place = place; reason = equation_number equation }
report_of (FewReveals place) = record { number = 11; layer = layers.Ceremony; place = place; reason = 0 }
report_of (Parameter place) = record { number = 12; layer = layers.Ceremony; place = place; reason = 0 }
report_of SmallArea = record { number = 13; layer = layers.Ceremony; place = 0; reason = 0 }
report_of SmallOutput = record { number = 14; layer = layers.Custodian; place = 0; reason = 0 }
