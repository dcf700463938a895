-- A custodian: its pairs, the record that it owes, its letters and its sheet. Definitions.
use Rattle.std.specs.Prelude.{ℕ, ◌+◌, ◌*◌, Bool, true, false, cond, not, ◌&&◌, List, [], ◌∷◌, ◌++◌, map, length, take, drop, is_some, Some, None, Option, ◌==◌, nat_eq, nat_le, slice_index}
use Rattle.group.specs.Monoid.{power}
use Rattle.group.specs.Code.{code, code_at}
use Rattle.group.specs.Meaning.{Meaning, products}
use Rattle.sharing.specs.Value.{value_at}
use Rattle.sharing.specs.Codes.{decoded_from, refused_from, scalar_refused}
use Rattle.sharing.specs.Commitment.{commitment}
use Rattle.protocol.specs.declared.kind.Kind.{Kind}
use Rattle.protocol.specs.declared.kind.Kind.TheVariants as kinds
use Rattle.protocol.specs.declared.phase.Phase.{Phase}
use Rattle.protocol.specs.declared.phase.Phase.TheVariants.{Unopened, Dealing, Complaining, Answering, Exposing, Objecting, Revealing, Finished, Void}
use Rattle.protocol.specs.declared.fault.RecordFault.TheVariants as records
use Rattle.protocol.specs.declared.fault.CeremonyFault.{CeremonyFault}
use Rattle.protocol.specs.declared.fault.CeremonyFault.TheVariants.{Record, OutOfPhase, NoSeat, EqualSeats, Missing, Repeated}
use Rattle.protocol.specs.declared.fault.CustodianFault.{CustodianFault}
use Rattle.protocol.specs.declared.fault.CustodianFault.TheVariants.{Ceremony, TooSmall, Stranger}
use Rattle.protocol.specs.declared.report.Report.{Report}
use Rattle.protocol.specs.declared.report.Layer.TheVariants as layers
use Rattle.protocol.specs.Seats.{is_seat, lowest, holds, mapped, or_else}
use Rattle.protocol.specs.Record.{Posted, framed, kind_number, length_field, kind_field, write_record}
use Rattle.protocol.specs.Board.{Board, phase_of, phase_number, entry, has, deal_of, exposure_of, complained, objected, revealed, share_in, shares, passes1, passes2, qualified, contested, dealers}
use Rattle.protocol.specs.Refusals.{unless, first_fault, is_framed, report_of}

-- A seated custodian: its seat, the label, n and t of its ceremony, its coefficients (a_k, b_k), and the share in the letter taken from each dealer.
pub record Custodian : Type 0 where
  pub seat : ℕ
  pub label : List ℕ
  pub n : ℕ
  pub t : ℕ
  pub coefficients : List (ℕ × ℕ)
  pub letters : ℕ → Option (ℕ × ℕ)

-- its share for the seat j: the values of a and of b there
abbrev pub own_share : Meaning → Custodian → ℕ → ℕ × ℕ
own_share m c j = value_at (shares m) c.coefficients j

abbrev pub exposed : Meaning → ℕ × ℕ → ℕ
exposed m pair = power (products m) m.g pair.0

-- a share, where it passes a test
abbrev pub if_passes : (ℕ × ℕ → Bool) → Option (ℕ × ℕ) → Option (ℕ × ℕ)
if_passes test None = None
if_passes test (Some share) = cond (test share) (Some share) None

-- its share from the dealer i: its own value, else the first that passes equation 1 of the letter's and the Answer's
unfoldable pub share_from : Meaning → Board → Custodian → ℕ → Option (ℕ × ℕ)
share_from m b c i =
    cond (i == c.seat) (Some (own_share m c i))
    (or_else (if_passes (passes1 m b i c.seat) (c.letters i))
    (if_passes (passes1 m b i c.seat) (mapped share_in (entry b.taken kinds.Answer i c.seat))))

-- The record that it owes, by phase.

abbrev pub other : Custodian → ℕ → Bool
other c i = not (i == c.seat)

-- a dealer to complain of: its letter is missing or fails equation 1
unfoldable pub to_complain_of : Meaning → Board → Custodian → ℕ → Bool
to_complain_of m b c i =
    other c i && (is_some (deal_of b i) && (not (complained b c.seat i) && not (holds (c.letters i) (passes1 m b i c.seat))))

-- a complainer to answer
unfoldable pub to_answer : Board → Custodian → ℕ → Bool
to_answer b c j = complained b j c.seat && not (has b.taken kinds.Answer c.seat j)

-- a dealer to object to: its share is there and fails equation 2
unfoldable pub to_object_to : Meaning → Board → Custodian → ℕ → Bool
to_object_to m b c i =
    other c i && (qualified m b i && (is_some (exposure_of b i)
    && (holds (share_from m b c i) (λ share. not (passes2 m b i c.seat share.0)) && not (objected b c.seat i))))

-- a contested dealer to reveal the share of
unfoldable pub to_reveal : Meaning → Board → Custodian → ℕ → Bool
to_reveal m b c i = contested m b i && (is_some (share_from m b c i) && not (revealed b c.seat i))

abbrev pub share_codes : Option (ℕ × ℕ) → List ℕ
share_codes None = []
share_codes (Some share) = share.0 ∷ share.1 ∷ []

abbrev pub by : Custodian → Kind → ℕ → List ℕ → Posted
by c kind second codes = record { kind = kind; writer = c.seat; second = second; codes = codes }

unfoldable pub owed_in : Meaning → Board → Custodian → Phase → Option Posted
owed_in m b c Unopened = None
owed_in m b c Dealing =
    cond (is_some (deal_of b c.seat)) None (Some (by c kinds.Deal 0 (map (commitment m) c.coefficients)))
owed_in m b c Complaining =
    mapped (λ i. by c kinds.Complaint i []) (lowest b.n (to_complain_of m b c))
owed_in m b c Answering =
    mapped (λ j. by c kinds.Answer j (share_codes (Some (own_share m c j)))) (lowest b.n (to_answer b c))
owed_in m b c Exposing =
    cond (qualified m b c.seat && not (is_some (exposure_of b c.seat))) (Some (by c kinds.Exposure 0 (map (exposed m) c.coefficients))) None
owed_in m b c Objecting =
    mapped (λ i. by c kinds.Objection i (share_codes (share_from m b c i))) (lowest b.n (to_object_to m b c))
owed_in m b c Revealing =
    mapped (λ i. by c kinds.Reveal i (share_codes (share_from m b c i))) (lowest b.n (to_reveal m b c))
owed_in m b c Finished = None
owed_in m b c Void = None

unfoldable pub owed : Meaning → Board → Custodian → Option Posted
owed m b c = owed_in m b c (phase_of m b)

-- Letters: label, writer, addressee, s, s'.

pub record Letter : Type 0 where
  pub label : List ℕ
  pub writer : ℕ
  pub addressee : ℕ
  pub share : ℕ × ℕ

abbrev pub write_letter : Meaning → Letter → List ℕ
write_letter m l =
    framed kinds.Letter (l.label ++ (l.writer ∷ l.addressee ∷ (code m.s l.share.0 ++ code m.s l.share.1)))

abbrev pub read_letter : Meaning → List ℕ → Letter
read_letter m bytes = record {
  label = take 16 (drop 4 bytes);
  writer = slice_index bytes 20;
  addressee = slice_index bytes 21;
  share = (code_at bytes m.s 22, code_at bytes m.s (22 + m.s));
}

abbrev pub letter_to : Meaning → Board → Custodian → ℕ → Letter
letter_to m b c j = record { label = b.label; writer = c.seat; addressee = j; share = own_share m c j }

-- The sheet: label, seat, and its shares from the qualified dealers by rising seat.

pub record Sheet : Type 0 where
  pub label : List ℕ
  pub seat : ℕ
  pub shares : List (ℕ × ℕ)

abbrev pub cons_if_both : {A : Type 0} → Option A → Option (List A) → Option (List A)
cons_if_both None rest = None
cons_if_both (Some a) None = None
cons_if_both (Some a) (Some rest) = Some (a ∷ rest)

-- all of them, where each is there
unfoldable pub all_of : {A : Type 0} → (ℕ → Option A) → List ℕ → Option (List A)
all_of f [] = Some []
all_of f (i ∷ is) = cons_if_both (f i) (all_of f is)

unfoldable pub sheet_of : Meaning → Board → Custodian → Option Sheet
sheet_of m b c = mapped (λ found. record { label = b.label; seat = c.seat; shares = found }) (all_of (share_from m b c) (dealers m b))

unfoldable pub pair_codes : ℕ → List (ℕ × ℕ) → List ℕ
pair_codes w [] = []
pair_codes w (share ∷ rest) = code w share.0 ++ (code w share.1 ++ pair_codes w rest)

abbrev pub write_sheet : Meaning → Sheet → List ℕ
write_sheet m s = framed kinds.Sheet (s.label ++ (s.seat ∷ pair_codes m.s s.shares))

-- The tests of a custodian's calls, in their order.

abbrev pub in_ceremony : CeremonyFault → CustodianFault
in_ceremony fault = Ceremony fault

abbrev pub is_opened : Meaning → Board → Bool
is_opened m b = not (phase_number (phase_of m b) == 0)

abbrev pub in_phase : Meaning → Board → Phase → Bool
in_phase m b phase = phase_number (phase_of m b) == phase_number phase

-- two labels are the same bytes
unfoldable pub same_bytes : List ℕ → List ℕ → Bool
same_bytes [] [] = true
same_bytes [] (y ∷ ys) = false
same_bytes (x ∷ xs) [] = false
same_bytes (x ∷ xs) (y ∷ ys) = x == y && same_bytes xs ys

-- the custodian is seated, and of this ceremony
abbrev pub belongs : Board → Option Custodian → Bool
belongs b custodian = holds custodian (λ c. same_bytes c.label b.label && (c.n == b.n && c.t == b.t))

unfoldable pub seating_fault : Meaning → Board → Option Custodian → ℕ → ℕ → List ℕ → Option CustodianFault
seating_fault m b custodian store seat coefficients =
    first_fault (
    unless (is_opened m b) (Ceremony (OutOfPhase 0))
    ∷ unless (length coefficients == 2 * (b.t + 1) * m.s) (Ceremony (Record (records.Length 0)))
    ∷ unless (in_phase m b Dealing) (Ceremony (OutOfPhase 0))
    ∷ unless (is_seat b.n seat) (Ceremony (NoSeat 0))
    ∷ unless (not (is_some custodian)) (Ceremony (Repeated 0))
    ∷ mapped (λ fault. Ceremony (Record (records.Code fault))) (refused_from (scalar_refused m coefficients) m.s 0 (2 * (b.t + 1)))
    ∷ unless (nat_le ((2 * (b.t + 1) + 2 * b.n) * m.s) store) TooSmall ∷ [])

-- the code of b_k stands t + 1 codes behind that of a_k
abbrev pub coefficients_in : Meaning → ℕ → List ℕ → List (ℕ × ℕ)
coefficients_in m count bytes =
    decoded_from (λ place. (code_at bytes m.s place, code_at bytes m.s (place + count * m.s))) m.s 0 count

abbrev pub seated : Meaning → Board → ℕ → List ℕ → Custodian
seated m b seat coefficients = record {
  seat = seat;
  label = b.label;
  n = b.n;
  t = b.t;
  coefficients = coefficients_in m (b.t + 1) coefficients;
  letters = λ i. None;
}

unfoldable pub writing_fault : Meaning → Board → Option Custodian → ℕ → ℕ → Option CustodianFault
writing_fault m b custodian addressee room =
    first_fault (
    unless (is_opened m b) (Ceremony (OutOfPhase 0))
    ∷ unless (belongs b custodian) (Stranger 0)
    ∷ unless (in_phase m b Dealing) (Ceremony (OutOfPhase 0))
    ∷ unless (is_seat b.n addressee) (Ceremony (NoSeat 0))
    ∷ unless (not (holds custodian (λ c. nat_eq c.seat addressee))) (Ceremony (EqualSeats 0))
    ∷ unless (nat_le (22 + 2 * m.s) room) TooSmall ∷ [])

unfoldable pub taking_fault : Meaning → Board → Option Custodian → List ℕ → Option CustodianFault
taking_fault m b custodian bytes =
    let letter = read_letter m bytes in
    first_fault (
    unless (is_opened m b) (Ceremony (OutOfPhase 0))
    ∷ unless (belongs b custodian) (Stranger 0)
    ∷ unless (is_framed bytes) (Ceremony (Record (records.Frame 0)))
    ∷ unless (kind_field bytes == kind_number kinds.Letter) (Ceremony (Record (records.Kind 2)))
    ∷ unless (length_field bytes == 20 + 2 * m.s) (Ceremony (Record (records.Length 0)))
    ∷ unless (in_phase m b Dealing) (Ceremony (OutOfPhase 2))
    ∷ unless (is_seat b.n letter.writer) (Ceremony (NoSeat 20))
    ∷ unless (is_seat b.n letter.addressee) (Ceremony (NoSeat 21))
    ∷ unless (not (letter.writer == letter.addressee)) (Ceremony (EqualSeats 21))
    ∷ unless (not (holds custodian (λ c. is_some (c.letters letter.writer)))) (Ceremony (Repeated 20))
    ∷ mapped (λ fault. Ceremony (Record (records.Code fault))) (refused_from (scalar_refused m bytes) m.s 22 2)
    ∷ unless (same_bytes letter.label b.label) (Stranger 4)
    ∷ unless (holds custodian (λ c. nat_eq letter.addressee c.seat)) (Stranger 21) ∷ [])

abbrev pub with_letter : Letter → Custodian → Custodian
with_letter l c = record {
  seat = c.seat;
  label = c.label;
  n = c.n;
  t = c.t;
  coefficients = c.coefficients;
  letters = λ i. cond (i == l.writer) (Some l.share) (c.letters i);
}

-- the output has room for what is written; nothing to write needs none
abbrev pub has_room : Option (List ℕ) → ℕ → Bool
has_room None room = true
has_room (Some bytes) room = nat_le (length bytes) room

abbrev pub owed_bytes : Meaning → Board → Option Custodian → Option (List ℕ)
owed_bytes m b None = None
owed_bytes m b (Some c) = mapped (write_record m) (owed m b c)

unfoldable pub owing_fault : Meaning → Board → Option Custodian → ℕ → Option CustodianFault
owing_fault m b custodian room =
    first_fault (
    unless (is_opened m b) (Ceremony (OutOfPhase 0))
    ∷ unless (belongs b custodian) (Stranger 0)
    ∷ unless (has_room (owed_bytes m b custodian) room) TooSmall ∷ [])

abbrev pub sheet_bytes : Meaning → Board → Option Custodian → Option (List ℕ)
sheet_bytes m b None = None
sheet_bytes m b (Some c) = mapped (write_sheet m) (sheet_of m b c)

unfoldable pub sheet_fault : Meaning → Board → Option Custodian → ℕ → Option CustodianFault
sheet_fault m b custodian room =
    first_fault (
    unless (is_opened m b) (Ceremony (OutOfPhase 0))
    ∷ unless (belongs b custodian) (Stranger 0)
    ∷ unless (in_phase m b Finished) (Ceremony (OutOfPhase 0))
    ∷ unless (is_some (sheet_bytes m b custodian)) (Ceremony (Missing 0))
    ∷ unless (has_room (sheet_bytes m b custodian) room) TooSmall ∷ [])

-- The number, layer, place and reason of each fault.
abbrev pub custodian_report : CustodianFault → Report
custodian_report (Ceremony fault) = report_of fault
custodian_report TooSmall = record { number = 14; layer = layers.Custodian; place = 0; reason = 0 }
custodian_report (Stranger place) = record { number = 15; layer = layers.Custodian; place = place; reason = 0 }
