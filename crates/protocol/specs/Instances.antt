-- What the definitions decide on small boards, three seats with t = 1. The check computes each of these facts. Definitions.
use Rattle.std.specs.Prelude.{◌≡◌, ℕ, ◌+◌, ◌%◌, true, false, cond, List, [], ◌∷◌, ◌++◌, Some, None, Option, ◌==◌, nat_eq, nat_lt}
use Rattle.group.specs.Meaning.{Meaning}
use Rattle.protocol.specs.declared.kind.Kind.{Kind}
use Rattle.protocol.specs.declared.kind.Kind.TheVariants.{Opening, Deal, Complaint, Answer, Exposure, Objection, Reveal, Close}
use Rattle.protocol.specs.declared.phase.Phase.TheVariants.{Exposing, Finished, Void}
use Rattle.protocol.specs.declared.fault.Equation.TheVariants.{First}
use Rattle.protocol.specs.declared.fault.CeremonyFault.TheVariants.{Unequal}
use Rattle.protocol.specs.declared.recovered.Recovered.TheVariants.{Logarithm, Openings}
use Rattle.protocol.specs.Record.{Posted, read_record}
use Rattle.protocol.specs.Board.{Board, phase_of, qualified, contested, reveals}
use Rattle.protocol.specs.Refusals.{posting_fault}
use Rattle.protocol.specs.Custodian.{Custodian, owed}
use Rattle.protocol.specs.Recovery.{recovered_from}
use Rattle.protocol.specs.History.{Call, Open, Post, SeatAt, Made, Faithful}

-- a small group: the numbers below 67 under addition
abbrev pub small : Meaning
small = record {
  number = 9;
  w = 1;
  s = 1;
  q = 67;
  candidate = λ u. nat_lt u 67;
  member = λ u. nat_lt u 67;
  product = λ u v. (u + v) % 67;
  unit = 0;
  g = 1;
  h = 5;
}

abbrev pub label : List ℕ
label = 1 ∷ 2 ∷ 3 ∷ 4 ∷ 5 ∷ 6 ∷ 7 ∷ 8 ∷ 9 ∷ 10 ∷ 11 ∷ 12 ∷ 13 ∷ 14 ∷ 15 ∷ 16 ∷ []

abbrev pub board : List Posted → Board
board taken = record { n = 3; t = 1; label = label; taken = taken }

-- a record: kind, writer, second seat, codes
abbrev pub says : Kind → ℕ → ℕ → List ℕ → Posted
says kind writer second codes = record { kind = kind; writer = writer; second = second; codes = codes }

abbrev pub closes : ℕ → Posted
closes phase = says Close phase 0 []

-- The boards. The dealers 1, 2 and 3 have a = (2, 1), (4, 3), (2, 5) and b = (1, 0), (1, 7), (3, 1).

abbrev pub opened : List Posted
opened = says Opening 0 0 [] ∷ []

abbrev pub dealt : List Posted
dealt = opened ++ (says Deal 1 0 (7 ∷ 1 ∷ []) ∷ says Deal 2 0 (9 ∷ 38 ∷ []) ∷ says Deal 3 0 (17 ∷ 10 ∷ []) ∷ closes 1 ∷ [])

-- the seats 3 and 2 complain of the dealer 1
abbrev pub complained_of_1 : List Posted
complained_of_1 = dealt ++ (says Complaint 3 1 [] ∷ says Complaint 2 1 [] ∷ closes 2 ∷ [])

-- one complaint of the dealer 3, that is t, answered truly
abbrev pub one_complaint : List Posted
one_complaint = dealt ++ (says Complaint 2 3 [] ∷ closes 2 ∷ says Answer 3 2 (12 ∷ 5 ∷ []) ∷ closes 3 ∷ [])

-- two complaints of it, that is t + 1, answered truly
abbrev pub two_complaints : List Posted
two_complaints =
    dealt ++ (says Complaint 2 3 [] ∷ says Complaint 1 3 [] ∷ closes 2 ∷ says Answer 3 2 (12 ∷ 5 ∷ []) ∷ says Answer 3 1 (7 ∷ 4 ∷ []) ∷ closes 3 ∷ [])

-- complaints of the dealers 2 and 3 without an Answer
abbrev pub unanswered : List Posted
unanswered = dealt ++ (says Complaint 1 2 [] ∷ says Complaint 1 3 [] ∷ closes 2 ∷ closes 3 ∷ [])

-- no complaint; the dealer 3 exposes something else than it committed to
abbrev pub exposed : List Posted
exposed =
    dealt ++ (closes 2 ∷ closes 3 ∷ says Exposure 1 0 (2 ∷ 1 ∷ []) ∷ says Exposure 2 0 (4 ∷ 3 ∷ []) ∷ says Exposure 3 0 (9 ∷ 5 ∷ []) ∷ closes 4 ∷ [])

abbrev pub objected_to_3 : List Posted
objected_to_3 = exposed ++ (says Objection 2 3 (12 ∷ 5 ∷ []) ∷ closes 5 ∷ [])

-- all three reveal, the highest seat first
abbrev pub finished : List Posted
finished =
    objected_to_3 ++ (says Reveal 3 3 (17 ∷ 6 ∷ []) ∷ says Reveal 2 3 (12 ∷ 5 ∷ []) ∷ says Reveal 1 3 (7 ∷ 4 ∷ []) ∷ closes 6 ∷ [])

-- Custodians: at seat 1 without letters, at seat 2 with a letter from the dealer 1 or from the dealers 1 and 3.

abbrev pub custodian : ℕ → List (ℕ × ℕ) → (ℕ → Option (ℕ × ℕ)) → Custodian
custodian seat coefficients letters =
    record { seat = seat; label = label; n = 3; t = 1; coefficients = coefficients; letters = letters }

abbrev pub first : Custodian
first = custodian 1 ((2, 1) ∷ (1, 0) ∷ []) (λ i. None)

abbrev pub from_1 : ℕ → Option (ℕ × ℕ)
from_1 i = cond (i == 1) (Some (4, 1)) None

abbrev pub from_1_and_3 : ℕ → Option (ℕ × ℕ)
from_1_and_3 i = cond (i == 3) (Some (12, 5)) (from_1 i)

abbrev pub second : (ℕ → Option (ℕ × ℕ)) → Custodian
second letters = custodian 2 ((4, 1) ∷ (3, 7) ∷ []) letters

-- Bytes: an Objection of seat 2 to the dealer 3 with some s', and sheets.

abbrev pub objection : ℕ → List ℕ
objection s' = 6 ∷ 0 ∷ 6 ∷ 0 ∷ 2 ∷ 3 ∷ 12 ∷ s' ∷ []

abbrev pub sheet : ℕ → List ℕ → List ℕ
sheet seat codes = 25 ∷ 0 ∷ 17 ∷ 0 ∷ (label ++ (seat ∷ codes))

abbrev pub true_sheets : List ℕ
true_sheets = sheet 1 (3 ∷ 1 ∷ 7 ∷ 8 ∷ 7 ∷ 4 ∷ []) ++ sheet 2 (4 ∷ 1 ∷ 10 ∷ 15 ∷ 12 ∷ 5 ∷ [])

-- here the share of seat 3 from the dealer 3 passes equation 1 and is not the one that was dealt
abbrev pub other_sheets : List ℕ
other_sheets = sheet 1 (3 ∷ 1 ∷ 7 ∷ 8 ∷ 7 ∷ 4 ∷ []) ++ sheet 3 (5 ∷ 1 ∷ 13 ∷ 22 ∷ 22 ∷ 5 ∷ [])

-- A history of three calls: dealing is closed while the custodian at seat 1 owes its Deal.

abbrev pub made : Made
made = record { area = 1000; store = λ k. 100 }

abbrev pub closed_early : List Call
closed_early =
    Post (3 ∷ 0 ∷ 8 ∷ 0 ∷ 1 ∷ []) ∷ SeatAt 1 1 (2 ∷ 1 ∷ 1 ∷ 0 ∷ []) ∷ Open (22 ∷ 0 ∷ 1 ∷ 0 ∷ 9 ∷ 0 ∷ 3 ∷ 1 ∷ label) ∷ []

pub record Instances : Type 0 where
  -- a Complaint's bytes say who complains of whom
  pub complaint_read : read_record small 1 Complaint (4 ∷ 0 ∷ 3 ∷ 0 ∷ 2 ∷ 3 ∷ []) ≡ says Complaint 2 3 []
  -- t complaints leave a dealer qualified, t + 1 do not, nor does one without an Answer
  pub in_with_one : qualified small (board one_complaint) 3 ≡ true
  pub out_with_two : qualified small (board two_complaints) 3 ≡ false
  pub out_unanswered : qualified small (board unanswered) 3 ≡ false
  -- with t + 1 qualified dealers the ceremony goes on, with t it is void
  pub two_qualified : phase_of small (board two_complaints) ≡ Exposing
  pub one_qualified : phase_of small (board unanswered) ≡ Void
  -- a dealer that is objected to is contested
  pub contested_3 : contested small (board objected_to_3) 3 ≡ true
  -- what a custodian owes: its Deal, a Complaint where it has no letter, the Answer to the lowest complainer,
  -- its Exposure, an Objection where equation 2 fails, the Reveal of a contested dealer's share
  pub owes_deal : owed small (board opened) first ≡ Some (says Deal 1 0 (7 ∷ 1 ∷ []))
  pub owes_complaint : owed small (board dealt) (second from_1) ≡ Some (says Complaint 2 3 [])
  pub owes_answer : owed small (board complained_of_1) first ≡ Some (says Answer 1 2 (4 ∷ 1 ∷ []))
  pub owes_exposure : owed small (board one_complaint) first ≡ Some (says Exposure 1 0 (2 ∷ 1 ∷ []))
  pub owes_objection : owed small (board exposed) (second from_1_and_3) ≡ Some (says Objection 2 3 (12 ∷ 5 ∷ []))
  pub owes_reveal : owed small (board objected_to_3) (second from_1_and_3) ≡ Some (says Reveal 2 3 (12 ∷ 5 ∷ []))
  -- an Objection is taken with a share that passes equation 1 and fails equation 2, and refused where equation 1 fails
  pub objection_taken : posting_fault small (board exposed) (objection 5) ≡ None
  pub objection_refused : posting_fault small (board exposed) (objection 6) ≡ Some (Unequal 6 First)
  -- the Reveals of the lowest seats serve, though they came last
  pub lowest_serve : reveals (board finished) 3 ≡ (1, (7, 4)) ∷ (2, (12, 5)) ∷ []
  pub is_finished : phase_of small (board finished) ≡ Finished
  -- sheets that agree with the Reveals give the sum of the dealers' a_0, others two openings and the logarithm of h
  pub logarithm : recovered_from small (board finished) true_sheets ≡ Logarithm 8
  pub openings : recovered_from small (board finished) other_sheets ≡ Openings 3 (33, 37) (2, 3) 5
  -- a seat that owes at a Close is not faithful
  pub not_faithful : Faithful small made closed_early (λ i. nat_eq i 1) (λ i. i) → ⊥
