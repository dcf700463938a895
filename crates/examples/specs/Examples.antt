-- Two whole histories, byte for byte, and what they come to. Definitions.
use Rattle.std.specs.Prelude.{◌≡◌, ℕ, true, false, List, [], ◌∷◌, ◌++◌, length, Some, None}
use Rattle.group.specs.Monoid.{power}
use Rattle.group.specs.Meaning.{products}
use Rattle.residues.specs.Residues.{residues}
use Rattle.protocol.specs.declared.phase.Phase.TheVariants.{Finished}
use Rattle.protocol.specs.declared.recovered.Recovered.TheVariants.{Logarithm, Openings}
use Rattle.protocol.specs.Seats.{is_seat}
use Rattle.protocol.specs.Board.{phase_of, qualified, contested, revealed_share, key}
use Rattle.protocol.specs.Custodian.{sheet_bytes}
use Rattle.protocol.specs.Recovery.{recovery_fault, recovered_from}
use Rattle.protocol.specs.Guarantee.{Trusted}
use Rattle.protocol.specs.History.{Call, Made, State, after}
use Rattle.protocol.specs.History.Call.{Open, Post, SeatAt, WriteLetter, TakeLetter, Owe, DrawSheet, Recover}

-- the end of a phase
abbrev pub close : ℕ → List ℕ
close phase = 3 ∷ 0 ∷ 8 ∷ 0 ∷ phase ∷ []

-- The first history: group 1, n = 5, t = 2. The seats 1, 2 and 3 keep the rules; custodian 1 sits at seat 1, and so on.
-- Seat 4 sends seat 1 a wrong letter and answers its complaint with the same wrong share. Seat 5 sends right letters and posts a wrong Exposure.

-- the label of the first history, sixteen bytes
abbrev pub label_1 : List ℕ
label_1 = 102 ∷ 105 ∷ 114 ∷ 115 ∷ 116 ∷ 0 ∷ 0 ∷ 0 ∷ 0 ∷ 0 ∷ 0 ∷ 0 ∷ 0 ∷ 0 ∷ 0 ∷ 0 ∷ []

-- what seat 1 is seated with: a = (3, 1, 2), b = (1, 2, 0)
abbrev pub coefficients_1 : List ℕ
coefficients_1 = 3 ∷ 0 ∷ 1 ∷ 0 ∷ 2 ∷ 0 ∷ 1 ∷ 0 ∷ 2 ∷ 0 ∷ 0 ∷ 0 ∷ []

-- what seat 2 is seated with: a = (2, 0, 1), b = (4, 1, 1)
abbrev pub coefficients_2 : List ℕ
coefficients_2 = 2 ∷ 0 ∷ 0 ∷ 0 ∷ 1 ∷ 0 ∷ 4 ∷ 0 ∷ 1 ∷ 0 ∷ 1 ∷ 0 ∷ []

-- what seat 3 is seated with: a = (5, 2, 1), b = (0, 3, 1)
abbrev pub coefficients_3 : List ℕ
coefficients_3 = 5 ∷ 0 ∷ 2 ∷ 0 ∷ 1 ∷ 0 ∷ 0 ∷ 0 ∷ 3 ∷ 0 ∷ 1 ∷ 0 ∷ []

abbrev pub deal_1 : List ℕ
deal_1 = 9 ∷ 0 ∷ 2 ∷ 0 ∷ 1 ∷ 64 ∷ 2 ∷ 68 ∷ 1 ∷ 16 ∷ 0 ∷ []

abbrev pub deal_2 : List ℕ
deal_2 = 9 ∷ 0 ∷ 2 ∷ 0 ∷ 2 ∷ 219 ∷ 3 ∷ 9 ∷ 0 ∷ 36 ∷ 0 ∷ []

abbrev pub deal_3 : List ℕ
deal_3 = 9 ∷ 0 ∷ 2 ∷ 0 ∷ 3 ∷ 0 ∷ 4 ∷ 189 ∷ 5 ∷ 36 ∷ 0 ∷ []

abbrev pub deal_4 : List ℕ
deal_4 = 9 ∷ 0 ∷ 2 ∷ 0 ∷ 4 ∷ 178 ∷ 5 ∷ 36 ∷ 0 ∷ 4 ∷ 0 ∷ []

abbrev pub deal_5 : List ℕ
deal_5 = 9 ∷ 0 ∷ 2 ∷ 0 ∷ 5 ∷ 218 ∷ 6 ∷ 64 ∷ 0 ∷ 36 ∷ 0 ∷ []

abbrev pub letter_1_2 : List ℕ
letter_1_2 = 24 ∷ 0 ∷ 16 ∷ 0 ∷ (label_1 ++ (1 ∷ 2 ∷ 13 ∷ 0 ∷ 5 ∷ 0 ∷ []))

abbrev pub letter_1_3 : List ℕ
letter_1_3 = 24 ∷ 0 ∷ 16 ∷ 0 ∷ (label_1 ++ (1 ∷ 3 ∷ 24 ∷ 0 ∷ 7 ∷ 0 ∷ []))

abbrev pub letter_2_1 : List ℕ
letter_2_1 = 24 ∷ 0 ∷ 16 ∷ 0 ∷ (label_1 ++ (2 ∷ 1 ∷ 3 ∷ 0 ∷ 6 ∷ 0 ∷ []))

abbrev pub letter_2_3 : List ℕ
letter_2_3 = 24 ∷ 0 ∷ 16 ∷ 0 ∷ (label_1 ++ (2 ∷ 3 ∷ 11 ∷ 0 ∷ 16 ∷ 0 ∷ []))

abbrev pub letter_3_1 : List ℕ
letter_3_1 = 24 ∷ 0 ∷ 16 ∷ 0 ∷ (label_1 ++ (3 ∷ 1 ∷ 8 ∷ 0 ∷ 4 ∷ 0 ∷ []))

abbrev pub letter_3_2 : List ℕ
letter_3_2 = 24 ∷ 0 ∷ 16 ∷ 0 ∷ (label_1 ++ (3 ∷ 2 ∷ 13 ∷ 0 ∷ 10 ∷ 0 ∷ []))

-- wrong: the share of seat 1 is (8, 3)
abbrev pub letter_4_1 : List ℕ
letter_4_1 = 24 ∷ 0 ∷ 16 ∷ 0 ∷ (label_1 ++ (4 ∷ 1 ∷ 9 ∷ 0 ∷ 3 ∷ 0 ∷ []))

abbrev pub letter_4_2 : List ℕ
letter_4_2 = 24 ∷ 0 ∷ 16 ∷ 0 ∷ (label_1 ++ (4 ∷ 2 ∷ 12 ∷ 0 ∷ 4 ∷ 0 ∷ []))

abbrev pub letter_4_3 : List ℕ
letter_4_3 = 24 ∷ 0 ∷ 16 ∷ 0 ∷ (label_1 ++ (4 ∷ 3 ∷ 18 ∷ 0 ∷ 5 ∷ 0 ∷ []))

abbrev pub letter_5_1 : List ℕ
letter_5_1 = 24 ∷ 0 ∷ 16 ∷ 0 ∷ (label_1 ++ (5 ∷ 1 ∷ 11 ∷ 0 ∷ 3 ∷ 0 ∷ []))

abbrev pub letter_5_2 : List ℕ
letter_5_2 = 24 ∷ 0 ∷ 16 ∷ 0 ∷ (label_1 ++ (5 ∷ 2 ∷ 17 ∷ 0 ∷ 6 ∷ 0 ∷ []))

abbrev pub letter_5_3 : List ℕ
letter_5_3 = 24 ∷ 0 ∷ 16 ∷ 0 ∷ (label_1 ++ (5 ∷ 3 ∷ 25 ∷ 0 ∷ 11 ∷ 0 ∷ []))

abbrev pub complaint_1_4 : List ℕ
complaint_1_4 = 4 ∷ 0 ∷ 3 ∷ 0 ∷ 1 ∷ 4 ∷ []

-- false: the share of the letter again
abbrev pub answer_4_1 : List ℕ
answer_4_1 = 8 ∷ 0 ∷ 4 ∷ 0 ∷ 4 ∷ 1 ∷ 9 ∷ 0 ∷ 3 ∷ 0 ∷ []

abbrev pub exposure_1 : List ℕ
exposure_1 = 9 ∷ 0 ∷ 5 ∷ 0 ∷ 1 ∷ 64 ∷ 0 ∷ 4 ∷ 0 ∷ 16 ∷ 0 ∷ []

abbrev pub exposure_2 : List ℕ
exposure_2 = 9 ∷ 0 ∷ 5 ∷ 0 ∷ 2 ∷ 16 ∷ 0 ∷ 1 ∷ 0 ∷ 4 ∷ 0 ∷ []

abbrev pub exposure_3 : List ℕ
exposure_3 = 9 ∷ 0 ∷ 5 ∷ 0 ∷ 3 ∷ 0 ∷ 4 ∷ 16 ∷ 0 ∷ 4 ∷ 0 ∷ []

-- wrong: its first element is 4^8, and a_0 is 7
abbrev pub exposure_5 : List ℕ
exposure_5 = 9 ∷ 0 ∷ 5 ∷ 0 ∷ 5 ∷ 32 ∷ 1 ∷ 64 ∷ 0 ∷ 4 ∷ 0 ∷ []

abbrev pub objection_1_5 : List ℕ
objection_1_5 = 8 ∷ 0 ∷ 6 ∷ 0 ∷ 1 ∷ 5 ∷ 11 ∷ 0 ∷ 3 ∷ 0 ∷ []

abbrev pub objection_2_5 : List ℕ
objection_2_5 = 8 ∷ 0 ∷ 6 ∷ 0 ∷ 2 ∷ 5 ∷ 17 ∷ 0 ∷ 6 ∷ 0 ∷ []

abbrev pub objection_3_5 : List ℕ
objection_3_5 = 8 ∷ 0 ∷ 6 ∷ 0 ∷ 3 ∷ 5 ∷ 25 ∷ 0 ∷ 11 ∷ 0 ∷ []

abbrev pub reveal_1_5 : List ℕ
reveal_1_5 = 8 ∷ 0 ∷ 7 ∷ 0 ∷ 1 ∷ 5 ∷ 11 ∷ 0 ∷ 3 ∷ 0 ∷ []

abbrev pub reveal_2_5 : List ℕ
reveal_2_5 = 8 ∷ 0 ∷ 7 ∷ 0 ∷ 2 ∷ 5 ∷ 17 ∷ 0 ∷ 6 ∷ 0 ∷ []

abbrev pub reveal_3_5 : List ℕ
reveal_3_5 = 8 ∷ 0 ∷ 7 ∷ 0 ∷ 3 ∷ 5 ∷ 25 ∷ 0 ∷ 11 ∷ 0 ∷ []

abbrev pub sheet_1 : List ℕ
sheet_1 = 35 ∷ 0 ∷ 17 ∷ 0 ∷ (label_1 ++ (1 ∷ 6 ∷ 0 ∷ 3 ∷ 0 ∷ 3 ∷ 0 ∷ 6 ∷ 0 ∷ 8 ∷ 0 ∷ 4 ∷ 0 ∷ 11 ∷ 0 ∷ 3 ∷ 0 ∷ []))

abbrev pub sheet_2 : List ℕ
sheet_2 = 35 ∷ 0 ∷ 17 ∷ 0 ∷ (label_1 ++ (2 ∷ 13 ∷ 0 ∷ 5 ∷ 0 ∷ 6 ∷ 0 ∷ 10 ∷ 0 ∷ 13 ∷ 0 ∷ 10 ∷ 0 ∷ 17 ∷ 0 ∷ 6 ∷ 0 ∷ []))

abbrev pub sheet_3 : List ℕ
sheet_3 = 35 ∷ 0 ∷ 17 ∷ 0 ∷ (label_1 ++ (3 ∷ 24 ∷ 0 ∷ 7 ∷ 0 ∷ 11 ∷ 0 ∷ 16 ∷ 0 ∷ 20 ∷ 0 ∷ 18 ∷ 0 ∷ 25 ∷ 0 ∷ 11 ∷ 0 ∷ []))

abbrev pub opening_1 : List ℕ
opening_1 = 22 ∷ 0 ∷ 1 ∷ 0 ∷ 1 ∷ 0 ∷ 5 ∷ 2 ∷ label_1

abbrev pub sheets_1 : List ℕ
sheets_1 = sheet_1 ++ (sheet_2 ++ sheet_3)

abbrev pub first : List Call
first =
    Recover 12 sheets_1
    ∷ DrawSheet 3 37
    ∷ DrawSheet 2 37
    ∷ DrawSheet 1 37
    ∷ Post (close 6)
    ∷ Post reveal_3_5
    ∷ Owe 3 10
    ∷ Post reveal_2_5
    ∷ Owe 2 10
    ∷ Post reveal_1_5
    ∷ Owe 1 10
    ∷ Post (close 5)
    ∷ Post objection_3_5
    ∷ Owe 3 10
    ∷ Post objection_2_5
    ∷ Owe 2 10
    ∷ Post objection_1_5
    ∷ Owe 1 10
    ∷ Post (close 4)
    ∷ Post exposure_5
    ∷ Post exposure_3
    ∷ Owe 3 11
    ∷ Post exposure_2
    ∷ Owe 2 11
    ∷ Post exposure_1
    ∷ Owe 1 11
    ∷ Post (close 3)
    ∷ Post answer_4_1
    ∷ Post (close 2)
    ∷ Post complaint_1_4
    ∷ Owe 1 6
    ∷ Post (close 1)
    ∷ TakeLetter 3 letter_5_3
    ∷ TakeLetter 2 letter_5_2
    ∷ TakeLetter 1 letter_5_1
    ∷ TakeLetter 3 letter_4_3
    ∷ TakeLetter 2 letter_4_2
    ∷ TakeLetter 1 letter_4_1
    ∷ TakeLetter 2 letter_3_2
    ∷ WriteLetter 3 2 26
    ∷ TakeLetter 1 letter_3_1
    ∷ WriteLetter 3 1 26
    ∷ TakeLetter 3 letter_2_3
    ∷ WriteLetter 2 3 26
    ∷ TakeLetter 1 letter_2_1
    ∷ WriteLetter 2 1 26
    ∷ TakeLetter 3 letter_1_3
    ∷ WriteLetter 1 3 26
    ∷ TakeLetter 2 letter_1_2
    ∷ WriteLetter 1 2 26
    ∷ Post deal_5
    ∷ Post deal_4
    ∷ Post deal_3
    ∷ Owe 3 11
    ∷ Post deal_2
    ∷ Owe 2 11
    ∷ Post deal_1
    ∷ Owe 1 11
    ∷ SeatAt 3 3 coefficients_3
    ∷ SeatAt 2 2 coefficients_2
    ∷ SeatAt 1 1 coefficients_1
    ∷ Open opening_1
    ∷ []

-- the area is of the size that the Opening asks for, each store of the size that seating asks for
abbrev pub made_1 : Made
made_1 = record { area = 934; store = λ k. 32 }

abbrev pub first_end : State
first_end = after residues made_1 first

pub record FirstHistory : Type 0 where
  pub is_finished : phase_of residues first_end.board ≡ Finished
  -- every posted record was taken: the Opening, and the 23 of the list
  pub all_taken : length first_end.board.taken ≡ 24
  pub qualified_1 : qualified residues first_end.board 1 ≡ true
  pub qualified_2 : qualified residues first_end.board 2 ≡ true
  pub qualified_3 : qualified residues first_end.board 3 ≡ true
  pub out_4 : qualified residues first_end.board 4 ≡ false
  pub contested_5 : contested residues first_end.board 5 ≡ true
  -- the Reveals give back what seat 5 dealt: a_0 = 7, b_0 = 2
  pub revealed_5 : revealed_share residues first_end.board 5 ≡ (7, 2)
  -- 4^17
  pub key_1458 : key residues first_end.board ≡ 1458
  -- the sheets that the custodians 1, 2 and 3 draw up
  pub drawn_1 : sheet_bytes residues first_end.board (first_end.custodians 1) ≡ Some sheet_1
  pub drawn_2 : sheet_bytes residues first_end.board (first_end.custodians 2) ≡ Some sheet_2
  pub drawn_3 : sheet_bytes residues first_end.board (first_end.custodians 3) ≡ Some sheet_3
  -- recovery from them: 17 is the sum of what the seats 1, 2, 3 and 5 dealt, 3 + 2 + 5 + 7
  pub not_refused : recovery_fault residues first_end.board 12 sheets_1 ≡ None
  pub recovered : recovered_from residues first_end.board sheets_1 ≡ Logarithm 17

-- its seats 1, 2 and 3 are faithful, each with the custodian of its number, and they are n − t seats
abbrev pub FirstTrusted : Type 0
FirstTrusted = Trusted residues made_1 first (λ i. is_seat 3 i) (λ i. i)

-- The second history: group 1, n = 3, t = 1, and nobody keeps the rules. Seat 3 posts no Exposure and is contested.
-- The seats 1 and 2 know the logarithm of h, 9 = 4^515, and reveal shares of theirs from seat 3 with another s: (s + 515·e, s' − e), where e is 2 and 1.
-- Their sheets have the shares that seat 3 dealt.

-- the label of the second history
abbrev pub label_2 : List ℕ
label_2 = 115 ∷ 101 ∷ 99 ∷ 111 ∷ 110 ∷ 100 ∷ 0 ∷ 0 ∷ 0 ∷ 0 ∷ 0 ∷ 0 ∷ 0 ∷ 0 ∷ 0 ∷ 0 ∷ []

abbrev pub second_deal_1 : List ℕ
second_deal_1 = 7 ∷ 0 ∷ 2 ∷ 0 ∷ 1 ∷ 144 ∷ 0 ∷ 4 ∷ 0 ∷ []

abbrev pub second_deal_2 : List ℕ
second_deal_2 = 7 ∷ 0 ∷ 2 ∷ 0 ∷ 2 ∷ 64 ∷ 0 ∷ 144 ∷ 0 ∷ []

abbrev pub second_deal_3 : List ℕ
second_deal_3 = 7 ∷ 0 ∷ 2 ∷ 0 ∷ 3 ∷ 90 ∷ 1 ∷ 109 ∷ 3 ∷ []

abbrev pub second_exposure_1 : List ℕ
second_exposure_1 = 7 ∷ 0 ∷ 5 ∷ 0 ∷ 1 ∷ 16 ∷ 0 ∷ 4 ∷ 0 ∷ []

abbrev pub second_exposure_2 : List ℕ
second_exposure_2 = 7 ∷ 0 ∷ 5 ∷ 0 ∷ 2 ∷ 64 ∷ 0 ∷ 16 ∷ 0 ∷ []

-- opens the same as (5, 5) does
abbrev pub second_reveal_1_3 : List ℕ
second_reveal_1_3 = 8 ∷ 0 ∷ 7 ∷ 0 ∷ 1 ∷ 3 ∷ 16 ∷ 0 ∷ 3 ∷ 0 ∷ []

-- opens the same as (6, 8) does
abbrev pub second_reveal_2_3 : List ℕ
second_reveal_2_3 = 8 ∷ 0 ∷ 7 ∷ 0 ∷ 2 ∷ 3 ∷ 9 ∷ 2 ∷ 7 ∷ 0 ∷ []

abbrev pub second_sheet_1 : List ℕ
second_sheet_1 = 31 ∷ 0 ∷ 17 ∷ 0 ∷ (label_2 ++ (1 ∷ 3 ∷ 0 ∷ 1 ∷ 0 ∷ 5 ∷ 0 ∷ 1 ∷ 0 ∷ 5 ∷ 0 ∷ 5 ∷ 0 ∷ []))

abbrev pub second_sheet_2 : List ℕ
second_sheet_2 = 31 ∷ 0 ∷ 17 ∷ 0 ∷ (label_2 ++ (2 ∷ 4 ∷ 0 ∷ 1 ∷ 0 ∷ 7 ∷ 0 ∷ 2 ∷ 0 ∷ 6 ∷ 0 ∷ 8 ∷ 0 ∷ []))

abbrev pub sheets_2 : List ℕ
sheets_2 = second_sheet_1 ++ second_sheet_2

abbrev pub opening_2 : List ℕ
opening_2 = 22 ∷ 0 ∷ 1 ∷ 0 ∷ 1 ∷ 0 ∷ 3 ∷ 1 ∷ label_2

abbrev pub second : List Call
second =
    Recover 8 sheets_2
    ∷ Post (close 6)
    ∷ Post second_reveal_2_3
    ∷ Post second_reveal_1_3
    ∷ Post (close 5)
    ∷ Post (close 4)
    ∷ Post second_exposure_2
    ∷ Post second_exposure_1
    ∷ Post (close 3)
    ∷ Post (close 2)
    ∷ Post (close 1)
    ∷ Post second_deal_3
    ∷ Post second_deal_2
    ∷ Post second_deal_1
    ∷ Open opening_2
    ∷ []

abbrev pub made_2 : Made
made_2 = record { area = 354; store = λ k. 0 }

abbrev pub second_end : State
second_end = after residues made_2 second

pub record SecondHistory : Type 0 where
  pub is_finished : phase_of residues second_end.board ≡ Finished
  -- no custodian was seated, so no seat is faithful; every posted record was taken
  pub no_custodian : (k : ℕ) → second_end.custodians k ≡ None
  pub all_taken : length second_end.board.taken ≡ 14
  -- 515 is a logarithm of h
  pub known : power (products residues) residues.g 515 ≡ residues.h
  pub contested_3 : contested residues second_end.board 3 ≡ true
  pub revealed_3 : revealed_share residues second_end.board 3 ≡ (530, 1018)
  -- 4^(2 + 3 + 530)
  pub key_1779 : key residues second_end.board ≡ 1779
  -- both sheets pass, and recovery answers by the two openings and the logarithm of h
  pub not_refused : recovery_fault residues second_end.board 8 sheets_2 ≡ None
  pub recovered : recovered_from residues second_end.board sheets_2 ≡ Openings 3 (4, 2) (530, 1018) 515
