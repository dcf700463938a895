-- The worked figures. Definitions.
use Rattle.std.specs.Prelude.{◌≡◌, ℕ, List, [], ◌∷◌, Some, None}
use Rattle.group.specs.declared.fault.GroupFault.TheVariants.{NoCandidate, NoMember}
use Rattle.group.specs.Meaning.{products}
use Rattle.group.specs.Reading.{element_refusal}
use Rattle.residues.specs.Residues.{residues}
use Rattle.binary_polynomials.specs.Polynomials.{polynomials}
use Rattle.sharing.specs.Value.{value_at}
use Rattle.sharing.specs.Commitment.{commitment}
use Rattle.protocol.specs.declared.phase.Phase.TheVariants.{Finished}
use Rattle.protocol.specs.declared.fault.CeremonyFault.TheVariants.{Parameter, SmallArea, SmallOutput}
use Rattle.protocol.specs.declared.fault.CustodianFault.TheVariants.{TooSmall}
use Rattle.protocol.specs.declared.state.SeatState.TheVariants.{Qualified, Contested}
use Rattle.protocol.specs.Board.{Board, empty, phase_of, revealed_share, key}
use Rattle.protocol.specs.Refusals.{opening_fault, after_opening, replayed, equations_replayed, report_of}
use Rattle.protocol.specs.Readings.{state_of, seat_list_fault, key_fault}
use Rattle.protocol.specs.Custodian.{custodian_report}
use Rattle.protocol.specs.Record.{write_record}
use Rattle.dealing.specs.Dealing.{commitments_of, deal_of, share_for}

-- a = (2, 1), b = (1, 0) as codes of group 1
abbrev pub coefficients : List ℕ
coefficients = 2 ∷ 0 ∷ 1 ∷ 0 ∷ 1 ∷ 0 ∷ 0 ∷ 0 ∷ []

abbrev pub label : List ℕ
label = 0 ∷ 0 ∷ 0 ∷ 0 ∷ 0 ∷ 0 ∷ 0 ∷ 0 ∷ 0 ∷ 0 ∷ 0 ∷ 0 ∷ 0 ∷ 0 ∷ 0 ∷ 0 ∷ []

-- an Opening in group 1
abbrev pub opening : ℕ → ℕ → List ℕ
opening n t = 22 ∷ 0 ∷ 1 ∷ 0 ∷ 1 ∷ 0 ∷ n ∷ t ∷ label

-- a ceremony in group 1 with n = 3 and t = 1: the Deals of 1, 2 and 3, no complaint, the Exposures of 1 and 2, and Reveals for 3 by 2 and by 1
abbrev pub records : List (List ℕ)
records =
    (7 ∷ 0 ∷ 2 ∷ 0 ∷ 1 ∷ 0x90 ∷ 0 ∷ 4 ∷ 0 ∷ [])
    ∷ (7 ∷ 0 ∷ 2 ∷ 0 ∷ 2 ∷ 64 ∷ 0 ∷ 16 ∷ 0 ∷ [])
    ∷ (7 ∷ 0 ∷ 2 ∷ 0 ∷ 3 ∷ 68 ∷ 1 ∷ 16 ∷ 0 ∷ [])
    ∷ (3 ∷ 0 ∷ 8 ∷ 0 ∷ 1 ∷ [])
    ∷ (3 ∷ 0 ∷ 8 ∷ 0 ∷ 2 ∷ [])
    ∷ (3 ∷ 0 ∷ 8 ∷ 0 ∷ 3 ∷ [])
    ∷ (7 ∷ 0 ∷ 5 ∷ 0 ∷ 1 ∷ 16 ∷ 0 ∷ 4 ∷ 0 ∷ [])
    ∷ (7 ∷ 0 ∷ 5 ∷ 0 ∷ 2 ∷ 64 ∷ 0 ∷ 16 ∷ 0 ∷ [])
    ∷ (3 ∷ 0 ∷ 8 ∷ 0 ∷ 4 ∷ [])
    ∷ (3 ∷ 0 ∷ 8 ∷ 0 ∷ 5 ∷ [])
    ∷ (8 ∷ 0 ∷ 7 ∷ 0 ∷ 2 ∷ 3 ∷ 5 ∷ 0 ∷ 2 ∷ 0 ∷ [])
    ∷ (8 ∷ 0 ∷ 7 ∷ 0 ∷ 1 ∷ 3 ∷ 3 ∷ 0 ∷ 2 ∷ 0 ∷ [])
    ∷ (3 ∷ 0 ∷ 8 ∷ 0 ∷ 6 ∷ [])
    ∷ []

abbrev pub finished : Board
finished = replayed residues (after_opening residues empty 354 (opening 3 1)) records

pub record WorkedFigures : Type 0 where
  -- group 1: 4 · 510 is 1; the code 2038 is refused with reason 2, the codes 0 and 2039 with reason 1
  pub product_1 : residues.product 4 510 ≡ 1
  pub no_member : (place : ℕ) → element_refusal residues 2038 place ≡ Some (NoMember place)
  pub no_candidate_0 : (place : ℕ) → element_refusal residues 0 place ≡ Some (NoCandidate place)
  pub no_candidate_p : (place : ℕ) → element_refusal residues 2039 place ≡ Some (NoCandidate place)
  -- group 2: 65536 · 2 is 9
  pub product_2 : polynomials.product 65536 2 ≡ 9
  -- group 1, t = 1, seat 1: the Deal, the share for seat 2, and both sides of equation 1
  pub deal_bytes : write_record residues (deal_of 1 (commitments_of residues coefficients 2)) ≡ 7 ∷ 0 ∷ 2 ∷ 0 ∷ 1 ∷ 0x90 ∷ 0 ∷ 4 ∷ 0 ∷ []
  pub share_2 : share_for residues coefficients 2 2 ≡ (4, 1)
  pub committed_2 : commitment residues (4, 1) ≡ 265
  pub value_2 : value_at (products residues) (commitments_of residues coefficients 2) 2 ≡ 265
  -- group 1, n = 3, t = 1: an area of 354 bytes opens, 353 is too small; n = 1 with t = 0 opens, n = 2 with t = 1 and n = 33 do not
  pub area_354 : opening_fault residues empty 354 (opening 3 1) ≡ None
  pub area_353 : opening_fault residues empty 353 (opening 3 1) ≡ Some SmallArea
  pub one_seat : opening_fault residues empty 78 (opening 1 0) ≡ None
  pub two_seats : opening_fault residues empty 65536 (opening 2 1) ≡ Some (Parameter 7)
  pub many_seats : opening_fault residues empty 65536 (opening 33 1) ≡ Some (Parameter 6)
  -- the ceremony of these records is finished; z is 1, and the key is 18
  pub is_finished : phase_of residues finished ≡ Finished
  pub revealed_3 : revealed_share residues finished 3 ≡ (1, 2)
  pub key_18 : key residues finished ≡ 18
  -- the seats of that ceremony, and the equations tested: one for each Reveal
  pub state_1 : state_of residues finished 1 ≡ Qualified
  pub state_3 : state_of residues finished 3 ≡ Contested
  pub no_room : seat_list_fault residues finished 2 ≡ Some SmallOutput
  pub key_room : key_fault residues finished 2 ≡ None
  pub equations : equations_replayed residues (after_opening residues empty 354 (opening 3 1)) records ≡ 2
  -- a small area is refusal 13, a field outside its limits 12, a small store 14
  pub number_13 : (report_of SmallArea).number ≡ 13
  pub number_12 : (report_of (Parameter 7)).number ≡ 12
  pub number_14 : (custodian_report TooSmall).number ≡ 14
