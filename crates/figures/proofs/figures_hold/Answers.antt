use Rattle.std.proofs.Common.{◌≡◌, ℕ, Bool, true, false, cond, ◌&&◌, eqb, Some, None, refl, ap, lit<}
use Rattle.group.specs.Monoid.{power}
use Rattle.group.specs.Code.{code, code_at}
use Rattle.group.specs.PowerLaws.{power_computed, squared, choose}
use Rattle.group.specs.declared.fault.GroupFault.TheVariants.{NoMember}
use Rattle.group.specs.Reading.{element_refusal}
use Rattle.residues.specs.Residues.{residues}
use Rattle.residues.specs.ResidueLaws.{all_residues}
use Rattle.binary_polynomials.specs.Polynomials.{sum_of_shifts, times_z}
use Rattle.sharing.specs.Value.{sum_from}
use Rattle.sharing.specs.Codes.{decoded_from, refused_from}
use Rattle.protocol.specs.Seats.{count, every, some, those}
use Rattle.protocol.specs.Record.{kind_with, codes_of}
use Rattle.protocol.specs.Board.{starts, phase_after, phase_of, entry, passes1, passes2, qualified, answered, contested, reveals, all_revealed, key_part, product_over}
use Rattle.protocol.specs.Refusals.{first_fault, opening_fault, replayed, posting_fault, tests_of, equations_replayed}
use Rattle.protocol.specs.Readings.{state_of, seat_list_fault, key_fault}
use Rattle.sharing.specs.Interpolation.{weighted, weight, factor, inverse, first_from}
use Rattle.figures.proofs.figures_hold.Goals as goal

-- 2038^1019 is 2038, not 1
no_root : residues.member 2038 ≡ false
unfolding squared choose
no_root = ap (λ (x : ℕ). true && eqb x 1) (power_computed all_residues 10 2038 2038 1019 refl (lit< tt) refl)

refused_2038 : (place : ℕ) → element_refusal residues 2038 place ≡ Some (NoMember place)
refused_2038 place = ap (λ (member : Bool). cond member None (Some (NoMember place))) no_root

pub returns : goal.returns
unfolding power code code_at sum_from decoded_from first_fault opening_fault phase_of starts phase_after replayed posting_fault tests_of entry passes1 passes2 qualified answered contested count every some those refused_from kind_with reveals all_revealed weighted weight factor inverse first_from key_part product_over state_of seat_list_fault key_fault equations_replayed sum_of_shifts times_z codes_of
returns c = record {
  product_1 = refl;
  no_member = refused_2038;
  no_candidate_0 = λ place. refl;
  no_candidate_p = λ place. refl;
  product_2 = refl;
  deal_bytes = refl;
  share_2 = refl;
  committed_2 = refl;
  value_2 = refl;
  area_354 = refl;
  area_353 = refl;
  one_seat = refl;
  two_seats = refl;
  many_seats = refl;
  is_finished = refl;
  revealed_3 = refl;
  key_18 = refl;
  state_1 = refl;
  state_3 = refl;
  no_room = refl;
  key_room = refl;
  equations = refl;
  number_13 = refl;
  number_12 = refl;
  number_14 = refl;
}
