use Rattle.std.proofs.Common.{refl}
use Rattle.group.specs.Monoid.{power}
use Rattle.group.specs.Code.{code, code_at}
use Rattle.sharing.specs.Value.{sum_from}
use Rattle.sharing.specs.Codes.{decoded_from, refused_from}
use Rattle.sharing.specs.Interpolation.{weighted, weight, factor, inverse, first_from}
use Rattle.protocol.specs.Seats.{count, every, some, those, lowest}
use Rattle.protocol.specs.Record.{kind_with, codes_of}
use Rattle.protocol.specs.Board.{starts, phase_after, phase_of, entry, passes1, passes2, qualified, answered, contested, reveals, all_revealed, key_part, product_over}
use Rattle.protocol.specs.Refusals.{first_fault, opening_fault, posting_fault, tests_of}
use Rattle.protocol.specs.Custodian.{share_from, all_of, sheet_of, pair_codes, same_bytes, seating_fault, taking_fault}
use Rattle.protocol.specs.Recovery.{share_of, disagrees, sum_over, recovery, equations_fault, among, sheet_fault_at, sheets_fault, recovery_fault, sheets_in}
use Rattle.protocol.specs.History.{after_call, after}
use Rattle.examples.proofs.second_history_stands.Goals as goal

pub returns : goal.returns
unfolding power code code_at codes_of sum_from decoded_from refused_from first_fault opening_fault phase_of starts phase_after posting_fault tests_of entry passes1 passes2 qualified answered contested count every some those lowest kind_with reveals all_revealed weighted weight factor inverse first_from key_part product_over seating_fault taking_fault same_bytes share_from all_of sheet_of pair_codes share_of disagrees sum_over recovery equations_fault among sheet_fault_at sheets_fault recovery_fault sheets_in after_call after
returns c = record {
  is_finished = refl;
  no_custodian = λ k. refl;
  all_taken = refl;
  known = refl;
  contested_3 = refl;
  revealed_3 = refl;
  key_1779 = refl;
  not_refused = refl;
  recovered = refl;
}
