-- What the definitions decide on small boards, computed. No lemma is used, so an edit of a definition that makes one of these facts false is refused here.
-- The check goes through the files by their names, each after what it uses: this one comes first.
use Rattle.std.proofs.Common.{◌≡◌, ℕ, [], ◌∷◌, Some, None, refl, arith}
use Rattle.group.specs.Monoid.{power}
use Rattle.group.specs.Code.{code, code_at}
use Rattle.sharing.specs.Value.{sum_from}
use Rattle.sharing.specs.Codes.{decoded_from, refused_from}
use Rattle.sharing.specs.Interpolation.{weighted, weight, factor, inverse, first_from}
use Rattle.protocol.specs.Seats.{count, every, some, those, lowest}
use Rattle.protocol.specs.Record.{Posted, kind_with, codes_of}
use Rattle.protocol.specs.Board.{starts, phase_after, phase_of, entry, passes1, passes2, qualified, answered, contested, reveals, all_revealed}
use Rattle.protocol.specs.Refusals.{first_fault, opening_fault, posting_fault, tests_of}
use Rattle.protocol.specs.Custodian.{share_from, to_complain_of, to_answer, to_object_to, to_reveal, owed_in, owed, seating_fault}
use Rattle.protocol.specs.Recovery.{share_of, disagrees, sum_over, recovery, sheets_in}
use Rattle.protocol.specs.History.{after_call, after}
use Rattle.protocol.specs.Instances.{Instances}

owes_none : {X : Type 0} (r : Posted) → Some r ≡ None → X
owes_none r e = let z : ◌≡◌ {A = ℕ} 0 1 = cc in absurd (omega arith)

pub instances : Instances
unfolding power code code_at sum_from decoded_from refused_from weighted weight factor inverse first_from count every some those lowest kind_with codes_of starts phase_after phase_of entry passes1 passes2 qualified answered contested reveals all_revealed first_fault opening_fault posting_fault tests_of share_from to_complain_of to_answer to_object_to to_reveal owed_in owed seating_fault share_of disagrees sum_over recovery sheets_in after_call after
instances = record {
  complaint_read = refl;
  in_with_one = refl;
  out_with_two = refl;
  out_unanswered = refl;
  two_qualified = refl;
  one_qualified = refl;
  contested_3 = refl;
  owes_deal = refl;
  owes_complaint = refl;
  owes_answer = refl;
  owes_exposure = refl;
  owes_objection = refl;
  owes_reveal = refl;
  objection_taken = refl;
  objection_refused = refl;
  lowest_serve = refl;
  is_finished = refl;
  logarithm = refl;
  openings = refl;
  not_faithful = λ f. owes_none _ (f.nothing_owed.0 (3 ∷ 0 ∷ 8 ∷ 0 ∷ 1 ∷ []) refl refl refl 1 refl _ refl);
}
