use Rattle.std.proofs.Common.{refl}
use Rattle.std.proofs.lemmas.Bool.{leb-true}
use Rattle.group.specs.Monoid.{power}
use Rattle.group.specs.Code.{code, code_at}
use Rattle.residues.specs.Residues.{residues}
use Rattle.sharing.specs.Value.{sum_from}
use Rattle.sharing.specs.Codes.{decoded_from, refused_from}
use Rattle.sharing.specs.Interpolation.{weighted, weight, factor, inverse, first_from}
use Rattle.protocol.specs.Seats.{count, every, some, those, lowest}
use Rattle.protocol.specs.Record.{kind_with, codes_of}
use Rattle.protocol.specs.Board.{starts, phase_after, phase_of, entry, passes1, passes2, qualified, answered, contested, reveals, all_revealed}
use Rattle.protocol.specs.Refusals.{first_fault, opening_fault, posting_fault, tests_of}
use Rattle.protocol.specs.Custodian.{share_from, to_complain_of, to_answer, to_object_to, to_reveal, owed_in, owed, same_bytes, seating_fault, writing_fault, taking_fault, owing_fault}
use Rattle.protocol.specs.History.{after_call, after}
use Rattle.examples.specs.Examples.{first, made_1}
use Rattle.examples.proofs.Trusting.{drew_up, wrote, all_allowed, faithful}
use Rattle.examples.proofs.first_history_is_trusted.Goals as goal

pub returns : goal.returns
unfolding power code code_at codes_of sum_from decoded_from refused_from first_fault opening_fault phase_of starts phase_after posting_fault tests_of entry passes1 passes2 qualified answered contested count every some those lowest kind_with reveals all_revealed weighted weight factor inverse first_from seating_fault taking_fault writing_fault owing_fault same_bytes share_from to_complain_of to_answer to_object_to to_reveal owed_in owed after_call after drew_up wrote all_allowed
returns c = record { faithful = faithful residues made_1 3 first refl refl; enough = leb-true _ _ refl }
