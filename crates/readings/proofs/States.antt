-- The phases in which Close 3 is still to come.
use Rattle.std.proofs.Common.{◌≡◌, nat_lt, refl, arith}
use Rattle.std.proofs.lemmas.Bool.Decides.{nat_tests}
use Rattle.group.specs.Meaning.{Meaning}
use Rattle.protocol.specs.declared.phase.Phase.{Phase}
use Rattle.protocol.specs.Board.{Board, starts, phase_of, phase_number}
use Rattle.protocol.proofs.Phases.{starts_phase_lem, late}

pub answers_open : (m : Meaning) (b : Board) (p : Phase) → p ≡ phase_of m b → nat_lt (phase_number p) 4 ≡ nat_lt (starts b.taken) 4
answers_open m b p e =
    let early = starts_phase_lem m b (phase_number (phase_of m b)) refl in
    let later = late m b in
    rw e (grind (arith, nat_tests))
