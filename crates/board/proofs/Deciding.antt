-- The phases in which the objections are closed.
use Rattle.std.proofs.Common.{◌≡◌, ℕ, ◌≤◌, Bool, true, false, ltb, sym, ap, arith}
use Rattle.std.proofs.lemmas.Bool.{le-ltb, lt-ltb}
use Rattle.group.specs.Meaning.{Meaning}
use Rattle.protocol.specs.declared.phase.Phase.{Phase}
use Rattle.protocol.specs.declared.phase.Phase.TheVariants.{Unopened, Dealing, Complaining, Answering, Exposing, Objecting, Revealing, Finished, Void}
use Rattle.protocol.specs.Board.{Board, starts, phase_of, phase_number}
use Rattle.protocol.proofs.Phases.{starts_phase_lem, finished_starts, void_parts}

abbrev pub is_closed : Phase → Bool
is_closed Unopened = false
is_closed Dealing = false
is_closed Complaining = false
is_closed Answering = false
is_closed Exposing = false
is_closed Objecting = false
is_closed Revealing = true
is_closed Finished = true
is_closed Void = false

early : (m : Meaning) (b : Board) (p : ℕ) → phase_number (phase_of m b) ≡ p → p ≤ 5 → false ≡ ltb 5 (starts b.taken)
early m b p e h = sym (le-ltb 5 (starts b.taken) (omega (arith, starts_phase_lem m b p e (omega arith))))

pub objections_closed : (m : Meaning) (b : Board) (p : Phase) → p ≡ phase_of m b → is_closed p ≡ ltb 5 (starts b.taken)
objections_closed m b Unopened e = early m b 0 (sym (ap phase_number e)) (omega arith)
objections_closed m b Dealing e = early m b 1 (sym (ap phase_number e)) (omega arith)
objections_closed m b Complaining e = early m b 2 (sym (ap phase_number e)) (omega arith)
objections_closed m b Answering e = early m b 3 (sym (ap phase_number e)) (omega arith)
objections_closed m b Exposing e = early m b 4 (sym (ap phase_number e)) (omega arith)
objections_closed m b Objecting e = early m b 5 (sym (ap phase_number e)) (omega arith)
objections_closed m b Revealing e = sym (lt-ltb 5 (starts b.taken) (omega (arith, starts_phase_lem m b 6 (sym (ap phase_number e)) (omega arith))))
objections_closed m b Finished e = sym (lt-ltb 5 (starts b.taken) (omega (arith, finished_starts m b (sym e))))
objections_closed m b Void e = sym (le-ltb 5 (starts b.taken) (omega (arith, (void_parts m b (sym e)).0)))
