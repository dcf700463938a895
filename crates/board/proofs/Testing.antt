-- The tests of a kind that are left once the frame, the kind, the length and the phase have passed.
use Rattle.std.proofs.Common.{◌≡◌, ℕ, ◌+◌, ◌≤◌, Bool, true, false, cond, not, ◌&&◌, ◌||◌, eqb, leb, List, [], ◌∷◌, ◌++◌, Some, None, Err, Option, sym, refl, ap, ◌∙◌, arith}
use Rattle.std.proofs.lemmas.Bool.{eq-eqb, ne_eqb, not_from_false, le-leb, and_from}
use Rattle.group.specs.Meaning.{Meaning}
use Rattle.protocol.specs.declared.kind.Kind.{Kind}
use Rattle.protocol.specs.declared.kind.Kind.TheVariants as kinds
use Rattle.protocol.specs.declared.phase.Phase.{Phase}
use Rattle.protocol.specs.declared.phase.Phase.TheVariants as phases
use Rattle.protocol.specs.declared.fault.RecordFault.{RecordFault}
use Rattle.protocol.specs.declared.fault.RecordFault.TheVariants as records
use Rattle.protocol.specs.declared.fault.CeremonyFault.{CeremonyFault}
use Rattle.protocol.specs.declared.fault.CeremonyFault.TheVariants.{Record, OutOfPhase, FewReveals}
use Rattle.protocol.specs.Seats.{or_else, holds}
use Rattle.protocol.specs.Record.{kind_number, kind_with, kind_field, length_field, layout_of, length_of, writer_of}
use Rattle.protocol.specs.Board.{Board, phase_of, phase_number, all_revealed}
use Rattle.protocol.specs.Refusals.{unless, first_fault, frame_test, length_test, phase_test, tests_of, tests_for, posting_fault, equations_taken, is_framed}
use Rattle.protocol.proofs.Counting.{clash}
use Rattle.protocol.proofs.Faults.{skip, unless_none}
use Rattle.board_index.specs.State.{State, board_of}
use Rattle.board_index.specs.Kept.{Kept}
use Rattle.board.specs.Posting.{answer_of, posting_answer}
use Rattle.frames.specs.Reading.{OfKind, Misread, is_posted}

pub stop : {F : Type 0} (test : Option F) (rest : List (Option F)) (fault : F) → test ≡ Some fault → first_fault (test ∷ rest) ≡ Some fault
unfolding first_fault
stop test rest fault e = ap (λ o. or_else o (first_fault rest)) e

pub fault_append : {F : Type 0} (a b : List (Option F)) → first_fault (a ++ b) ≡ or_else (first_fault a) (first_fault b)
unfolding first_fault
fault_append [] b = refl
fault_append (None ∷ a) b = fault_append a b
fault_append (Some f ∷ a) b = refl

module _ (m : Meaning) (b : Board) (bytes : List ℕ) (opened : phase_number (phase_of m b) ≡ 0 → ⊥) where
  started : unless (not (eqb (phase_number (phase_of m b)) 0)) (OutOfPhase 0) ≡ None
  started = unless_none _ (OutOfPhase 0) (not_from_false _ (ne_eqb _ 0 opened))

  -- behind the frame and the kind
  pub by_kind : (kind : Kind) → is_framed bytes ≡ true → kind_with (kind_field bytes) ≡ Some kind → posting_fault m b bytes ≡ first_fault (tests_of m b bytes kind)
  unfolding posting_fault
  by_kind kind framed named =
      skip _ _ started ∙ skip (frame_test bytes) _ (unless_none _ _ framed) ∙ ap (λ (o : Option Kind). first_fault (tests_for m b bytes o)) named

-- behind the length of a kind and the test of its phase
module _ (m : Meaning) (s : State) (bytes : List ℕ) (kind : Kind) (kept : Kept m s) (of : OfKind m s.t bytes kind) (opened : phase_number s.phase ≡ 0 → ⊥) where
  behind_phase : (phase : Option CeremonyFault) (rest : List (Option CeremonyFault)) → phase ≡ None
      → tests_of m (board_of m s) bytes kind ≡ (length_test m (board_of m s) kind bytes ∷ phase ∷ rest)
      → posting_fault m (board_of m s) bytes ≡ first_fault rest
  behind_phase phase rest home tests =
      let is : phase_number s.phase ≡ phase_number (phase_of m (board_of m s)) = ap phase_number kept.phase in
      let long : length_field bytes ≡ length_of m (board_of m s).t (layout_of kind) = of.long ∙ ap (λ (t : ℕ). length_of m t (layout_of kind)) kept.t in
      by_kind m (board_of m s) bytes (λ none. opened (is ∙ none)) kind of.framed of.named
      ∙ ap first_fault tests
      ∙ skip _ _ (unless_none _ (Record (records.Length 0)) (eq-eqb _ _ long))
      ∙ skip phase rest home

-- a kind 2 to 7, which belongs to one phase
pub behind : (m : Meaning) (s : State) (bytes : List ℕ) (kind : Kind) (phase : Phase) (rest : List (Option CeremonyFault)) → Kept m s
    → OfKind m s.t bytes kind → s.phase ≡ phase → phase_number phase + 1 ≡ kind_number kind → (phase_number phase ≡ 0 → ⊥)
    → tests_of m (board_of m s) bytes kind ≡ (length_test m (board_of m s) kind bytes ∷ phase_test m (board_of m s) kind ∷ rest)
    → posting_fault m (board_of m s) bytes ≡ first_fault rest
behind m s bytes kind phase rest kept of in_that_phase number opened tests =
    let is : phase_number (phase_of m (board_of m s)) + 1 ≡ kind_number kind = ap (λ (p : Phase). phase_number p + 1) (sym kept.phase ∙ in_that_phase) ∙ number in
    behind_phase m s bytes kind kept of (λ none. opened (sym (ap phase_number in_that_phase) ∙ none)) _ rest (unless_none _ (OutOfPhase 2) (eq-eqb _ _ is)) tests

-- a Close, which belongs to the phases 1 to 6
pub behind_close : (m : Meaning) (s : State) (bytes : List ℕ) → Kept m s → OfKind m s.t bytes kinds.Close → 1 ≤ phase_number s.phase → phase_number s.phase ≤ 6
    → posting_fault m (board_of m s) bytes
    ≡ first_fault (unless (eqb (writer_of bytes) (phase_number s.phase)) (OutOfPhase 4)
    ∷ unless (not (eqb (phase_number s.phase) 6) || all_revealed m (board_of m s)) (FewReveals 4) ∷ [])
unfolding tests_of
behind_close m s bytes kept of low high =
    let is : phase_number s.phase ≡ phase_number (phase_of m (board_of m s)) = ap phase_number kept.phase in
    behind_phase m s bytes kinds.Close kept of (λ none. omega arith)
    (unless (leb 1 (phase_number (phase_of m (board_of m s))) && leb (phase_number (phase_of m (board_of m s))) 6) (OutOfPhase 2))
    (unless (eqb (writer_of bytes) (phase_number (phase_of m (board_of m s)))) (OutOfPhase 4)
    ∷ unless (not (eqb (phase_number (phase_of m (board_of m s))) 6) || all_revealed m (board_of m s)) (FewReveals 4) ∷ [])
    (unless_none _ (OutOfPhase 2) (and_from _ _ (le-leb 1 (phase_number (phase_of m (board_of m s))) (omega (arith, is))) (le-leb (phase_number (phase_of m (board_of m s))) 6 (omega (arith, is))))) refl
    ∙ ap (λ (p : ℕ). first_fault (unless (eqb (writer_of bytes) p) (OutOfPhase 4) ∷ unless (not (eqb p 6) || all_revealed m (board_of m s)) (FewReveals 4) ∷ [])) (sym is)

-- whether a record of a kind belongs to a phase
abbrev pub is_home : Phase → Kind → Bool
is_home phase kind = cond (eqb (kind_number kind) 8) (leb 1 (phase_number phase) && leb (phase_number phase) 6) (eqb (phase_number phase + 1) (kind_number kind))

-- out of its phase
module _ (m : Meaning) (s : State) (bytes : List ℕ) (kind : Kind) (kept : Kept m s) (of : OfKind m s.t bytes kind) (opened : phase_number s.phase ≡ 0 → ⊥) where
  abbrev b : Board
  b = board_of m s

  is : phase_number s.phase ≡ phase_number (phase_of m b)
  is = ap phase_number kept.phase

  stopped : (phase : Option CeremonyFault) (rest : List (Option CeremonyFault)) → phase ≡ Some (OutOfPhase 2)
      → tests_of m b bytes kind ≡ (length_test m b kind bytes ∷ phase ∷ rest) → Some (OutOfPhase 2) ≡ posting_fault m b bytes
  stopped phase rest away tests =
      let long : length_field bytes ≡ length_of m b.t (layout_of kind) = of.long ∙ ap (λ (t : ℕ). length_of m t (layout_of kind)) kept.t in
      sym (by_kind m b bytes (λ none. opened (is ∙ none)) kind of.framed of.named
      ∙ ap first_fault tests
      ∙ skip _ _ (unless_none _ (Record (records.Length 0)) (eq-eqb _ _ long))
      ∙ stop phase rest (OutOfPhase 2) away)

  away : eqb (phase_number s.phase + 1) (kind_number kind) ≡ false → phase_test m b kind ≡ Some (OutOfPhase 2)
  away e = ap (λ (v : Bool). unless v (OutOfPhase 2)) (ap (λ (p : ℕ). eqb (p + 1) (kind_number kind)) (sym is) ∙ e)

  close_away : (leb 1 (phase_number s.phase) && leb (phase_number s.phase) 6) ≡ false
      → unless (leb 1 (phase_number (phase_of m b)) && leb (phase_number (phase_of m b)) 6) (OutOfPhase 2) ≡ Some (OutOfPhase 2)
  close_away e = ap (λ (v : Bool). unless v (OutOfPhase 2)) (ap (λ (p : ℕ). leb 1 p && leb p 6) (sym is) ∙ e)

pub out_of_phase : (m : Meaning) (s : State) (bytes : List ℕ) (kind : Kind) → Kept m s → OfKind m s.t bytes kind → (phase_number s.phase ≡ 0 → ⊥)
    → is_home s.phase kind ≡ false → Some (OutOfPhase 2) ≡ posting_fault m (board_of m s) bytes
unfolding tests_of
out_of_phase m s bytes kinds.Deal kept of o e = stopped m s bytes kinds.Deal kept of o _ _ (away m s bytes kinds.Deal kept of o e) refl
out_of_phase m s bytes kinds.Complaint kept of o e = stopped m s bytes kinds.Complaint kept of o _ _ (away m s bytes kinds.Complaint kept of o e) refl
out_of_phase m s bytes kinds.Answer kept of o e = stopped m s bytes kinds.Answer kept of o _ _ (away m s bytes kinds.Answer kept of o e) refl
out_of_phase m s bytes kinds.Exposure kept of o e = stopped m s bytes kinds.Exposure kept of o _ _ (away m s bytes kinds.Exposure kept of o e) refl
out_of_phase m s bytes kinds.Objection kept of o e = stopped m s bytes kinds.Objection kept of o _ _ (away m s bytes kinds.Objection kept of o e) refl
out_of_phase m s bytes kinds.Reveal kept of o e = stopped m s bytes kinds.Reveal kept of o _ _ (away m s bytes kinds.Reveal kept of o e) refl
out_of_phase m s bytes kinds.Close kept of o e = stopped m s bytes kinds.Close kept of o _ _ (close_away m s bytes kinds.Close kept of o e) refl
out_of_phase m s bytes kinds.Opening kept of o e = clash false of.postable refl
out_of_phase m s bytes kinds.Letter kept of o e = clash false of.postable refl
out_of_phase m s bytes kinds.Sheet kept of o e = clash false of.postable refl

unnamed : (m : Meaning) (b : Board) (bytes : List ℕ) (kind : Option Kind) → holds kind is_posted ≡ false → first_fault (tests_for m b bytes kind) ≡ Some (Record (records.Kind 2))
unfolding first_fault tests_of
unnamed m b bytes None e = refl
unnamed m b bytes (Some kinds.Opening) e = refl
unnamed m b bytes (Some kinds.Letter) e = refl
unnamed m b bytes (Some kinds.Sheet) e = refl
unnamed m b bytes (Some kinds.Deal) e = clash false (sym e) refl
unnamed m b bytes (Some kinds.Complaint) e = clash false (sym e) refl
unnamed m b bytes (Some kinds.Answer) e = clash false (sym e) refl
unnamed m b bytes (Some kinds.Exposure) e = clash false (sym e) refl
unnamed m b bytes (Some kinds.Objection) e = clash false (sym e) refl
unnamed m b bytes (Some kinds.Reveal) e = clash false (sym e) refl
unnamed m b bytes (Some kinds.Close) e = clash false (sym e) refl

wrong : (m : Meaning) (b : Board) (bytes : List ℕ) (kind : Kind) → is_posted kind ≡ true → length_test m b kind bytes ≡ Some (Record (records.Length 0)) → first_fault (tests_of m b bytes kind) ≡ Some (Record (records.Length 0))
unfolding tests_of
wrong m b bytes kinds.Deal p e = stop _ _ _ e
wrong m b bytes kinds.Complaint p e = stop _ _ _ e
wrong m b bytes kinds.Answer p e = stop _ _ _ e
wrong m b bytes kinds.Exposure p e = stop _ _ _ e
wrong m b bytes kinds.Objection p e = stop _ _ _ e
wrong m b bytes kinds.Reveal p e = stop _ _ _ e
wrong m b bytes kinds.Close p e = stop _ _ _ e
wrong m b bytes kinds.Opening p e = clash false p refl
wrong m b bytes kinds.Letter p e = clash false p refl
wrong m b bytes kinds.Sheet p e = clash false p refl

-- bytes that are no record of a kind that is posted
pub misread : (m : Meaning) (b : Board) (bytes : List ℕ) (fault : RecordFault) → (phase_number (phase_of m b) ≡ 0 → ⊥) → Misread m b.t bytes fault
    → Some (Record fault) ≡ posting_fault m b bytes
unfolding posting_fault
misread m b bytes (records.Frame place) o h =
    ap (λ (p : ℕ). Some (Record (records.Frame p))) h.1
    ∙ sym (skip _ _ (started m b bytes o) ∙ stop (frame_test bytes) _ (Record (records.Frame 0)) (ap (λ (v : Bool). unless v (Record (records.Frame 0))) h.0))
misread m b bytes (records.Kind place) o h =
    ap (λ (p : ℕ). Some (Record (records.Kind p))) h.2
    ∙ sym (skip _ _ (started m b bytes o) ∙ skip (frame_test bytes) _ (unless_none _ _ h.0) ∙ unnamed m b bytes (kind_with (kind_field bytes)) h.1)
misread m b bytes (records.Length place) o h =
    ap (λ (p : ℕ). Some (Record (records.Length p))) h.2
    ∙ sym (by_kind m b bytes o h.1.0 h.0 h.1.1 ∙ wrong m b bytes h.1.0 h.1.2 (ap (λ (v : Bool). unless v (Record (records.Length 0))) h.1.3))
misread m b bytes (records.Code fault) o h = absurd h

pub not_opened : (m : Meaning) (b : Board) (bytes : List ℕ) → phase_number (phase_of m b) ≡ 0 → Some (OutOfPhase 0) ≡ posting_fault m b bytes
unfolding posting_fault
not_opened m b bytes e = sym (stop _ _ (OutOfPhase 0) (ap (λ (n : ℕ). unless (not (eqb n 0)) (OutOfPhase 0)) e))

pub begun : (p : Phase) → (p ≡ phases.Unopened → ⊥) → phase_number p ≡ 0 → ⊥
begun phases.Unopened other e = other refl
begun phases.Dealing other e = omega arith
begun phases.Complaining other e = omega arith
begun phases.Answering other e = omega arith
begun phases.Exposing other e = omega arith
begun phases.Objecting other e = omega arith
begun phases.Revealing other e = omega arith
begun phases.Finished other e = omega arith
begun phases.Void other e = omega arith

-- what posting answers for a record of a kind that its phase does not take
pub turned_away : (m : Meaning) (s : State) (bytes : List ℕ) (kind : Kind) → Kept m s → OfKind m s.t bytes kind → (s.phase ≡ phases.Unopened → ⊥) → is_home s.phase kind ≡ false
    → Err (OutOfPhase 2) ≡ posting_answer m (board_of m s) bytes
turned_away m s bytes kind kept of begun_already away =
    ap (λ (o : Option CeremonyFault). answer_of o (equations_taken (kind_with (kind_field bytes)))) (out_of_phase m s bytes kind kept of (begun s.phase begun_already) away)
