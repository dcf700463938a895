-- A refusal for want of Reveals: the last phase, and not all is revealed.
use Rattle.std.proofs.Common.{◌≡◌, ℕ, Bool, true, false, not, ◌||◌, eqb, ◌⊎◌, List, [], ◌∷◌, Some, None, Option, sym, refl, ap, ◌∙◌, inl, inr}
use Rattle.std.specs.List.{AllByRecursion}
use Rattle.std.proofs.lemmas.Bool.{or_parts, eqb-true, not-false}
use Rattle.group.specs.declared.fault.GroupFault.{GroupFault}
use Rattle.group.specs.Meaning.{Meaning}
use Rattle.protocol.specs.declared.kind.Kind.{Kind}
use Rattle.protocol.specs.declared.kind.Kind.TheVariants as kinds
use Rattle.protocol.specs.declared.fault.CeremonyFault.{CeremonyFault}
use Rattle.protocol.specs.declared.fault.CeremonyFault.TheVariants.{Record, OutOfPhase, NoSeat, EqualSeats, Missing, Repeated, Unequal, FewReveals, Parameter, SmallArea, SmallOutput}
use Rattle.protocol.specs.Seats.{or_else}
use Rattle.protocol.specs.Record.{kind_with, kind_field}
use Rattle.protocol.specs.Board.{Board, phase_of, phase_number, all_revealed}
use Rattle.protocol.specs.Refusals.{unless, first_fault, code_fault, tests_of, tests_for, posting_fault, frame_test}
use Rattle.protocol.proofs.Counting.{clash}

abbrev wants : CeremonyFault → Bool
wants (Record f) = false
wants (OutOfPhase place) = false
wants (NoSeat place) = false
wants (EqualSeats place) = false
wants (Missing place) = false
wants (Repeated place) = false
wants (Unequal place equation) = false
wants (FewReveals place) = true
wants (Parameter place) = false
wants SmallArea = false
wants SmallOutput = false

unfoldable wanting : Option CeremonyFault → Bool
wanting None = false
wanting (Some f) = wants f

abbrev Quiet : List (Option CeremonyFault) → Type 0
Quiet tests = AllByRecursion (λ f. wanting f ≡ false) tests

either_quiet : (a b : Option CeremonyFault) → wanting a ≡ false → wanting b ≡ false → wanting (or_else a b) ≡ false
unfolding wanting
either_quiet None b p q = q
either_quiet (Some f) b p q = p

all_quiet : (tests : List (Option CeremonyFault)) → Quiet tests → wanting (first_fault tests) ≡ false
unfolding first_fault wanting
all_quiet [] a = refl
all_quiet (t ∷ ts) a = either_quiet t (first_fault ts) a.0 (all_quiet ts a.1)

no : (b : Bool) (f : CeremonyFault) → wants f ≡ false → wanting (unless b f) ≡ false
unfolding wanting
no true f e = refl
no false f e = e

code : (o : Option GroupFault) → wanting (code_fault o) ≡ false
unfolding wanting
code None = refl
code (Some f) = refl

said : (f : CeremonyFault) → wants f ≡ false → wanting (Some f) ≡ false
unfolding wanting
said f e = e

few_wants : (place : ℕ) → wanting (Some (FewReveals place)) ≡ true
unfolding wanting
few_wants place = refl

silent : wanting None ≡ false
unfolding wanting
silent = refl

-- the tests of every kind but the Close
kind_quiet : (m : Meaning) (b : Board) (bytes : List ℕ) (k : Kind) → Quiet (tests_of m b bytes k) ⊎ (k ≡ kinds.Close)
unfolding tests_of
kind_quiet m b bytes kinds.Opening = inl (said _ refl, tt)
kind_quiet m b bytes kinds.Deal = inl (no _ _ refl, (no _ _ refl, (no _ _ refl, (no _ _ refl, (code _, tt)))))
kind_quiet m b bytes kinds.Complaint = inl (no _ _ refl, (no _ _ refl, (no _ _ refl, (no _ _ refl, (no _ _ refl, (no _ _ refl, (no _ _ refl, tt)))))))
kind_quiet m b bytes kinds.Answer = inl (no _ _ refl, (no _ _ refl, (no _ _ refl, (no _ _ refl, (no _ _ refl, (no _ _ refl, (no _ _ refl, (code _, tt))))))))
kind_quiet m b bytes kinds.Exposure = inl (no _ _ refl, (no _ _ refl, (no _ _ refl, (no _ _ refl, (no _ _ refl, (code _, tt))))))
kind_quiet m b bytes kinds.Objection =
    inl (no _ _ refl, (no _ _ refl, (no _ _ refl, (no _ _ refl, (no _ _ refl, (no _ _ refl, (no _ _ refl, (code _, (no _ _ refl, (no _ _ refl, tt))))))))))
kind_quiet m b bytes kinds.Reveal = inl (no _ _ refl, (no _ _ refl, (no _ _ refl, (no _ _ refl, (no _ _ refl, (no _ _ refl, (code _, (no _ _ refl, tt))))))))
kind_quiet m b bytes kinds.Close = inr refl
kind_quiet m b bytes kinds.Letter = inl (said _ refl, tt)
kind_quiet m b bytes kinds.Sheet = inl (said _ refl, tt)

-- the last test of a Close
last_test : (o f l p w : Option CeremonyFault) (d : Bool) → wanting o ≡ false → wanting f ≡ false → wanting l ≡ false → wanting p ≡ false → wanting w ≡ false
    → wanting (first_fault (o ∷ f ∷ l ∷ p ∷ w ∷ unless d (FewReveals 4) ∷ [])) ≡ true → d ≡ false
last_test o f l p w true a b c d e h = clash _ h (all_quiet (o ∷ f ∷ l ∷ p ∷ w ∷ None ∷ []) (a, (b, (c, (d, (e, (silent, tt)))))))
last_test o f l p w false a b c d e h = refl

pub record LastClose (m : Meaning) (b : Board) : Type 0 where
  pub phase : phase_number (phase_of m b) ≡ 6
  pub few : all_revealed m b ≡ false

pub last_close : (m : Meaning) (b : Board) (bytes : List ℕ) (place : ℕ) → posting_fault m b bytes ≡ Some (FewReveals place) → LastClose m b
unfolding posting_fault tests_of
last_close m b bytes place e = go (kind_with (kind_field bytes)) (ap wanting e ∙ few_wants place)
  where
    first : wanting (unless (not (eqb (phase_number (phase_of m b)) 0)) (OutOfPhase 0)) ≡ false
    first = no _ _ refl

    frame : wanting (frame_test bytes) ≡ false
    frame = no _ _ refl

    close : wanting (first_fault (unless (not (eqb (phase_number (phase_of m b)) 0)) (OutOfPhase 0) ∷ frame_test bytes ∷ tests_of m b bytes kinds.Close)) ≡ true → LastClose m b
    close h =
        let d = last_test _ _ _ _ _ (not (eqb (phase_number (phase_of m b)) 6) || all_revealed m b) first frame (no _ _ refl) (no _ _ refl) (no _ _ refl) h in
        let p = or_parts (not (eqb (phase_number (phase_of m b)) 6)) (all_revealed m b) d in
        record { phase = eqb-true _ _ (not-false _ p.0); few = p.1 }

    go : (o : Option Kind) → wanting (first_fault (unless (not (eqb (phase_number (phase_of m b)) 0)) (OutOfPhase 0) ∷ frame_test bytes ∷ tests_for m b bytes o)) ≡ true → LastClose m b
    go None h = clash _ h (all_quiet _ (first, (frame, (said _ refl, tt))))
    go (Some k) h =
        elim (kind_quiet m b bytes k) [
          | inl q ↦ clash _ h (all_quiet _ (first, (frame, q)))
          | inr q ↦ close (ap (λ (z : Kind). wanting (first_fault (unless (not (eqb (phase_number (phase_of m b)) 0)) (OutOfPhase 0) ∷ frame_test bytes ∷ tests_of m b bytes z))) (sym q) ∙ h)
        ]
