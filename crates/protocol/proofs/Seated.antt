-- A seated custodian is of its ceremony, so its calls are no stranger's: what it owes and its sheet are given to it.
use Rattle.std.proofs.Common.{◌≡◌, ℕ, Bool, true, false, eqb, leb, List, [], ◌∷◌, length, is_some, Some, Option, refl, ap, ◌∙◌, arith}
use Rattle.std.proofs.lemmas.Bool.{and_from, eq-eqb, ne_eqb, le-leb, lt-leb, not_from_false}
use Rattle.group.specs.Meaning.{Meaning}
use Rattle.protocol.specs.declared.phase.Phase.{Phase}
use Rattle.protocol.specs.declared.phase.Phase.TheVariants.{Finished}
use Rattle.protocol.specs.declared.fault.CustodianFault.TheVariants.{TooSmall}
use Rattle.protocol.specs.Seats.{mapped}
use Rattle.protocol.specs.Record.{Posted, write_record}
use Rattle.protocol.specs.Board.{Board, phase_of, phase_number}
use Rattle.protocol.specs.Refusals.{unless, first_fault}
use Rattle.protocol.specs.Custodian.{Custodian, Sheet, same_bytes, is_opened, belongs, has_room, owed, owed_bytes, owing_fault, sheet_of, write_sheet, sheet_bytes, sheet_fault}
use Rattle.protocol.specs.History.{Call, Made, after}
use Rattle.protocol.specs.Given.{OwedGiven, SheetGiven, CallsGiven}
use Rattle.protocol.proofs.Faults.{unless_none, skip}
use Rattle.protocol.proofs.Phases.{starts_phase_lem}
use Rattle.protocol.proofs.Histories.{board_after}
use Rattle.protocol.proofs.Custody.{InCeremony, in_ceremony_lem}

pub same_as_itself : (l : List ℕ) → same_bytes l l ≡ true
unfolding same_bytes
same_as_itself [] = refl
same_as_itself (x ∷ l) = and_from _ _ (eq-eqb x x refl) (same_as_itself l)

-- a last test, for room
room_only : {F : Type 0} (b : Bool) (f : F) → first_fault (unless b f ∷ []) ≡ unless b f
unfolding first_fault
room_only true f = refl
room_only false f = refl

module _ (m : Meaning) (made : Made) (calls : List Call) (k : ℕ) (c : Custodian) (there : (after m made calls).custodians k ≡ Some c) where
  abbrev b : Board
  b = board_after m made calls

  I : InCeremony m made b c
  I = in_ceremony_lem m made calls k c there

  opened : is_opened m b ≡ true
  opened = not_from_false _ (ne_eqb (phase_number (phase_of m b)) 0 (λ e. omega (arith, starts_phase_lem m b 0 e (omega arith), I.started)))

  pub belonging : belongs b ((after m made calls).custodians k) ≡ true
  belonging =
      ap (belongs b) there
      ∙ and_from _ _ (ap (λ (l : List ℕ). same_bytes l b.label) I.label ∙ same_as_itself b.label) (and_from _ _ (eq-eqb _ _ I.n) (eq-eqb _ _ I.t))

  -- the record that it owes is given to it
  pub owed_given : (r : Posted) → owed m b c ≡ Some r → OwedGiven m (after m made calls) k r
  unfolding owing_fault
  owed_given r owes = record { given = given; fits = λ room h. only room ∙ unless_none _ _ (le-leb _ _ h); too_small = λ room h. only room ∙ ap (λ (x : Bool). unless x TooSmall) (lt-leb _ _ h) }
    where
      given : owed_bytes m b ((after m made calls).custodians k) ≡ Some (write_record m r)
      given = ap (owed_bytes m b) there ∙ ap (mapped (write_record m)) owes

      only : (room : ℕ) → owing_fault m b ((after m made calls).custodians k) room ≡ unless (leb (length (write_record m r)) room) TooSmall
      only room =
          skip _ _ (unless_none _ _ opened) ∙ skip _ _ (unless_none _ _ belonging) ∙ room_only _ TooSmall
          ∙ ap (λ (o : Option (List ℕ)). unless (has_room o room) TooSmall) given

  -- its sheet is given to it, once the ceremony is finished
  pub sheet_given : phase_of m b ≡ Finished → (s : Sheet) → sheet_of m b c ≡ Some s → SheetGiven m (after m made calls) k s
  unfolding sheet_fault
  sheet_given fin s is = record { given = given; fits = λ room h. only room ∙ unless_none _ _ (le-leb _ _ h); too_small = λ room h. only room ∙ ap (λ (x : Bool). unless x TooSmall) (lt-leb _ _ h) }
    where
      given : sheet_bytes m b ((after m made calls).custodians k) ≡ Some (write_sheet m s)
      given = ap (sheet_bytes m b) there ∙ ap (mapped (write_sheet m)) is

      only : (room : ℕ) → sheet_fault m b ((after m made calls).custodians k) room ≡ unless (leb (length (write_sheet m s)) room) TooSmall
      only room =
          skip _ _ (unless_none _ _ opened) ∙ skip _ _ (unless_none _ _ belonging) ∙ skip _ _ (unless_none _ _ (ap (λ (p : Phase). eqb (phase_number p) 7) fin))
          ∙ skip _ _ (unless_none _ _ (ap is_some given)) ∙ room_only _ TooSmall
          ∙ ap (λ (o : Option (List ℕ)). unless (has_room o room) TooSmall) given

pub calls_given_lem : CallsGiven
calls_given_lem m made calls k c there = (owed_given m made calls k c there, sheet_given m made calls k c there)
