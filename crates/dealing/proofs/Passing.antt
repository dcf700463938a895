-- What is known where coefficients pass, and what a call answers then.
use Rattle.std.proofs.Common.{◌≡◌, ℕ, ◌*◌, ◌<◌, ◌≤◌, Bool, true, false, eqb, leb, List, length, Some, None, Ok, Err, Option, Result, sym, refl, ap, ◌∙◌, subst}
use lib.Seq.{paste}
use Rattle.std.proofs.lemmas.Bool.{eqb-true, eq-eqb, le-leb, lt-leb, cond-true, cond-false}
use Rattle.group.specs.declared.fault.GroupFault.{GroupFault}
use Rattle.group.specs.Meaning.{Meaning}
use Rattle.sharing.specs.Codes.{refused_from, scalar_refused}
use Rattle.protocol.specs.Seats.{is_seat}
use Rattle.dealing.specs.declared.fault.DealingFault.{DealingFault}
use Rattle.dealing.specs.declared.fault.DealingFault.TheVariants.{Length, NoSeat, Output}
use Rattle.dealing.specs.Refusals.{unless, where_taken, where_passed, drawn_up, Writes}

test_passed : (b c : Bool) (taken : Option GroupFault) → unless b Length (unless c NoSeat (where_taken taken (Ok tt))) ≡ Ok (tt {0}) → (b ≡ true) × (c ≡ true) × (taken ≡ None)
test_passed true true None e = (refl, refl, refl)
test_passed true true (Some fault) e = absurd (cc)
test_passed true false taken e = absurd (cc)
test_passed false c taken e = absurd (cc)

module _ (m : Meaning) (coefficients : List ℕ) (count seat : ℕ) (e : where_passed m coefficients count seat (Ok tt) ≡ Ok (tt {0})) where
  pub passed_length : length coefficients ≡ 2 * (count * m.s)
  passed_length = eqb-true _ _ (test_passed (eqb (length coefficients) (2 * (count * m.s))) (is_seat 32 seat) _ e).0

  pub passed_codes : refused_from (scalar_refused m coefficients) m.s 0 (2 * count) ≡ None
  passed_codes = (test_passed (eqb (length coefficients) (2 * (count * m.s))) (is_seat 32 seat) _ e).2

  drawn : (room : ℕ) (written : List ℕ) → drawn_up m coefficients count seat room written ≡ unless (leb (length written) room) Output (Ok written)
  drawn room written =
      cond-true (eqb (length coefficients) (2 * (count * m.s))) _ _ (eq-eqb _ _ passed_length)
      ∙ cond-true (is_seat 32 seat) _ _ (test_passed (eqb (length coefficients) (2 * (count * m.s))) (is_seat 32 seat) _ e).1
      ∙ ap (λ taken. where_taken taken (unless (leb (length written) room) Output (Ok written))) passed_codes

  pub drawn_up_lem : (room : ℕ) (written : List ℕ) → length written ≤ room → drawn_up m coefficients count seat room written ≡ Ok written
  drawn_up_lem room written h = drawn room written ∙ cond-true (leb (length written) room) _ _ (le-leb _ _ h)

  pub no_room : (room : ℕ) (written : List ℕ) → room < length written → drawn_up m coefficients count seat room written ≡ Err Output
  no_room room written h = drawn room written ∙ cond-false (leb (length written) room) _ _ (lt-leb _ _ h)

-- What a call that writes shows of its two ways out.

pub written : {outcome : Result (List ℕ) DealingFault} {bytes : List ℕ} → outcome ≡ Ok bytes
    → (before after : List ℕ) (n : ℕ) → n ≡ length bytes → after ≡ paste before 0 bytes (length bytes) → Writes outcome before (Ok n) after
written e before after n h p = subst (λ o. Writes o before (Ok n) after) (sym e) (ap Ok h, p)

pub refused : {outcome : Result (List ℕ) DealingFault} {fault : DealingFault} → outcome ≡ Err fault
    → (before : List ℕ) → Writes outcome before (Err fault) before
refused {fault = fault} e before = subst (λ o. Writes o before (Err fault) before) (sym e) (refl, refl)
