-- Lists of tests: where the first fault is none, no test says anything.
use Rattle.std.proofs.Common.{◌≡◌, Bool, true, false, List, [], ◌∷◌, Some, None, Option, sym, refl, ap, ◌∙◌}
use Rattle.std.specs.List.{AllByRecursion}
use Rattle.protocol.specs.Seats.{or_else, mapped}
use Rattle.protocol.specs.Refusals.{unless, first_fault}
use Rattle.protocol.proofs.Counting.{none_some}

pub or_else_none : {A : Type 0} (a b : Option A) → or_else a b ≡ None → (a ≡ None) × (b ≡ None)
or_else_none None b e = (refl, e)
or_else_none (Some a) b e = none_some a (sym e)

pub passed : {F : Type 0} (tests : List (Option F)) → first_fault tests ≡ None → AllByRecursion (λ f. f ≡ None) tests
unfolding first_fault
passed [] e = tt
passed (test ∷ tests) e = let p = or_else_none test (first_fault tests) e in (p.0, passed tests p.1)

pub all_passed : {F : Type 0} (tests : List (Option F)) → AllByRecursion (λ f. f ≡ None) tests → first_fault tests ≡ None
unfolding first_fault
all_passed [] a = refl
all_passed (test ∷ tests) a = ap (λ o. or_else o (first_fault tests)) a.0 ∙ all_passed tests a.1

pub skip : {F : Type 0} (test : Option F) (tests : List (Option F)) → test ≡ None → first_fault (test ∷ tests) ≡ first_fault tests
unfolding first_fault
skip test tests e = ap (λ o. or_else o (first_fault tests)) e

pub unless_true : {F : Type 0} (b : Bool) (f : F) → unless b f ≡ None → b ≡ true
unless_true true f e = refl
unless_true false f e = none_some f (sym e)

pub unless_none : {F : Type 0} (b : Bool) (f : F) → b ≡ true → unless b f ≡ None
unless_none b f e = ap (λ x. unless x f) e

pub mapped_none : {A B : Type 0} (f : A → B) (o : Option A) → mapped f o ≡ None → o ≡ None
mapped_none f None e = refl
mapped_none f (Some a) e = none_some (f a) (sym e)

pub mapped_some : {A B : Type 0} (f : A → B) (o : Option A) (b : B) → mapped f o ≡ Some b → (a : A) × (o ≡ Some a) × (f a ≡ b)
mapped_some f None b e = none_some b e
mapped_some f (Some a) b e = (a, refl, cc)
