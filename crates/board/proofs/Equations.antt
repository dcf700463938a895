-- A share tested against the elements of a Deal or an Exposure, where there is one.
use Rattle.std.proofs.Common.{◌≡◌, ℕ, Bool, false, eqb, List, Some, None, Option, sym, refl, ap, ◌∙◌}
use Rattle.std.proofs.lemmas.Bool.{false≢true}
use Rattle.std.specs.Option.{MatchOption, is_some}
use Rattle.group.specs.Meaning.{Meaning, products}
use Rattle.sharing.specs.Value.{value_at}
use Rattle.protocol.specs.Seats.{holds}
use Rattle.board.specs.Posting.{ValueIn}

pub tested : {E : Type 0} (m : Meaning) (number_of : E → ℕ) (elements : Option (List ℕ)) (seat n : ℕ) {Answered : E → Type 0} (o : Option E) (r : Bool)
    → ValueIn m number_of elements seat o → MatchOption o (r ≡ false) Answered → ((value : E) → Answered value → r ≡ eqb n (number_of value))
    → r ≡ holds elements (λ codes. eqb n (value_at (products m) codes seat))
tested m number_of elements seat n None r v none is = none ∙ sym (ap (λ (o : Option (List ℕ)). holds o (λ codes. eqb n (value_at (products m) codes seat))) v)
tested m number_of elements seat n (Some value) r v answered is =
    is value answered ∙ ap (eqb n) v.2 ∙ sym (ap (λ (o : Option (List ℕ)). holds o (λ codes. eqb n (value_at (products m) codes seat))) v.1)

pub nothing_holds : {A : Type 0} (o : Option A) (test : A → Bool) → is_some o ≡ false → false ≡ holds o test
nothing_holds None test e = refl
nothing_holds (Some a) test e = absurd (false≢true (sym e))
