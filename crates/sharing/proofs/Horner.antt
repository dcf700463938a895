-- Horner's rule gives the sum of j^k·v_k.
use Rattle.std.proofs.Common.{◌≡◌, ℕ, suc, ◌%◌, ◌^◌, Bool, true, List, [], ◌∷◌, sym, refl, ap, ◌∙◌, ap₂, pow-suc}
use native.Mathlib.Nat.{pow-zero}
use Rattle.std.specs.List.{AllByRecursion}
use Rattle.group.specs.Monoid.{Monoid, Commutative}
use Rattle.group.specs.PowerLaws.{power_member, power_mul, power_mod, power_one, power_op, power_unit}
use Rattle.sharing.specs.Linear.{scaled, Exponent}
use Rattle.sharing.specs.Value.{sum_from, value_at}

pub value_none : {V : Type 0} (sum : Monoid V) (j : ℕ) → value_at sum [] j ≡ sum.unit
unfolding sum_from
value_none sum j = refl

module _ {V : Type 0} {member : V → Bool} {sum : Monoid V} (laws : Commutative member sum) where
  pub sum_member : (vs : List V) (j k : ℕ) → AllByRecursion (λ v. member v ≡ true) vs → member (sum_from sum vs j k) ≡ true
  unfolding sum_from
  sum_member [] j k h = laws.unit_member
  sum_member (v ∷ vs) j k h =
      laws.closed (scaled sum (j ^ k) v) (sum_from sum vs j (suc k)) (power_member laws v (j ^ k) h.0) (sum_member vs j (suc k) h.1)

  -- a factor j raises each power by one
  factor : (vs : List V) (j k : ℕ) → AllByRecursion (λ v. member v ≡ true) vs → scaled sum j (sum_from sum vs j k) ≡ sum_from sum vs j (suc k)
  unfolding sum_from
  factor [] j k h = power_unit laws j
  factor (v ∷ vs) j k h =
      power_op laws (scaled sum (j ^ k) v) (sum_from sum vs j (suc k)) j (power_member laws v (j ^ k) h.0) (sum_member vs j (suc k) h.1)
      ∙ ap₂ sum.op (sym (power_mul laws v (j ^ k) j h.0) ∙ ap (λ (e : ℕ). scaled sum e v) (sym (pow-suc j k))) (factor vs j (suc k) h.1)

  pub horner : (v : V) (vs : List V) (j : ℕ) → member v ≡ true → AllByRecursion (λ v. member v ≡ true) vs
      → sum.op v (scaled sum j (value_at sum vs j)) ≡ value_at sum (v ∷ vs) j
  unfolding sum_from
  horner v vs j hv h =
      ap₂ sum.op (sym (power_one laws v hv) ∙ ap (λ (e : ℕ). scaled sum e v) (sym (pow-zero j))) (factor vs j 0 h)

  -- a scalar counts modulo q
  pub scaled_mod : (q n : ℕ) (v : V) → Exponent q member sum → member v ≡ true → scaled sum (n % q) v ≡ scaled sum n v
  scaled_mod q n v exponent hv = power_mod laws v n q hv (exponent v hv)
