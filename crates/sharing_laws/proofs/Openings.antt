-- Powers of g, and commitments, keep sums: logarithms and openings interpolate.
use Rattle.std.proofs.Common.{◌≡◌, ℕ, ◌+◌, Bool, true, ◌∙◌, ap₂}
use Rattle.std.proofs.ByRecursion.{All-weaker}
use Rattle.group.specs.Monoid.{Monoid, power, Commutative}
use Rattle.group.specs.Meaning.{Meaning, Lawful, products}
use Rattle.group.specs.PowerLaws.{power_zero, power_add, power_mod, power_member, swap_middle}
use Rattle.sharing.specs.Linear.{scalar_sum, pair_sum}
use Rattle.sharing.specs.Commitment.{commitment}
use Rattle.sharing.specs.Interpolation.{Interpolates, OpeningsInterpolate, LogarithmsInterpolate}
use Rattle.sharing_laws.proofs.Homomorphisms.{Homomorphism}
use Rattle.sharing_laws.proofs.Interpolating.{interpolates, interpolation_kept}

module _ {V : Type 0} {member : V → Bool} {sum : Monoid V} (laws : Commutative member sum) where
  -- x ↦ u^x, where u^q is the unit
  powers_keep : (u : V) (q : ℕ) → member u ≡ true → power sum u q ≡ sum.unit → Homomorphism (scalar_sum q) sum (power sum u)
  powers_keep u q hu e = record {
    on_unit = power_zero laws u;
    on_op = λ x y. power_mod laws u (x + y) q hu e ∙ power_add laws u x y hu;
  }

  -- (x, y) ↦ f x + f' y, where f and f' keep sums
  both_keep : {A B : Type 0} {a : Monoid A} {b : Monoid B} {f : A → V} {f' : B → V} → Homomorphism a sum f → Homomorphism b sum f'
      → ((x : A) → member (f x) ≡ true) → ((y : B) → member (f' y) ≡ true) → Homomorphism (pair_sum a b) sum (λ x. sum.op (f x.0) (f' x.1))
  both_keep {f = f} {f' = f'} keeps keeps' inside inside' = record {
    on_unit = ap₂ sum.op keeps.on_unit keeps'.on_unit ∙ laws.neutral sum.unit laws.unit_member;
    on_op = λ x y.
        ap₂ sum.op (keeps.on_op x.0 y.0) (keeps'.on_op x.1 y.1)
        ∙ swap_middle laws (f x.0) (f y.0) (f' x.1) (f' y.1) (inside x.0) (inside y.0) (inside' x.1) (inside' y.1);
  }

module _ (m : Meaning) (lawful : Lawful m) where
  elements_interpolate : Interpolates m.q m.member (products m)
  elements_interpolate = interpolates m.member (products m) lawful.commutative m.q lawful.q_above lawful.q_prime lawful.order

  power_keeps : (u : ℕ) → m.member u ≡ true → Homomorphism (scalar_sum m.q) (products m) (power (products m) u)
  power_keeps u hu = powers_keep lawful.commutative u m.q hu (lawful.order u hu)

  commitment_keeps : Homomorphism (pair_sum (scalar_sum m.q) (scalar_sum m.q)) (products m) (commitment m)
  commitment_keeps =
      both_keep lawful.commutative (power_keeps m.g lawful.g_member) (power_keeps m.h lawful.h_member)
      (λ x. power_member lawful.commutative m.g x lawful.g_member) (λ y. power_member lawful.commutative m.h y lawful.h_member)

pub openings_interpolate_lem : OpeningsInterpolate
openings_interpolate_lem m lawful entries seats c cs h len opened =
    interpolation_kept (commitment_keeps m lawful) m.q m.member (elements_interpolate m lawful) entries seats c cs h len
    (All-weaker _ _ (λ e o. o.1) entries opened)

pub logarithms_interpolate_lem : LogarithmsInterpolate
logarithms_interpolate_lem m lawful entries seats a later h len opened =
    interpolation_kept (power_keeps m lawful m.g lawful.g_member) m.q m.member (elements_interpolate m lawful) entries seats a later h len
    (All-weaker _ _ (λ e o. o.1) entries opened)
