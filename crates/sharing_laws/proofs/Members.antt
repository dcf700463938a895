-- The members as a type of their own, in which the laws hold of every value.
use Rattle.std.proofs.Common.{◌≡◌, ℕ, suc, Bool, true, List, [], ◌∷◌, map, length, refl, ap, ◌∙◌}
use mathlib.Core.Bool.{Bool-set}
use mathlib.Core.HLevel.{Σ_prop_path}
use Rattle.std.specs.List.{AllByRecursion}
use Rattle.group.specs.Monoid.{Monoid, Commutative}
use Rattle.sharing.specs.Linear.{Exponent}
use Rattle.sharing_laws.proofs.Homomorphisms.{Homomorphism, on_scaled}

abbrev pub Member : {V : Type 0} → (V → Bool) → Type 0
Member {V} member = (v : V) × (member v ≡ true)

-- equal values are equal members
same_member : {V : Type 0} (member : V → Bool) {u v : Member member} → u.0 ≡ v.0 → u ≡ v
same_member member e = Σ_prop_path (λ v. Bool-set (member v) true) e

module _ {V : Type 0} (member : V → Bool) (sum : Monoid V) (laws : Commutative member sum) where
  abbrev pub within : Monoid (Member member)
  within = record { op = λ u v. (sum.op u.0 v.0, laws.closed u.0 v.0 u.1 v.1); unit = (sum.unit, laws.unit_member) }

  pub within_value : Homomorphism within sum (λ u. u.0)
  within_value = record { on_unit = refl; on_op = λ u v. refl }

  pub within_commutative : Commutative (λ _. true) within
  within_commutative = record {
    closed = λ u v _ _. refl;
    unit_member = refl;
    assoc = λ u v w _ _ _. same_member member (laws.assoc u.0 v.0 w.0 u.1 v.1 w.1);
    comm = λ u v _ _. same_member member (laws.comm u.0 v.0 u.1 v.1);
    neutral = λ u _. same_member member (laws.neutral u.0 u.1);
  }

  pub within_exponent : (q : ℕ) → Exponent q member sum → Exponent q (λ _. true) within
  within_exponent q exponent u _ = same_member member (on_scaled within_value q u ∙ exponent u.0 u.1)

-- a list of members, and its values
unfoldable pub members : {V : Type 0} (member : V → Bool) (vs : List V) → AllByRecursion (λ v. member v ≡ true) vs → List (Member member)
members member [] h = []
members member (v ∷ vs) h = (v, h.0) ∷ members member vs h.1

pub members_length : {V : Type 0} (member : V → Bool) (vs : List V) (h : AllByRecursion (λ v. member v ≡ true) vs) → length (members member vs h) ≡ length vs
unfolding members
members_length member [] h = refl
members_length member (v ∷ vs) h = ap suc (members_length member vs h.1)

pub members_values : {V : Type 0} (member : V → Bool) (vs : List V) (h : AllByRecursion (λ v. member v ≡ true) vs) → map (λ u. u.0) (members member vs h) ≡ vs
unfolding members
members_values member [] h = refl
members_values {V} member (v ∷ vs) h = ap (λ (us : List V). v ∷ us) (members_values member vs h.1)
