-- The values at different seats interpolate to the first coefficient; and what maps take the interpolation to.
use Rattle.std.proofs.Common.{◌≡◌, ℕ, ◌<◌, Bool, true, List, ◌∷◌, length, sym, ap, ◌∙◌}
use Rattle.std.specs.List.{AllByRecursion}
use Rattle.group.specs.Monoid.{Monoid, Commutative}
use Rattle.group.specs.Meaning.{Prime}
use Rattle.sharing.specs.Linear.{Exponent}
use Rattle.sharing.specs.Value.{value_at}
use Rattle.sharing.specs.Interpolation.{weight, weighted, seats_of, interpolated, Seats, values_at, Interpolates}
use Rattle.sharing_laws.proofs.Samples.{sampled, seats_sampled, values_sampled, all_sampled, seats_length}
use Rattle.sharing_laws.proofs.Homomorphisms.{Homomorphism, on_sum, on_weighted}
use Rattle.sharing_laws.proofs.Weights.{over, interpolated_everywhere}
use Rattle.sharing_laws.proofs.Members.{Member, within, within_value, within_commutative, within_exponent, members, members_length, members_values}

-- interpolating from values is the weighted sum of j ↦ value_at j
interpolated_over : {V : Type 0} (sum : Monoid V) (q : ℕ) (vs : List V) (s : List ℕ)
    → interpolated sum q (values_at sum vs s) ≡ over sum (weight q s) s (value_at sum vs)
interpolated_over sum q vs s =
    ap (interpolated sum q) (values_sampled sum vs s)
    ∙ ap (λ (t : List ℕ). weighted sum (weight q t) (sampled (value_at sum vs) s)) (seats_sampled (value_at sum vs) s)

-- for the members of any kind: carried over from the type of the members
pub interpolates : {V : Type 0} (member : V → Bool) (sum : Monoid V) → Commutative member sum → (q : ℕ) → 64 < q → Prime q → Exponent q member sum → Interpolates q member sum
unfolding members
interpolates {V} member sum laws q above prime exponent seats different v vs h len =
    interpolated_over sum q (v ∷ vs) seats
    ∙ ap (λ (t : List ℕ). over sum (weight q seats) t (value_at sum (v ∷ vs))) (sym (seats_sampled (value_at inner us) seats))
    ∙ sym (on_weighted keeps (value_at sum (v ∷ vs)) (weight q seats) (sampled (value_at inner us) seats) (all_sampled _ (value_at inner us) value seats))
    ∙ ap (λ (u : Member member). u.0) (interpolated_everywhere (within_commutative member sum laws) q above prime (within_exponent member sum laws q exponent) seats different (v, h.0) (members member vs h.1) (members_length member (v ∷ vs) h ∙ len))
  where
    inner : Monoid (Member member)
    inner = within member sum laws

    keeps : Homomorphism inner sum (λ u. u.0)
    keeps = within_value member sum laws

    us : List (Member member)
    us = members member (v ∷ vs) h

    value : (m : ℕ) → (value_at inner us m).0 ≡ value_at sum (v ∷ vs) m
    value m = on_sum keeps us m 0 ∙ ap (λ (ws : List V). value_at sum ws m) (members_values member (v ∷ vs) h)

-- a map that keeps sums, and takes entries to the values of c ∷ cs at their seats, takes the interpolated entry to c
pub interpolation_kept : {V W : Type 0} {a : Monoid V} {b : Monoid W} {f : V → W} → Homomorphism a b f → (q : ℕ) (member : W → Bool) → Interpolates q member b
    → (entries : List (ℕ × V)) → Seats (seats_of entries) → (c : W) (cs : List W) → AllByRecursion (λ u. member u ≡ true) (c ∷ cs) → length (c ∷ cs) ≡ length entries
    → AllByRecursion (λ e. f e.1 ≡ value_at b (c ∷ cs) e.0) entries → f (interpolated a q entries) ≡ c
interpolation_kept {a = a} {b = b} hom q member interpolates entries different c cs h len opened =
    on_weighted hom (value_at b (c ∷ cs)) (weight q (seats_of entries)) entries opened
    ∙ sym (interpolated_over b q (c ∷ cs) (seats_of entries))
    ∙ interpolates (seats_of entries) different c cs h (len ∙ sym (seats_length entries))
