-- Logarithms below q are unique, and two openings of one element give the logarithm of h.
use Rattle.std.proofs.Common.{◌≡◌, ℕ, ◌-◌, ◌*◌, ◌%◌, ◌<◌, Bool, true, sym, ap, ◌∙◌, inl, inr, mod-lt, arith}
use Rattle.std.proofs.lemmas.Bool.{cases_order}
use Rattle.group.specs.Monoid.{Monoid, power, Commutative}
use Rattle.group.specs.Meaning.{Prime}
use Rattle.group.specs.PowerLaws.{power_add, power_mul, power_mod, power_unit, power_member}
use Rattle.sharing.specs.Linear.{Exponent}
use Rattle.sharing.specs.Interpolation.{minus, inverse, LogarithmsUnique, OpeningsDiffer}
use Rattle.sharing_laws.proofs.Multiples.{swap_first, cancel, undone, parted}
use Rattle.sharing.proofs.Differences.{minus_below, minus_positive}

-- (z − y) / (y' − z') modulo q
abbrev ratio : (q y y' z z' : ℕ) → ℕ
ratio q y y' z z' = (minus q z y * inverse q (minus q y' z')) % q

module _ {V : Type 0} {member : V → Bool} {sum : Monoid V} (laws : Commutative member sum) (q : ℕ) (prime : Prime q) (exponent : Exponent q member sum)
    (g : V) (hg : member g ≡ true) (no_unit : g ≡ sum.unit → ⊥) where
  open sum use {op, unit}

  in_g : (n : ℕ) → member (power sum g n) ≡ true
  in_g n = power_member laws g n hg

  -- g^d is not the unit, for d from 1 to q − 1
  order_full : (d : ℕ) → 0 < d → d < q → power sum g d ≡ unit → ⊥
  order_full d pos below e =
      no_unit (sym (undone laws q exponent prime d pos below g hg) ∙ ap (λ (u : V). power sum u (inverse q d)) e ∙ power_unit laws (inverse q d))

  never_less : (a b : ℕ) → b < q → power sum g a ≡ power sum g b → a < b → ⊥
  never_less a b hb e less =
      order_full (b - a) (omega arith) (omega arith)
      (cancel laws q exponent (omega arith) (power sum g (b - a)) unit (power sum g a) (in_g (b - a)) laws.unit_member (in_g a)
      (sym (power_add laws g (b - a) a hg) ∙ ap (power sum g) (omega arith) ∙ sym e ∙ sym (laws.neutral (power sum g a) (in_g a))))

  unique : (a b : ℕ) → a < q → b < q → power sum g a ≡ power sum g b → a ≡ b
  unique a b ha hb e =
      elim (cases_order a b) [
        | inl same ↦ same
        | inr (inl less) ↦ absurd (never_less a b hb e less)
        | inr (inr more) ↦ absurd (never_less b a ha (sym e) more)
      ]

  module _ (h : V) (hh : member h ≡ true) (y y' z z' : ℕ) (hy : y < q) (hy' : y' < q) (hz : z < q) (hz' : z' < q)
      (e : op (power sum g y) (power sum h y') ≡ op (power sum g z) (power sum h z')) (differ : y ≡ z → ⊥) where
    in_h : (n : ℕ) → member (power sum h n) ≡ true
    in_h n = power_member laws h n hh

    -- s' differs where s does
    apart : y' ≡ z' → ⊥
    apart same =
        differ (unique y z hy hz (cancel laws q exponent (omega arith) _ _ (power sum h z') (in_g y) (in_g z) (in_h z') (ap (λ (n : ℕ). op (power sum g y) (power sum h n)) (sym same) ∙ e)))

    -- h^(y' − z') is g^(z − y)
    across : power sum h (minus q y' z') ≡ power sum g (minus q z y)
    across =
        let d = minus q y' z' in
        let c = minus q z y in
        cancel laws q exponent (omega arith) (power sum h d) (power sum g c) (op (power sum g y) (power sum h z')) (in_h d) (in_g c) (laws.closed _ _ (in_g y) (in_h z'))
        (swap_first laws (power sum h d) (power sum g y) (power sum h z') (in_h d) (in_g y) (in_h z')
        ∙ ap (op (power sum g y)) (sym (parted laws q exponent y' z' h (omega arith) hh))
        ∙ e
        ∙ ap (λ (u : V). op u (power sum h z')) (parted laws q exponent z y g (omega arith) hg)
        ∙ laws.assoc (power sum g c) (power sum g y) (power sum h z') (in_g c) (in_g y) (in_h z'))

    logarithm : power sum g (ratio q y y' z z') ≡ h
    logarithm =
        let d = minus q y' z' in
        power_mod laws g (minus q z y * inverse q d) q hg (exponent g hg)
        ∙ power_mul laws g (minus q z y) (inverse q d) hg
        ∙ ap (λ (u : V). power sum u (inverse q d)) (sym across)
        ∙ undone laws q exponent prime d (minus_positive q y' z' hy' hz' apart) (minus_below q y' z' (omega arith)) h hh

    differing : let w = ratio q y y' z z' in (y' ≡ z' → ⊥) × (w < q) × (power sum g w ≡ h) × ((x : ℕ) → x < q → power sum g x ≡ h → x ≡ w)
    differing =
        let below : ratio q y y' z z' < q = mod-lt (minus q z y * inverse q (minus q y' z')) (omega arith) in
        (apart, below, logarithm, λ x hx ex. unique x (ratio q y y' z z') hx below (ex ∙ sym logarithm))

pub logarithms_unique_lem : LogarithmsUnique
logarithms_unique_lem m lawful = unique lawful.commutative m.q lawful.q_prime lawful.order m.g lawful.g_member lawful.g_no_unit

pub openings_differ_lem : OpeningsDiffer
openings_differ_lem m lawful y z hy hz =
    differing lawful.commutative m.q lawful.q_prime lawful.order m.g lawful.g_member lawful.g_no_unit m.h lawful.h_member
    y.0 y.1 z.0 z.1 hy.0 hy.1 hz.0 hz.1
