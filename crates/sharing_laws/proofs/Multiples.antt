-- Multiples where q is an exponent of the sum: scalars count modulo q, and what is added can be taken away.
use Rattle.std.proofs.Common.{◌≡◌, ℕ, suc, ◌+◌, ◌-◌, ◌*◌, ◌%◌, ◌<◌, ◌≤◌, Bool, true, sym, ap, ◌∙◌, mod-eq_of_lt, mul_comm, arith}
use Rattle.group.specs.Monoid.{Monoid, power, Commutative}
use Rattle.group.specs.Meaning.{Prime}
use Rattle.group.specs.PowerLaws.{neutral_right, power_member, power_add, power_mul, power_one}
use Rattle.sharing.specs.Linear.{scaled, Exponent}
use Rattle.sharing.specs.Interpolation.{minus, inverse}
use Rattle.sharing.proofs.Horner.{scaled_mod}
use Rattle.sharing.proofs.Inverses.{inverse_is}
use Rattle.sharing.proofs.Differences.{minus_back}

-- the first two of three change places
pub swap_first : {V : Type 0} {member : V → Bool} {sum : Monoid V} → Commutative member sum → (u v w : V) → member u ≡ true → member v ≡ true → member w ≡ true
    → sum.op u (sum.op v w) ≡ sum.op v (sum.op u w)
swap_first {V} {sum = sum} laws u v w hu hv hw =
    sym (laws.assoc u v w hu hv hw) ∙ ap (λ (x : V). sum.op x w) (laws.comm u v hu hv) ∙ laws.assoc v u w hv hu hw

module _ {V : Type 0} {member : V → Bool} {sum : Monoid V} (laws : Commutative member sum) (q : ℕ) (exponent : Exponent q member sum) where
  open sum use {op, unit}

  -- equal remainders give equal multiples
  pub scaled_same : (a b : ℕ) (v : V) → member v ≡ true → a % q ≡ b % q → scaled sum a v ≡ scaled sum b v
  scaled_same a b v hv e =
      sym (scaled_mod laws q a v exponent hv) ∙ ap (λ (n : ℕ). scaled sum n v) e ∙ scaled_mod laws q b v exponent hv

  -- the multiple by q − 1 takes away what was added
  taken_away : 0 < q → (u v : V) → member u ≡ true → member v ≡ true → op (op u v) (scaled sum (q - 1) v) ≡ u
  unfolding power
  taken_away pos u v hu hv =
      let all : suc (q - 1) ≡ q = omega arith in
      laws.assoc u v (scaled sum (q - 1) v) hu hv (power_member laws v (q - 1) hv)
      ∙ ap (op u) (ap (λ (n : ℕ). scaled sum n v) all ∙ exponent v hv)
      ∙ neutral_right laws u hu

  pub cancel : 0 < q → (u v w : V) → member u ≡ true → member v ≡ true → member w ≡ true → op u w ≡ op v w → u ≡ v
  cancel pos u v w hu hv hw e =
      sym (taken_away pos u w hu hw) ∙ ap (λ (x : V). op x (scaled sum (q - 1) w)) e ∙ taken_away pos v w hv hw

  -- the multiple by the inverse undoes the multiple
  pub undone : Prime q → (d : ℕ) → 0 < d → d < q → (v : V) → member v ≡ true → scaled sum (inverse q d) (scaled sum d v) ≡ v
  undone prime d pos below v hv =
      sym (power_mul laws v d (inverse q d) hv)
      ∙ scaled_same (d * inverse q d) 1 v hv (ap (λ (n : ℕ). n % q) (mul_comm d (inverse q d)) ∙ inverse_is q prime d pos below ∙ sym (mod-eq_of_lt prime.above_one))
      ∙ power_one laws v hv

  -- the multiple by a, parted at b
  pub parted : (a b : ℕ) (v : V) → b ≤ q → member v ≡ true → scaled sum a v ≡ op (scaled sum (minus q a b) v) (scaled sum b v)
  parted a b v hb hv =
      scaled_same a (minus q a b + b) v hv (sym (minus_back q a b hb)) ∙ power_add laws v (minus q a b) b hv
