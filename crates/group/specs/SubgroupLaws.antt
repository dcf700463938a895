-- The candidates whose q-th power is the unit form a commutative group of exponent q. Proofs.
use Rattle.std.specs.Prelude.{◌≡◌, ℕ, zero, suc, ◌^◌, ◌<◌, Bool, true, ◌==◌, nat_lt}
use Rattle.std.proofs.Common.{ap₂, ◌∙◌, arith}
use Rattle.std.proofs.lemmas.Bool.{eqb-true, eq-eqb, ltb-true, lt-ltb, and_parts, and_from}
use Rattle.group.specs.Monoid.{Monoid, power, Commutative}
use Rattle.group.specs.Subgroup.{positive_below, roots}
use Rattle.group.specs.PowerLaws.{power_op, power_unit, power_computed, squared}

module _ (candidate : ℕ → Bool) (m : Monoid ℕ) (q : ℕ) where
  pub record Root (u : ℕ) : Type 0 where
    pub candid : candidate u ≡ true
    pub root : power m u q ≡ m.unit

  pub root_of : (u : ℕ) → roots candidate m q u ≡ true → Root u
  root_of u h =
      let p = and_parts (candidate u) (power m u q == m.unit) h in
      record { candid = p.0; root = eqb-true (power m u q) m.unit p.1 }

  pub root_from : (u : ℕ) → candidate u ≡ true → power m u q ≡ m.unit → roots candidate m q u ≡ true
  root_from u c r = and_from (candidate u) (power m u q == m.unit) c (eq-eqb (power m u q) m.unit r)

  -- `wide` holds of more numbers than the candidates, on which the laws are known; a wide number with the unit as its power is a candidate
  pub roots_commutative : {wide : ℕ → Bool} → Commutative wide m
      → ((u : ℕ) → candidate u ≡ true → wide u ≡ true)
      → ((u : ℕ) → wide u ≡ true → power m u q ≡ m.unit → candidate u ≡ true)
      → Commutative (roots candidate m q) m
  roots_commutative {wide} laws widen narrow =
      let wide_root : (u : ℕ) → roots candidate m q u ≡ true → wide u ≡ true = λ u h. widen u (root_of u h).candid in record {
        closed = λ u v hu hv.
            let wu = wide_root u hu in
            let wv = wide_root v hv in
            let r = power_op laws u v q wu wv ∙ ap₂ m.op (root_of u hu).root (root_of v hv).root ∙ laws.neutral m.unit laws.unit_member in
            root_from (m.op u v) (narrow (m.op u v) (laws.closed u v wu wv) r) r;
        unit_member = root_from m.unit (narrow m.unit laws.unit_member (power_unit laws q)) (power_unit laws q);
        assoc = λ u v w hu hv hw. laws.assoc u v w (wide_root u hu) (wide_root v hv) (wide_root w hw);
        comm = λ u v hu hv. laws.comm u v (wide_root u hu) (wide_root v hv);
        neutral = λ u hu. laws.neutral u (wide_root u hu);
      }

-- The same where the candidates are the numbers from 1 to below a limit, and 0 times a number is 0.
module _ (limit : ℕ) (m : Monoid ℕ) (q : ℕ) where
  pub below_limit : (u : ℕ) → roots (positive_below limit) m q u ≡ true → u < limit
  below_limit u h = ltb-true u limit (and_parts (nat_lt 0 u) (nat_lt u limit) (root_of (positive_below limit) m q u h).candid).1

  module _ (laws : Commutative (λ u. nat_lt u limit) m) where
    pub root_computed : (f u : ℕ) → positive_below limit u ≡ true → q < 2 ^ f → squared m.op f m.unit u q ≡ m.unit → roots (positive_below limit) m q u ≡ true
    root_computed f u h few e =
        root_from (positive_below limit) m q u h (power_computed laws f u m.unit q (and_parts (nat_lt 0 u) (nat_lt u limit) h).1 few e)

    pub roots_below : ((v : ℕ) → m.op 0 v ≡ 0) → 0 < m.unit → 0 < q → Commutative (roots (positive_below limit) m q) m
    unfolding power
    roots_below zero_times unit_positive some =
        roots_commutative (positive_below limit) m q laws
        (λ u h. (and_parts (nat_lt 0 u) (nat_lt u limit) h).1)
        (λ u h e. and_from (nat_lt 0 u) (nat_lt u limit) (lt-ltb 0 u (positive q u some e)) h)
      where
        power_of_zero : (k : ℕ) → power m 0 (suc k) ≡ 0
        power_of_zero k = zero_times (power m 0 k)

        positive : (k u : ℕ) → 0 < k → power m u k ≡ m.unit → 0 < u
        positive k (suc u) lo e = omega arith
        positive zero zero lo e = absurd (omega arith)
        positive (suc k) zero lo e = let z = power_of_zero k in absurd (omega arith)
