-- The commitment to the values of two polynomials is the value of the commitments to their coefficients.
use Rattle.std.proofs.Common.{◌≡◌, ℕ, zero, suc, ◌+◌, ◌*◌, ◌%◌, ◌^◌, true, List, sym, ap, ◌∙◌, ap₂, mul_comm, zero-add, arith}
use Rattle.std.proofs.lemmas.Bool.{eq-eqb}
use Rattle.group.specs.Monoid.{power}
use Rattle.group.specs.Meaning.{Meaning, Lawful, products}
use Rattle.group.specs.Code.{code_at}
use Rattle.group.specs.PowerLaws.{power_add, power_member, power_mod, power_mul, power_op, power_zero, swap_middle}
use Rattle.sharing.specs.Linear.{scaled, scalar_sum}
use Rattle.sharing.specs.Value.{sum_from}
use Rattle.sharing.specs.Codes.{decoded_from}
use Rattle.sharing.specs.Commitment.{commitment}
use Rattle.sharing.specs.LinearLaws.{scaled_scalar}
use Rattle.dealing.specs.Dealing.{scalars_from, DealtSharesOpen}

module _ (m : Meaning) (laws : Lawful m) where
  -- a power with the exponent (e·a + x) modulo q, of any member
  power_step : (u : ℕ) → m.member u ≡ true → (e a x : ℕ)
      → m.product (power (products m) (power (products m) u a) e) (power (products m) u x)
      ≡ power (products m) u ((scaled (scalar_sum m.q) e a + x) % m.q)
  power_step u hu e a x =
      let ab = laws.commutative in
      let order = laws.order u hu in
      let q = m.q in
      ap (λ (v : ℕ). m.product v (power (products m) u x))
      (sym (power_mul ab u a e hu) ∙ ap (power (products m) u) (mul_comm a e) ∙ sym (power_mod ab u (e * a) q hu order) ∙ ap (power (products m) u) (sym (scaled_scalar q e a)))
      ∙ sym (power_add ab u (scaled (scalar_sum q) e a) x hu)
      ∙ sym (power_mod ab u (scaled (scalar_sum q) e a + x) q hu order)

  -- one term of the sum
  commitment_step : (e a b x y : ℕ)
      → m.product (power (products m) (commitment m (a, b)) e) (commitment m (x, y))
      ≡ commitment m ((scaled (scalar_sum m.q) e a + x) % m.q, (scaled (scalar_sum m.q) e b + y) % m.q)
  commitment_step e a b x y =
      let ab = laws.commutative in
      let G : ℕ → ℕ = power (products m) m.g in
      let H : ℕ → ℕ = power (products m) m.h in
      let in_g : (n : ℕ) → m.member (G n) ≡ true = λ n. power_member ab m.g n laws.g_member in
      let in_h : (n : ℕ) → m.member (H n) ≡ true = λ n. power_member ab m.h n laws.h_member in
      ap (λ (v : ℕ). m.product v (m.product (G x) (H y))) (power_op ab (G a) (H b) e (in_g a) (in_h b))
      ∙ swap_middle ab (power (products m) (G a) e) (power (products m) (H b) e) (G x) (H y) (power_member ab (G a) e (in_g a)) (power_member ab (H b) e (in_h b)) (in_g x) (in_h y)
      ∙ ap₂ m.product (power_step m.g laws.g_member e a x) (power_step m.h laws.h_member e b y)

  module _ (bytes : List ℕ) (away j : ℕ) where
    committed : ℕ → ℕ
    committed place = commitment m (code_at bytes m.s place, code_at bytes m.s (place + away))

    commitment_sum : (n p r k : ℕ) → r ≡ p + away
        → commitment m (sum_from (scalar_sum m.q) (scalars_from m bytes p n) j k, sum_from (scalar_sum m.q) (scalars_from m bytes r n) j k)
        ≡ sum_from (products m) (decoded_from committed m.s p n) j k
    unfolding sum_from decoded_from committed
    commitment_sum zero p r k e =
        ap₂ m.product (power_zero laws.commutative m.g) (power_zero laws.commutative m.h)
        ∙ laws.commutative.neutral m.unit laws.commutative.unit_member
    commitment_sum (suc n) p r k e =
        let S = scalar_sum m.q in
        let x = sum_from S (scalars_from m bytes (p + m.s) n) j (suc k) in
        let y = sum_from S (scalars_from m bytes (r + m.s) n) j (suc k) in
        sym (commitment_step (j ^ k) (code_at bytes m.s p) (code_at bytes m.s r) x y)
        ∙ ap₂ (λ (b v : ℕ). m.product (power (products m) (commitment m (code_at bytes m.s p, code_at bytes m.s b)) (j ^ k)) v)
        e (commitment_sum n (p + m.s) (r + m.s) (suc k) (omega arith))

pub dealt_shares_open_lem : DealtSharesOpen
unfolding committed
dealt_shares_open_lem m laws bytes count seat =
    eq-eqb _ _ (commitment_sum m laws bytes (count * m.s) seat count 0 (count * m.s) 0 (sym (zero-add (count * m.s))))
