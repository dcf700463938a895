-- What the factors l / (l − m), and the weights, obey modulo q.
use Rattle.std.proofs.Common.{◌≡◌, ℕ, ◌+◌, ◌*◌, ◌%◌, ◌<◌, eqb, List, [], ◌∷◌, sym, refl, ap, ◌∙◌, subst, mod-eq_of_lt, arith}
use native.Mathlib.Nat.{mod-add-mod}
use Rattle.std.proofs.lemmas.Bool.{cond-true, cond-false, eq-eqb, ne_eqb}
use Rattle.group.specs.Meaning.{Prime}
use Rattle.group.specs.ModularLaws.{mul_mod, mod_mul}
use Rattle.sharing.specs.Interpolation.{minus, inverse, factor, weight}
use Rattle.sharing.proofs.Inverses.{inverse_is}
use Rattle.sharing.proofs.Differences.{minus_below, minus_back, minus_positive}

-- a remainder inside a product and a sum
mod_mul_add : (x b a q : ℕ) → (x % q * b + a) % q ≡ (x * b + a) % q
mod_mul_add x b a q = sym (mod-add-mod (x % q * b) q a) ∙ ap (λ (y : ℕ). (y + a) % q) (mod_mul x b q) ∙ mod-add-mod (x * b) q a

-- a seat's factor in its own weight
factor_own : (q a : ℕ) → factor q a a ≡ 1
unfolding factor
factor_own q a = cond-true (eqb a a) _ _ (eq-eqb a a refl)

module _ (q : ℕ) (prime : Prime q) (a b : ℕ) (ha : a < q) (hb : b < q) (differ : a ≡ b → ⊥) where
  -- the inverse of a − b, times a, is one more than it is times b
  apart : (inverse q (minus q a b) * a) % q ≡ (inverse q (minus q a b) * b + 1) % q
  apart =
      let d = minus q a b in
      let i = inverse q d in
      sym (mul_mod i a q)
      ∙ ap (λ (x : ℕ). (i * x) % q) (sym (minus_back q a b (omega arith)))
      ∙ mul_mod i (d + b) q
      ∙ ap (λ (x : ℕ). x % q) {y = i * d + i * b} (omega arith)
      ∙ sym (mod-add-mod (i * d) q (i * b))
      ∙ ap (λ (x : ℕ). (x + i * b) % q) (inverse_is q prime d (minus_positive q a b ha hb differ) (minus_below q a b (omega arith)))
      ∙ ap (λ (x : ℕ). x % q) (omega arith)

  -- the factor f of a in the weight of b: f·b + a is a·f
  factor_other : (factor q a b * b + a) % q ≡ (a * factor q a b) % q
  unfolding factor
  factor_other =
      let i = inverse q (minus q a b) in
      let f : factor q a b ≡ (a * i) % q = cond-false (eqb a b) _ _ (ne_eqb a b differ) in
      subst (λ (x : ℕ). (x * b + a) % q ≡ (a * x) % q) (sym f)
      (mod_mul_add (a * i) b a q
      ∙ ap (λ (x : ℕ). x % q) (omega arith)
      ∙ sym (mul_mod a (i * b + 1) q)
      ∙ ap (λ (x : ℕ). (a * x) % q) (sym apart)
      ∙ mul_mod a (i * a) q
      ∙ ap (λ (x : ℕ). x % q) (omega arith)
      ∙ sym (mul_mod a (a * i) q))

  -- one seat more, a: of the new weight w' and the old weight w of another seat b, w'·b + w·a is w'·a
  pub weight_other : (s : List ℕ) → (weight q (a ∷ s) b * b + weight q s b * a) % q ≡ (weight q (a ∷ s) b * a) % q
  unfolding weight
  weight_other s =
      let f = factor q a b in
      let w = weight q s b in
      mod_mul_add (f * w) b (w * a) q
      ∙ ap (λ (x : ℕ). x % q) {y = w * (f * b + a)} (omega arith)
      ∙ sym (mul_mod w (f * b + a) q)
      ∙ ap (λ (x : ℕ). (w * x) % q) factor_other
      ∙ mul_mod w (a * f) q
      ∙ ap (λ (x : ℕ). x % q) (omega arith)
      ∙ sym (mod_mul (f * w) a q)

-- a lone seat has the weight 1
pub weight_alone : (q a : ℕ) → 1 < q → weight q (a ∷ []) a ≡ 1
unfolding weight
weight_alone q a above = ap (λ (f : ℕ). (f * 1) % q) (factor_own q a) ∙ mod-eq_of_lt above

-- the order of the seats does not matter
pub weight_swapped : (q a b : ℕ) (s : List ℕ) (m : ℕ) → weight q (a ∷ b ∷ s) m ≡ weight q (b ∷ a ∷ s) m
unfolding weight
weight_swapped q a b s m =
    mul_mod (factor q a m) (factor q b m * weight q s m) q ∙ ap (λ (n : ℕ). n % q) (omega arith) ∙ sym (mul_mod (factor q b m) (factor q a m * weight q s m) q)
