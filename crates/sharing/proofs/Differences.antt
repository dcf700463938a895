-- Differences modulo q.
use Rattle.std.proofs.Common.{◌≡◌, ℕ, ◌+◌, ◌-◌, ◌%◌, ◌<◌, ◌≤◌, sym, ap, ◌∙◌, ap₂, mod-lt, mod-eq_of_lt, zero-add, arith}
use native.Mathlib.Nat.{mod-add-mod, add-mod-mod, add-mod_right}
use Rattle.sharing.specs.Interpolation.{minus}

pub minus_below : (q a b : ℕ) → 0 < q → minus q a b < q
minus_below q a b pos = mod-lt (a + (q - b)) pos

-- the difference, added again
pub minus_back : (q a b : ℕ) → b ≤ q → (minus q a b + b) % q ≡ a % q
minus_back q a b h = mod-add-mod (a + (q - b)) q b ∙ ap (λ (x : ℕ). x % q) {y = a + q} (omega arith) ∙ add-mod_right a q

-- numbers below q that differ have a difference that is not zero
pub minus_positive : (q a b : ℕ) → a < q → b < q → (a ≡ b → ⊥) → 0 < minus q a b
minus_positive q a b ha hb differ = let some : minus q a b ≡ 0 → ⊥ = λ e. differ (back e) in omega (arith, some)
  where
    back : minus q a b ≡ 0 → a ≡ b
    back e =
        sym (mod-eq_of_lt ha) ∙ sym (minus_back q a b (omega arith)) ∙ ap (λ (x : ℕ). (x + b) % q) e ∙ ap (λ (x : ℕ). x % q) (zero-add b) ∙ mod-eq_of_lt hb

-- a sum with the negative is the difference
pub sum_with_negative : (q a b x y z : ℕ) → a < q → b < q → x ≡ a % q → y ≡ b % q → z ≡ (q - y) % q → (x + z) % q ≡ minus q a b
sum_with_negative q a b x y z ha hb ex ey ez =
    ap₂ (λ (u v : ℕ). (u + v) % q) (ex ∙ mod-eq_of_lt ha) (ez ∙ ap (λ (v : ℕ). (q - v) % q) (ey ∙ mod-eq_of_lt hb))
    ∙ add-mod-mod a (q - b) q
