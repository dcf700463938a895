-- Modulo a prime each number but zero has one inverse, and the search finds it.
use Rattle.std.proofs.Common.{◌≡◌, ℕ, zero, suc, ◌+◌, ◌-◌, ◌*◌, ◌/◌, ◌%◌, ◌<◌, ◌≤◌, Bool, true, false, eqb, sym, ap, ◌∙◌, ⊎_elim, mod-lt, mod-eq_of_lt, mul-one, arith}
use Rattle.std.proofs.lemmas.Bool.{cases_Bool, cases_eq, eq-eqb, eqb-true, true≢false}
use Rattle.group.specs.Meaning.{Prime}
use Rattle.group.specs.ModularLaws.{mul_mod, mod_mul, inverse_turn}
use Rattle.sharing.specs.Interpolation.{first_from, inverse}

-- from a multiple of a that leaves b to one that leaves 1, by steps from b to q % b
one_reached : (q : ℕ) → Prime q → (n t b a : ℕ) → b < n → 0 < b → b < q → (t * a) % q ≡ b → (y : ℕ) × ((y * a) % q ≡ 1)
one_reached q prime zero t b a less pos below e = absurd (omega arith)
one_reached q prime (suc n) t b a less pos below e =
    ⊎_elim
    (λ (one : b ≡ 1). (t, e ∙ one))
    (λ (more : b ≡ 1 → ⊥).
    let rest : q % b < b = mod-lt q pos in
    let some = prime.no_divisor b (omega (arith, more)) below in
    one_reached q prime n ((t * (q - q / b)) % q) (q % b) a (omega arith) (omega (arith, some)) (omega arith) (inverse_turn q t b a pos below e))
    (cases_eq b 1)

module _ (test : ℕ → Bool) where
  first_here : (y n : ℕ) → test y ≡ true → first_from test y (suc n) ≡ y
  unfolding first_from
  first_here y n e = rw (e, first_from)

  first_later : (y n : ℕ) → test y ≡ false → first_from test y (suc n) ≡ first_from test (suc y) n
  unfolding first_from
  first_later y n e = rw (e, first_from)

  -- where a number z of the range passes the test, what is found is of the range and passes it
  first_passes : (y n z : ℕ) → y ≤ z → z < y + n → test z ≡ true → (test (first_from test y n) ≡ true) × (first_from test y n < y + n)
  first_passes y zero z from below passes = absurd (omega arith)
  first_passes y (suc n) z from below passes =
      ⊎_elim
      (λ (now : test y ≡ true). rw (first_here y n now) (now, omega arith))
      (λ (later : test y ≡ false).
      let other : y ≡ z → ⊥ = λ e. true≢false (sym passes ∙ ap test (sym e) ∙ later) in
      let rest = first_passes (suc y) n z (omega (arith, other)) (omega arith) passes in
      rw (first_later y n later) (rest.0, omega (arith, rest.1)))
      (cases_Bool (test y))

module _ (q : ℕ) (prime : Prime q) (a : ℕ) (pos : 0 < a) (below : a < q) where
  -- the search finds an inverse below q
  found : (eqb ((inverse q a * a) % q) 1 ≡ true) × (inverse q a < 0 + q)
  unfolding inverse
  found =
      let y = one_reached q prime (suc a) 1 a a (omega arith) pos below (ap (λ (x : ℕ). x % q) (omega arith) ∙ mod-eq_of_lt below) in
      first_passes (λ z. eqb ((z * a) % q) 1) 0 q (y.0 % q) (omega arith) (omega (arith, mod-lt y.0 {m = q} (omega arith)))
      (eq-eqb _ 1 (mod_mul y.0 a q ∙ y.1))

  pub inverse_below : inverse q a < q
  inverse_below = omega (arith, found.1)

  pub inverse_is : (inverse q a * a) % q ≡ 1
  inverse_is = eqb-true _ 1 found.0

-- two inverses of one number are equal
pub inverses_same : (q a y z : ℕ) → y < q → z < q → (y * a) % q ≡ 1 → (z * a) % q ≡ 1 → y ≡ z
inverses_same q a y z hy hz ey ez =
    sym (alone y z hy ez) ∙ ap (λ (x : ℕ). x % q) (omega arith) ∙ alone z y hz ey
  where
    alone : (y z : ℕ) → y < q → (z * a) % q ≡ 1 → (y * (z * a)) % q ≡ y
    alone y z hy e = sym (mul_mod y (z * a) q) ∙ ap (λ (x : ℕ). (y * x) % q) e ∙ ap (λ (x : ℕ). x % q) (mul-one y) ∙ mod-eq_of_lt hy

-- no other number below q is an inverse
pub inverse_unique : (q : ℕ) → Prime q → (a : ℕ) → 0 < a → a < q → (y : ℕ) → y < q → (y * a) % q ≡ 1 → y ≡ inverse q a
inverse_unique q prime a pos below y hy e = inverses_same q a y (inverse q a) hy (inverse_below q prime a pos below) e (inverse_is q prime a pos below)
