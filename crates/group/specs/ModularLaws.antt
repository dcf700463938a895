-- Products modulo m, primes by trial division, and the inverse modulo a prime. Proofs.
use Rattle.std.specs.Prelude.{◌≡◌, ℕ, zero, suc, ◌+◌, ◌-◌, ◌*◌, ◌/◌, ◌%◌, ◌<◌, ◌≤◌, Bool, true, false, ◌&&◌, T, nat_lt}
use Rattle.std.proofs.Common.{sym, ap, subst, ◌∙◌, zero-mul, suc-mul, mul-add, mul_assoc, mul_comm, div-add-mod', mod-lt, mod-eq_of_lt, mul-le-mul, div-le_self, arith, ltb→lt}
use Rattle.std.proofs.Math.Nat.{mod-add-div, add-mul-mod_self_left, mul-add-mod_self_right, mul-mod_right}
use Rattle.std.proofs.Math.Decide.{dec_le}
use Rattle.group.specs.Meaning.{Prime}

-- Equal remainders, as an equation that `omega` reads.
unfoldable pub Congruent : ℕ → ℕ → ℕ → Type 0
Congruent q a b = (s : ℕ) × (t : ℕ) × (a + q * s ≡ b + q * t)

pub congruent : (q a b : ℕ) → a % q ≡ b % q → Congruent q a b
unfolding Congruent
congruent q a b e = (b / q, a / q, omega (arith, mod-add-div a q, mod-add-div b q))

pub same_remainder : (q a b : ℕ) → Congruent q a b → a % q ≡ b % q
unfolding Congruent
same_remainder q a b c = sym (add-mul-mod_self_left a q c.0) ∙ ap (λ x. x % q) c.2 ∙ add-mul-mod_self_left b q c.1

pub mul_mod : (a b q : ℕ) → (a * (b % q)) % q ≡ (a * b) % q
unfolding Congruent
mul_mod a b q = same_remainder q _ _ (a * (b / q), 0, omega (arith, ap (λ (x : ℕ). a * x) (mod-add-div b q)))

pub mod_mul : (a b q : ℕ) → (a % q * b) % q ≡ (a * b) % q
unfolding Congruent
mod_mul a b q = same_remainder q _ _ (a / q * b, 0, omega (arith, ap (λ (x : ℕ). x * b) (mod-add-div a q)))

pub mod_mul_assoc : (a b c m : ℕ) → ((a * b) % m * c) % m ≡ (a * ((b * c) % m)) % m
mod_mul_assoc a b c m =
    mod_mul (a * b) c m ∙ ap (λ (x : ℕ). x % m) (mul_assoc a b c) ∙ sym (mul_mod a (b * c) m)

-- Primes: none of 2 .. suc b divides q.
unfoldable pub undivided : ℕ → ℕ → Bool
undivided q zero = true
undivided q (suc b) = nat_lt 0 (q % suc (suc b)) && undivided q b

and_l : (a b : Bool) → T (a && b) → T a
and_l true b h = tt
and_l false b h = h

and_r : (a b : Bool) → T (a && b) → T b
and_r true b h = h
and_r false b h = absurd h

leaves_rest : (q b : ℕ) → T (undivided q b) → (d : ℕ) → 1 < d → d ≤ suc b → 0 < q % d
unfolding undivided
leaves_rest q zero h d lo hi = absurd (omega arith)
leaves_rest q (suc b) h d lo hi =
    elim (dec_le d (suc b)) [
      | yes k ↦ leaves_rest q b (and_r (nat_lt 0 (q % suc (suc b))) (undivided q b) h) d lo k
      | no k ↦
          let e : suc (suc b) ≡ d = omega (arith, k) in
          subst (λ (x : ℕ). 0 < q % x) e (ltb→lt 0 (q % suc (suc b)) (and_l (nat_lt 0 (q % suc (suc b))) (undivided q b) h))
    ]

-- no divisor up to the root: q is prime
pub prime_by : (q b : ℕ) → T (undivided q b) → 1 < q → q < suc (suc b) * suc (suc b) → Prime q
prime_by q b h above bound = record {
  above_one = above;
  no_divisor = λ d lo hi e.
      elim (dec_le d (suc b)) [
        | yes k ↦ let f = leaves_rest q b h d lo k in omega arith
        | no k ↦
            let whole : q ≡ q / d * d = omega (arith, div-add-mod' q d) in
            let small : q / d ≤ suc b = elim (dec_le (q / d) (suc b)) [
              | yes s ↦ s
              | no s ↦ let l : suc (suc b) ≤ q / d = omega (arith, s) in
                  let l2 : suc (suc b) ≤ d = omega (arith, k) in
                  let m = mul-le-mul l l2 in absurd (omega arith)
            ] in
            let f = leaves_rest q b h (q / d) (cofactor d (q / d) hi whole) small in
            let z : q % (q / d) ≡ 0 = ap (λ (x : ℕ). x % (q / d)) whole ∙ mul-mod_right (q / d) d in
            omega arith
      ];
}
  where
    cofactor : (d k : ℕ) → d < q → q ≡ k * d → 1 < k
    cofactor d zero hi w = absurd (omega (arith, w, zero-mul d))
    cofactor d (suc zero) hi w = absurd (omega arith)
    cofactor d (suc (suc k)) hi w = omega arith

-- The inverse, step by step: a·(q − q / a) leaves q % a.

falls_suc : (q b : ℕ) → suc b < q → (suc b * (q - q / suc b)) % q ≡ q % suc b
falls_suc q b lt =
    let k≤ = div-le_self q (suc b) in
    let parts : suc b * (q - q / suc b) + suc b * (q / suc b) ≡ suc b * q =
    sym (mul-add (suc b) (q - q / suc b) (q / suc b)) ∙ ap (λ (x : ℕ). suc b * x) (omega arith) in
    let r< = mod-lt q {m = suc b} (omega arith) in
    let sum : suc b * (q - q / suc b) ≡ b * q + q % suc b =
    omega (arith, parts, suc-mul b q, div-add-mod' q (suc b), mul_comm (q / suc b) (suc b)) in
    let below : q % suc b < q = omega arith in
    ap (λ (x : ℕ). x % q) sum ∙ mul-add-mod_self_right b q (q % suc b) ∙ mod-eq_of_lt below

falls : (q a : ℕ) → 0 < a → a < q → (a * (q - q / a)) % q ≡ q % a
falls q zero pos lt = absurd (omega arith)
falls q (suc b) pos lt = falls_suc q b lt

-- where t·a leaves b, the next t·a leaves q % b
pub inverse_turn : (q t b a : ℕ) → 0 < b → b < q → (t * a) % q ≡ b → (((t * (q - q / b)) % q) * a) % q ≡ q % b
inverse_turn q t b a pos lt e =
    mod_mul (t * (q - q / b)) a q
    ∙ ap (λ (x : ℕ). x % q) (mul_assoc t (q - q / b) a ∙ ap (λ (x : ℕ). t * x) (mul_comm (q - q / b) a) ∙ sym (mul_assoc t a (q - q / b)))
    ∙ sym (mod_mul (t * a) (q - q / b) q)
    ∙ ap (λ (x : ℕ). (x * (q - q / b)) % q) e
    ∙ falls q b pos lt
