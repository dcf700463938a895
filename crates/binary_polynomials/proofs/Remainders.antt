-- The product of group 2 is the one remainder of the product of polynomials by z^17 + z^3 + 1.
use Rattle.std.proofs.Common.{◌≡◌, ℕ, zero, suc, ◌+◌, ◌*◌, ◌/◌, ◌%◌, ◌^◌, ◌<◌, ◌≤◌, sym, refl, ap, ◌∙◌, subst, ap₂, ⊎_elim, mod-lt, mul_assoc, one-mul, pow-suc, zero-mul, arith, lit<, lit≤, pow_mono}
use lib.Bits.{bit_xor, xor_comm, xor_assoc, xor_zero_l, xor_zero_r, xor_self, xor_lt, xor_shr, xor_mod}
use Rattle.std.proofs.lemmas.Bool.{cases_eq, cases_lt}
use Rattle.binary_polynomials.specs.Polynomials.{times_z, sum_of_shifts, carryless, polynomials, Remainder, ProductIsRemainder}
use Rattle.binary_polynomials.specs.PolynomialLaws.{bit_cases, bit_over_xor, xor_over_bit, xor_swap, xor_double, bit_lt, times_lt}

-- Carry-less products are linear in both factors.

carryless_none : (n a : ℕ) → carryless n a 0 ≡ 0
unfolding carryless
carryless_none zero a = refl
carryless_none (suc n) a = ap₂ bit_xor (zero-mul a) (carryless_none n (a * 2))

carryless_left : (n a c b : ℕ) → carryless n (bit_xor a c) b ≡ bit_xor (carryless n a b) (carryless n c b)
unfolding carryless
carryless_left zero a c b = refl
carryless_left (suc n) a c b =
    ap₂ bit_xor (bit_over_xor (b % 2) a c (mod-lt b (lit< tt)))
    (ap (λ (x : ℕ). carryless n x (b / 2)) (xor_double a c) ∙ carryless_left n (a * 2) (c * 2) (b / 2))
    ∙ xor_swap (b % 2 * a) (b % 2 * c) (carryless n (a * 2) (b / 2)) (carryless n (c * 2) (b / 2))

carryless_right : (n a b c : ℕ) → carryless n a (bit_xor b c) ≡ bit_xor (carryless n a b) (carryless n a c)
unfolding carryless
carryless_right zero a b c = refl
carryless_right (suc n) a b c =
    ap₂ bit_xor
    (ap (λ (x : ℕ). x * a) (xor_mod b c 1) ∙ xor_over_bit (b % 2) (c % 2) a (mod-lt b (lit< tt)) (mod-lt c (lit< tt)))
    (ap (carryless n (a * 2)) (xor_shr b c 1) ∙ carryless_right n (a * 2) (b / 2) (c / 2))
    ∙ xor_swap (b % 2 * a) (c % 2 * a) (carryless n (a * 2) (b / 2)) (carryless n (a * 2) (c / 2))

carryless_bit : (n a b c : ℕ) → b < 2 → carryless n a (b * c) ≡ b * carryless n a c
carryless_bit n a b c = bit_cases (λ v. carryless n a (v * c) ≡ v * carryless n a c) b
    (ap (carryless n a) (zero-mul c) ∙ carryless_none n a ∙ sym (zero-mul (carryless n a c)))
    (ap (carryless n a) (one-mul c) ∙ sym (one-mul (carryless n a c)))

-- one bit of room more changes nothing
carryless_more : (n a b : ℕ) → b < 2 ^ n → carryless (suc n) a b ≡ carryless n a b
unfolding carryless
carryless_more zero a b h =
    let none : b ≡ 0 = omega arith in
    ap (λ (x : ℕ). bit_xor (x % 2 * a) 0) none ∙ ap (λ (x : ℕ). bit_xor x 0) (zero-mul a)
carryless_more (suc n) a b h = ap (bit_xor (b % 2 * a)) (carryless_more n (a * 2) (b / 2) (omega (arith, pow-suc 2 n)))

carryless_double : (n a b : ℕ) → carryless n (a * 2) b ≡ carryless n a b * 2
unfolding carryless
carryless_double zero a b = refl
carryless_double (suc n) a b =
    ap₂ bit_xor (sym (mul_assoc (b % 2) a 2)) (carryless_double n (a * 2) (b / 2))
    ∙ sym (xor_double (b % 2 * a) (carryless n (a * 2) (b / 2)))

-- Equations between sums.

xor_back : (x y : ℕ) → bit_xor (bit_xor x y) y ≡ x
xor_back x y = xor_assoc x y y ∙ ap (bit_xor x) (xor_self y) ∙ xor_zero_r x

xor_none : (x y : ℕ) → bit_xor x y ≡ 0 → x ≡ y
xor_none x y e = sym (xor_back x y) ∙ ap (λ (v : ℕ). bit_xor v y) e ∙ xor_zero_l y

xor_move : (x r y p : ℕ) → bit_xor x r ≡ bit_xor y p → bit_xor x y ≡ bit_xor r p
xor_move x r y p e =
    xor_none (bit_xor x y) (bit_xor r p) (xor_swap x y r p ∙ ap (λ (v : ℕ). bit_xor v (bit_xor y p)) e ∙ xor_self (bit_xor y p))

-- A multiple of a polynomial whose highest bit is k has a bit at k or above.
carryless_large : (n a b k : ℕ) → 0 < b → b < 2 ^ n → 2 ^ k ≤ a → a < 2 ^ suc k → 2 ^ k ≤ carryless n a b
unfolding carryless
carryless_large zero a b k pos h lo hi = absurd (omega arith)
carryless_large (suc n) a b k pos h lo hi =
    ⊎_elim
    (λ (e : b / 2 ≡ 0).
    let bit : b % 2 ≡ 1 = omega arith in
    let is : bit_xor (b % 2 * a) (carryless n (a * 2) (b / 2)) ≡ a =
    ap₂ bit_xor (ap (λ (x : ℕ). x * a) bit ∙ one-mul a) (ap (carryless n (a * 2)) e ∙ carryless_none n (a * 2)) ∙ xor_zero_r a in
    subst (λ (x : ℕ). 2 ^ k ≤ x) (sym is) lo)
    (λ (ne : b / 2 ≡ 0 → ⊥).
    let double = pow-suc 2 k in
    let x = carryless n (a * 2) (b / 2) in
    let y = b % 2 * a in
    let high : 2 ^ suc k ≤ x = carryless_large n (a * 2) (b / 2) (suc k) (omega (arith, ne)) (omega (arith, pow-suc 2 n)) (omega arith) (omega (arith, pow-suc 2 (suc k))) in
    let low : y < 2 ^ suc k = bit_cases (λ v. v * a < 2 ^ suc k) (b % 2) (omega (arith, zero-mul a)) (omega (arith, one-mul a)) (mod-lt b (lit< tt)) in
    ⊎_elim
    (λ (small : bit_xor y x < 2 ^ suc k).
    let again : bit_xor (bit_xor y x) y ≡ x = ap (λ (v : ℕ). bit_xor v y) (xor_comm y x) ∙ xor_back x y in
    let less = xor_lt (suc k) (bit_xor y x) y small low in
    absurd (omega arith))
    (λ (large : 2 ^ suc k ≤ bit_xor y x). omega arith)
    (cases_lt (bit_xor y x) (2 ^ suc k)))
    (cases_eq (b / 2) 0)

-- Multiples of z^17 + z^3 + 1.

multiple : ℕ → ℕ
multiple c = carryless 17 131081 c

multiple_double : (d : ℕ) → d < 2 ^ 16 → multiple (d * 2) ≡ multiple d * 2
unfolding multiple carryless
multiple_double d h =
    let even : d * 2 % 2 ≡ 0 = omega arith in
    let half : d * 2 / 2 ≡ d = omega arith in
    ap₂ (λ (x y : ℕ). bit_xor (x * 131081) (carryless 16 262162 y)) even half
    ∙ xor_zero_l (carryless 16 262162 d)
    ∙ carryless_double 16 131081 d
    ∙ ap (λ (x : ℕ). x * 2) (sym (carryless_more 16 131081 d h))

multiple_bit : (b : ℕ) → b < 2 → b * 131081 ≡ multiple b
unfolding multiple carryless
multiple_bit b = bit_cases (λ v. v * 131081 ≡ multiple v) b refl refl

-- where a' differs from a by a multiple, so do z·a' and z·a reduced
shift_differs : (a a' d : ℕ) → d < 2 ^ 16 → a' ≡ bit_xor (multiple d) a → a' * 2 ≡ bit_xor (multiple (bit_xor (d * 2) (a / 65536 % 2))) (times_z a)
unfolding times_z multiple
shift_differs a a' d h e =
    let bit = a / 65536 % 2 in
    ap (λ (x : ℕ). x * 2) e ∙ xor_double (multiple d) a
    ∙ ap₂ bit_xor (sym (multiple_double d h)) (sym (xor_back (a * 2) (bit * 131081)))
    ∙ ap (bit_xor (multiple (d * 2))) (xor_comm (times_z a) (bit * 131081))
    ∙ sym (xor_assoc (multiple (d * 2)) (bit * 131081) (times_z a))
    ∙ ap (λ (x : ℕ). bit_xor x (times_z a))
    (ap (bit_xor (multiple (d * 2))) (multiple_bit bit (mod-lt (a / 65536) (lit< tt))) ∙ sym (carryless_right 17 131081 (d * 2) bit))

-- the two sums of shifts differ by a multiple
differs : (n a a' b d k : ℕ) → n + k ≤ 17 → d < 2 ^ k → a' ≡ bit_xor (multiple d) a
    → (c : ℕ) × (c < 131072) × (carryless n a' b ≡ bit_xor (multiple c) (sum_of_shifts n a b))
unfolding carryless sum_of_shifts multiple
differs zero a a' b d k h l e = (0, lit< tt, sym (xor_zero_r (multiple 0) ∙ carryless_none 17 131081))
differs (suc n) a a' b d k h l e =
    let bit = a / 65536 % 2 in
    let two = mod-lt b {m = 2} (lit< tt) in
    let few : k ≤ 16 = omega arith in
    let wide : 2 ^ k ≤ 65536 = pow_mono {i = k} {j = 16} few in
    let next : bit_xor (d * 2) bit < 2 ^ suc k = xor_lt (suc k) (d * 2) bit (omega (arith, pow-suc 2 k)) (omega (arith, pow-suc 2 k)) in
    let rest = differs n (times_z a) (a' * 2) (b / 2) (bit_xor (d * 2) bit) (suc k) (omega arith) next (shift_differs a a' d (omega arith) e) in
    let c = rest.0 in
    let mine : b % 2 * d < 131072 = bit_lt (b % 2) d (omega arith) two in (
      bit_xor (b % 2 * d) c,
      xor_lt 17 (b % 2 * d) c mine rest.1,
      ap₂ bit_xor
          (ap (λ (x : ℕ). b % 2 * x) e ∙ bit_over_xor (b % 2) (multiple d) a two ∙ ap (λ (x : ℕ). bit_xor x (b % 2 * a)) (sym (carryless_bit 17 131081 (b % 2) d two)))
          rest.2
          ∙ xor_swap (multiple (b % 2 * d)) (b % 2 * a) (multiple c) (sum_of_shifts n (times_z a) (b / 2))
          ∙ ap (λ (x : ℕ). bit_xor x (sum_of_shifts (suc n) a b)) (sym (carryless_right 17 131081 (b % 2 * d) c)),
    )

is_remainder : (a b : ℕ) → a < 131072 → Remainder (carryless 17 a b) (polynomials.product a b)
unfolding multiple
is_remainder a b h = (times_lt a b h, differs 17 a a b 0 0 (lit≤ tt) (lit< tt) (sym (ap (λ (x : ℕ). bit_xor x a) (carryless_none 17 131081) ∙ xor_zero_l a)))

one_remainder : (polynomial r p : ℕ) → Remainder polynomial r → Remainder polynomial p → r ≡ p
unfolding multiple
one_remainder polynomial r p x y =
    let c = x.1.0 in
    let d = y.1.0 in
    let both = carryless_right 17 131081 c d ∙ xor_move (multiple c) r (multiple d) p (sym x.1.2 ∙ y.1.2) in
    let less = xor_lt 17 r p x.0 y.0 in
    ⊎_elim
    (λ (e : bit_xor c d ≡ 0). xor_none r p (sym both ∙ ap multiple e ∙ carryless_none 17 131081))
    (λ (ne : bit_xor c d ≡ 0 → ⊥).
    let large = carryless_large 17 131081 (bit_xor c d) 17 (omega (arith, ne)) (xor_lt 17 c d x.1.1 y.1.1) (lit≤ tt) (lit< tt) in
    absurd (omega (arith, both)))
    (cases_eq (bit_xor c d) 0)

pub product_is_remainder_lem : ProductIsRemainder
product_is_remainder_lem a b ha hb =
    (is_remainder a b ha, λ r h. one_remainder (carryless 17 a b) r (polynomials.product a b) h (is_remainder a b ha))
