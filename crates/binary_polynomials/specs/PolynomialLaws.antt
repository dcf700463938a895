-- Group 2 keeps the laws. Proofs.
use Rattle.std.specs.Prelude.{◌≡◌, ℕ, zero, suc, ◌+◌, ◌-◌, ◌*◌, ◌/◌, ◌%◌, ◌^◌, ◌<◌, ◌≤◌, ltb, bit_xor, nat_lt, refl}
use Rattle.std.proofs.Common.{sym, ap, ap₂, subst, ◌∙◌, ⊎_elim, mul-zero, mod-lt, zero-mul, one-mul, pow-suc, div-add-mod', add-zero, zero-add, arith, lit<, lit≤}
use Rattle.std.proofs.lemmas.Nat.{xor_comm, xor_lt, xor_shr, xor_mod, xor_block}
use Rattle.std.specs.Int.Bits.{xor_assoc, xor_zero_r, xor_self, xor_shifted}
use Rattle.std.proofs.lemmas.Bool.{ltb-true, lt-ltb, and_parts, cases_lt}
use Rattle.group.specs.Monoid.{Commutative}
use Rattle.group.specs.Meaning.{Lawful, Prime}
use Rattle.group.specs.Subgroup.{positive_below}
use Rattle.roots.specs.Candidates.{AreNumbers, AreRoots}
use Rattle.binary_polynomials.specs.Polynomials.{times_z, sum_of_shifts, times_reduced, polynomials}
use Rattle.group.specs.ModularLaws.{prime_by, undivided}
use Rattle.group.specs.PowerLaws.{squared, choose}
use Rattle.group.specs.SubgroupLaws.{root_of, below_limit, root_computed, roots_below}

abbrev product : ℕ → ℕ → ℕ
product = sum_of_shifts 17

-- a bit times a number, over sums
pub bit_cases : (P : ℕ → Type 0) (b : ℕ) → P 0 → P 1 → b < 2 → P b
bit_cases P zero p0 p1 h = p0
bit_cases P (suc zero) p0 p1 h = p1
bit_cases P (suc (suc b)) p0 p1 h = absurd (omega arith)

pub bit_over_xor : (b x y : ℕ) → b < 2 → b * bit_xor x y ≡ bit_xor (b * x) (b * y)
bit_over_xor b x y = bit_cases (λ v. v * bit_xor x y ≡ bit_xor (v * x) (v * y)) b
    (zero-mul (bit_xor x y) ∙ sym (ap₂ bit_xor (zero-mul x) (zero-mul y)))
    (one-mul (bit_xor x y) ∙ sym (ap₂ bit_xor (one-mul x) (one-mul y)))

pub xor_over_bit : (a b x : ℕ) → a < 2 → b < 2 → bit_xor a b * x ≡ bit_xor (a * x) (b * x)
xor_over_bit a b x ha hb =
    bit_cases (λ v. bit_xor v b * x ≡ bit_xor (v * x) (b * x)) a
    (sym (ap (λ (y : ℕ). bit_xor y (b * x)) (zero-mul x)))
    (bit_cases (λ v. bit_xor 1 v * x ≡ bit_xor (1 * x) (v * x)) b
    (sym (ap (bit_xor (1 * x)) (zero-mul x) ∙ xor_zero_r (1 * x)))
    (zero-mul x ∙ sym (xor_self (1 * x))) hb) ha

pub xor_swap : (a b c d : ℕ) → bit_xor (bit_xor a b) (bit_xor c d) ≡ bit_xor (bit_xor a c) (bit_xor b d)
xor_swap a b c d =
    xor_assoc a b (bit_xor c d)
    ∙ ap (bit_xor a) (sym (xor_assoc b c d) ∙ ap (λ (x : ℕ). bit_xor x d) (xor_comm b c) ∙ xor_assoc c b d)
    ∙ sym (xor_assoc a c (bit_xor b d))

-- twice a sum
pub xor_double : (x y : ℕ) → bit_xor x y * 2 ≡ bit_xor (x * 2) (y * 2)
xor_double x y =
    sym (ap₂ bit_xor (sym (add-zero (x * 2))) (sym (add-zero (y * 2))) ∙ xor_block 1 x y 0 0 (lit< tt) (lit< tt) ∙ add-zero (bit_xor x y * 2))

times_z_xor : (x y : ℕ) → times_z (bit_xor x y) ≡ bit_xor (times_z x) (times_z y)
unfolding times_z
times_z_xor x y =
    ap₂ bit_xor (xor_double x y)
    (ap (λ (v : ℕ). v * 131081) (ap (λ (v : ℕ). v % 2) (xor_shr x y 16) ∙ xor_mod (x / 65536) (y / 65536) 1)
    ∙ xor_over_bit (x / 65536 % 2) (y / 65536 % 2) 131081 (mod-lt (x / 65536) (lit< tt)) (mod-lt (y / 65536) (lit< tt)))
    ∙ xor_swap (x * 2) (y * 2) (x / 65536 % 2 * 131081) (y / 65536 % 2 * 131081)

times_z_small : (x : ℕ) → x < 65536 → times_z x ≡ x * 2
unfolding times_z
times_z_small x h =
    ap (λ (v : ℕ). bit_xor (x * 2) (v * 131081)) {x = x / 65536 % 2} {y = 0} (omega arith) ∙ xor_zero_r (x * 2)

times_z_large : (x s : ℕ) → x < 131072 → x * 2 ≡ 131072 + s → times_z x ≡ bit_xor s 9
unfolding times_z
times_z_large x s h e =
    let b : s < 131072 = omega arith in
    let one : x / 65536 % 2 ≡ 1 = omega arith in
    ap₂ (λ (u v : ℕ). bit_xor u (v * 131081)) e one ∙ xor_block 17 1 1 s 9 b (lit< tt) ∙ zero-add (bit_xor s 9)

pub times_z_lt : (x : ℕ) → x < 131072 → times_z x < 131072
times_z_lt x h =
    ⊎_elim
    (λ (lo : x < 65536). let e = times_z_small x lo in omega arith)
    (λ (hi : 65536 ≤ x).
    let e = times_z_large x (x * 2 - 131072) h (omega arith) in
    let b : x * 2 - 131072 < 131072 = omega arith in
    subst (λ (v : ℕ). v < 131072) (sym e) (xor_lt 17 (x * 2 - 131072) 9 b (lit< tt)))
    (cases_lt x 65536)

times_z_bit : (b a : ℕ) → b < 2 → times_z (b * a) ≡ b * times_z a
unfolding times_z
times_z_bit b a = bit_cases (λ v. times_z (v * a) ≡ v * times_z a) b
    (ap times_z (zero-mul a) ∙ sym (zero-mul (times_z a)))
    (ap times_z (one-mul a) ∙ sym (one-mul (times_z a)))

sum_zero : (n b : ℕ) → sum_of_shifts n 0 b ≡ 0
unfolding sum_of_shifts times_z
sum_zero zero b = refl
sum_zero (suc n) b = ap₂ bit_xor (mul-zero (b % 2)) (sum_zero n (b / 2))

sum_none : (n a : ℕ) → sum_of_shifts n a 0 ≡ 0
unfolding sum_of_shifts
sum_none zero a = refl
sum_none (suc n) a = ap₂ bit_xor (zero-mul a) (sum_none n (times_z a))

sum_xor : (n a c b : ℕ) → sum_of_shifts n (bit_xor a c) b ≡ bit_xor (sum_of_shifts n a b) (sum_of_shifts n c b)
unfolding sum_of_shifts
sum_xor zero a c b = refl
sum_xor (suc n) a c b =
    ap₂ bit_xor (bit_over_xor (b % 2) a c (mod-lt b (lit< tt)))
    (ap (λ (x : ℕ). sum_of_shifts n x (b / 2)) (times_z_xor a c) ∙ sum_xor n (times_z a) (times_z c) (b / 2))
    ∙ xor_swap (b % 2 * a) (b % 2 * c) (sum_of_shifts n (times_z a) (b / 2)) (sum_of_shifts n (times_z c) (b / 2))

sum_times_z : (n a b : ℕ) → sum_of_shifts n (times_z a) b ≡ times_z (sum_of_shifts n a b)
unfolding sum_of_shifts times_z
sum_times_z zero a b = refl
sum_times_z (suc n) a b =
    ap₂ bit_xor (sym (times_z_bit (b % 2) a (mod-lt b (lit< tt)))) (sum_times_z n (times_z a) (b / 2))
    ∙ sym (times_z_xor (b % 2 * a) (sum_of_shifts n (times_z a) (b / 2)))

sum_lt : (n a b : ℕ) → a < 131072 → sum_of_shifts n a b < 131072
unfolding sum_of_shifts
sum_lt zero a b h = lit< tt
sum_lt (suc n) a b h =
    xor_lt 17 (b % 2 * a) (sum_of_shifts n (times_z a) (b / 2))
    (bit_cases (λ v. v * a < 131072) (b % 2) (omega (arith, zero-mul a)) (omega (arith, one-mul a)) (mod-lt b (lit< tt)))
    (sum_lt n (times_z a) (b / 2) (times_z_lt a h))

-- a number from its lowest bit and its half
rejoin : (b : ℕ) → b < 131072 → bit_xor (b % 2) (times_z (b / 2)) ≡ b
rejoin b h =
    ap (bit_xor (b % 2)) (times_z_small (b / 2) (omega arith))
    ∙ xor_comm (b % 2) (b / 2 * 2) ∙ xor_shifted (b / 2) 1 (b % 2) (mod-lt b (lit< tt)) ∙ div-add-mod' b 2

sum_one : (n b : ℕ) → b < 2 ^ n → n ≤ 17 → b < 131072 → sum_of_shifts n 1 b ≡ b
unfolding sum_of_shifts
sum_one zero b h k s = omega arith
sum_one (suc n) b h k s =
    ap₂ bit_xor (omega arith) (sum_times_z n 1 (b / 2) ∙ ap times_z (sum_one n (b / 2) (omega (arith, pow-suc 2 n)) (omega arith) (omega arith)))
    ∙ rejoin b s

bit_of : (n b a : ℕ) → b < 2 → sum_of_shifts n b a ≡ b * sum_of_shifts n 1 a
bit_of n b a = bit_cases (λ v. sum_of_shifts n v a ≡ v * sum_of_shifts n 1 a) b
    (sum_zero n a ∙ sym (zero-mul (sum_of_shifts n 1 a))) (sym (one-mul (sum_of_shifts n 1 a)))

-- in either order
sum_comm : (n a b : ℕ) → a < 131072 → b < 131072 → b < 2 ^ n → sum_of_shifts n a b ≡ product b a
unfolding sum_of_shifts
sum_comm zero a b ha hb h =
    sym (ap (λ (x : ℕ). product x a) {x = b} {y = 0} (omega arith) ∙ sum_zero 17 a)
sum_comm (suc n) a b ha hb h =
    ap₂ bit_xor
    (ap (λ (x : ℕ). b % 2 * x) (sym (sum_one 17 a ha (lit≤ tt) ha)) ∙ sym (bit_of 17 (b % 2) a (mod-lt b (lit< tt))))
    (sum_times_z n a (b / 2) ∙ ap times_z (sum_comm n a (b / 2) ha (omega arith) (omega (arith, pow-suc 2 n))) ∙ sym (sum_times_z 17 (b / 2) a))
    ∙ sym (sum_xor 17 (b % 2) (times_z (b / 2)) a)
    ∙ ap (λ (x : ℕ). product x a) (rejoin b hb)

times_comm : (a b : ℕ) → a < 131072 → b < 131072 → product a b ≡ product b a
times_comm a b ha hb = sum_comm 17 a b ha hb hb

pub times_lt : (a b : ℕ) → a < 131072 → product a b < 131072
times_lt a b h = sum_lt 17 a b h

times_xor : (a x y : ℕ) → a < 131072 → x < 131072 → y < 131072 → product a (bit_xor x y) ≡ bit_xor (product a x) (product a y)
times_xor a x y ha hx hy =
    times_comm a (bit_xor x y) ha (xor_lt 17 x y hx hy) ∙ sum_xor 17 x y a
    ∙ ap₂ bit_xor (times_comm x a hx ha) (times_comm y a hy ha)

times_times_z : (a b : ℕ) → a < 131072 → b < 131072 → product a (times_z b) ≡ times_z (product a b)
times_times_z a b ha hb =
    times_comm a (times_z b) ha (times_z_lt b hb) ∙ sum_times_z 17 b a ∙ ap times_z (times_comm b a hb ha)

pub bit_lt : (b a : ℕ) → a < 131072 → b < 2 → b * a < 131072
bit_lt b a h = bit_cases (λ v. v * a < 131072) b (omega (arith, zero-mul a)) (omega (arith, one-mul a))

times_bit : (a b c : ℕ) → b < 2 → product a (b * c) ≡ b * product a c
times_bit a b c = bit_cases (λ v. product a (v * c) ≡ v * product a c) b
    (ap (product a) (zero-mul c) ∙ zero_right a ∙ sym (zero-mul (product a c)))
    (ap (product a) (one-mul c) ∙ sym (one-mul (product a c)))
  where
    zero_right : (a : ℕ) → product a 0 ≡ 0
    zero_right a = sum_none 17 a

sum_assoc : (n a b c : ℕ) → a < 131072 → b < 131072 → sum_of_shifts n (product a b) c ≡ product a (sum_of_shifts n b c)
unfolding sum_of_shifts
sum_assoc zero a b c ha hb = sym (sum_none 17 a)
sum_assoc (suc n) a b c ha hb =
    ap₂ bit_xor (sym (times_bit a (c % 2) b (mod-lt c (lit< tt))))
    (ap (λ (x : ℕ). sum_of_shifts n x (c / 2)) (sym (times_times_z a b ha hb)) ∙ sum_assoc n a (times_z b) (c / 2) ha (times_z_lt b hb))
    ∙ sym (times_xor a (c % 2 * b) (sum_of_shifts n (times_z b) (c / 2)) ha (bit_lt (c % 2) b hb (mod-lt c (lit< tt))) (sum_lt n (times_z b) (c / 2) (times_z_lt b hb)))

-- all polynomials of degree below 17, 0 among them
pub all_polynomials : Commutative (λ u. ltb u 131072) times_reduced
all_polynomials = record {
  closed = λ u v hu hv. lt-ltb (product u v) 131072 (times_lt u v (ltb-true u 131072 hu));
  unit_member = refl;
  assoc = λ u v w hu hv hw. sum_assoc 17 u v w (ltb-true u 131072 hu) (ltb-true v 131072 hv);
  comm = λ u v hu hv. times_comm u v (ltb-true u 131072 hu) (ltb-true v 131072 hv);
  neutral = λ u hu. let h = ltb-true u 131072 hu in sum_one 17 u h (lit≤ tt) h;
}

pub prime : Prime 131071
unfolding undivided
prime = prime_by 131071 361 tt (lit< tt) (lit< tt)

pub polynomials_lawful : Lawful polynomials
unfolding squared choose sum_of_shifts times_z
polynomials_lawful = record {
  number_two_bytes = lit< tt;
  w_from = lit≤ tt;
  w_to = lit≤ tt;
  s_from = lit≤ tt;
  s_to = lit≤ tt;
  q_above = lit< tt;
  q_below = lit< tt;
  q_prime = prime;
  scalar_fits = lit≤ tt;
  member_fits = λ u h. let b = below_limit 131072 times_reduced 131071 u h in omega arith;
  member_candidate = λ u h. (root_of (positive_below 131072) times_reduced 131071 u h).candid;
  commutative = roots_below 131072 times_reduced 131071 all_polynomials (sum_zero 17) (lit< tt) (lit< tt);
  order = λ u h. (root_of (positive_below 131072) times_reduced 131071 u h).root;
  g_member = root_computed 131072 times_reduced 131071 all_polynomials 17 2 refl (lit< tt) refl;
  h_member = root_computed 131072 times_reduced 131071 all_polynomials 17 3 refl (lit< tt) refl;
  g_no_unit = λ e. omega arith;
}

pub polynomials_are_roots : AreRoots polynomials (λ u. nat_lt u 131072) 131071
polynomials_are_roots = record {
  q_is = refl;
  member_is = λ u. refl;
  candidate_factor = λ u h. (and_parts (nat_lt 0 u) (nat_lt u 131072) h).1;
}

pub polynomials_numbers : AreNumbers polynomials 2 3 3 1 2 3
polynomials_numbers = record { number_is = refl; w_is = refl; s_is = refl; unit_is = refl; g_is = refl; h_is = refl }

-- one turn of the sum
pub sum_turn : (acc n m x y : ℕ) → m ≡ suc n → bit_xor (bit_xor acc (y % 2 * x)) (sum_of_shifts n (times_z x) (y / 2)) ≡ bit_xor acc (sum_of_shifts m x y)
unfolding sum_of_shifts
sum_turn acc n m x y e =
    xor_assoc acc (y % 2 * x) (sum_of_shifts n (times_z x) (y / 2)) ∙ sym (ap (λ (k : ℕ). bit_xor acc (sum_of_shifts k x y)) e)

pub sum_end : (acc n x y : ℕ) → n ≡ 0 → bit_xor acc (sum_of_shifts n x y) ≡ acc
unfolding sum_of_shifts
sum_end acc n x y e = ap (λ (k : ℕ). bit_xor acc (sum_of_shifts k x y)) e ∙ xor_zero_r acc
