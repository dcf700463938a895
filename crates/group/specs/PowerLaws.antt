-- Laws of powers under any commutative operation. Proofs.
use Rattle.std.specs.Prelude.{◌≡◌, ℕ, zero, suc, ◌+◌, ◌*◌, ◌/◌, ◌%◌, ◌^◌, ◌<◌, Bool, true}
use Rattle.std.proofs.Math.Path.{refl, sym, ap}
use Rattle.std.proofs.Common.{◌∙◌, zero-add, suc-add, mul_comm, div-add-mod', mul-zero, mul-suc, arith}
use Rattle.std.proofs.Math.Logic.{⊎_elim}
use Rattle.std.proofs.Math.Nat.{add_comm, pow-suc}
use Rattle.std.proofs.lemmas.Bool.{cases_eq}
use Rattle.group.specs.Monoid.{Monoid, power, Commutative}

module _ {V : Type 0} {member : V → Bool} {m : Monoid V} (laws : Commutative member m) where
  open m use {op, unit}

  pub neutral_right : (u : V) → member u ≡ true → op u unit ≡ u
  neutral_right u hu = laws.comm u unit hu laws.unit_member ∙ laws.neutral u hu

  pub power_member : (u : V) (n : ℕ) → member u ≡ true → member (power m u n) ≡ true
  unfolding power
  power_member u zero hu = laws.unit_member
  power_member u (suc n) hu = laws.closed u (power m u n) hu (power_member u n hu)

  pub power_zero : (u : V) → power m u 0 ≡ unit
  unfolding power
  power_zero u = refl

  pub power_one : (u : V) → member u ≡ true → power m u 1 ≡ u
  unfolding power
  power_one u hu = neutral_right u hu

  pub power_add : (u : V) (a b : ℕ) → member u ≡ true → power m u (a + b) ≡ op (power m u a) (power m u b)
  unfolding power
  power_add u zero b hu = ap (power m u) (zero-add b) ∙ sym (laws.neutral (power m u b) (power_member u b hu))
  power_add u (suc a) b hu =
      ap (power m u) (suc-add a b)
      ∙ ap (op u) (power_add u a b hu)
      ∙ sym (laws.assoc u (power m u a) (power m u b) hu (power_member u a hu) (power_member u b hu))

  pub power_unit : (n : ℕ) → power m unit n ≡ unit
  unfolding power
  power_unit zero = refl
  power_unit (suc n) = ap (op unit) (power_unit n) ∙ laws.neutral unit laws.unit_member

  pub power_mul : (u : V) (a b : ℕ) → member u ≡ true → power m u (a * b) ≡ power m (power m u a) b
  unfolding power
  power_mul u a zero hu = ap (power m u) (mul-zero a)
  power_mul u a (suc b) hu =
      ap (power m u) (mul-suc a b ∙ add_comm (a * b) a)
      ∙ power_add u a (a * b) hu
      ∙ ap (op (power m u a)) (power_mul u a b hu)

  -- the middle two of four change places
  pub swap_middle : (a b c d : V) → member a ≡ true → member b ≡ true → member c ≡ true → member d ≡ true → op (op a b) (op c d) ≡ op (op a c) (op b d)
  swap_middle a b c d ha hb hc hd =
      laws.assoc a b (op c d) ha hb (laws.closed c d hc hd)
      ∙ ap (op a) (sym (laws.assoc b c d hb hc hd) ∙ ap (λ (x : V). op x d) (laws.comm b c hb hc) ∙ laws.assoc c b d hc hb hd)
      ∙ sym (laws.assoc a c (op b d) ha hc (laws.closed b d hb hd))

  pub power_op : (u v : V) (n : ℕ) → member u ≡ true → member v ≡ true → power m (op u v) n ≡ op (power m u n) (power m v n)
  unfolding power
  power_op u v zero hu hv = sym (laws.neutral unit laws.unit_member)
  power_op u v (suc n) hu hv =
      ap (op (op u v)) (power_op u v n hu hv)
      ∙ swap_middle u v (power m u n) (power m v n) hu hv (power_member u n hu) (power_member v n hv)

  -- an exponent counts modulo any q with u^q the unit
  pub power_mod : (u : V) (n q : ℕ) → member u ≡ true → power m u q ≡ unit → power m u (n % q) ≡ power m u n
  power_mod u n q hu e =
      sym (laws.neutral (power m u (n % q)) (power_member u (n % q) hu))
      ∙ ap (λ (x : V). op x (power m u (n % q))) (sym whole)
      ∙ sym (power_add u (n / q * q) (n % q) hu)
      ∙ ap (power m u) (div-add-mod' n q)
    where
      whole : power m u (n / q * q) ≡ unit
      whole =
          ap (power m u) (mul_comm (n / q) q)
          ∙ power_mul u q (n / q) hu
          ∙ ap (λ (x : V). power m x (n / q)) e
          ∙ power_unit (n / q)

  -- Square and multiply: what one turn keeps.

  square : (u : V) (n : ℕ) → member u ≡ true → power m u (2 * n) ≡ power m (op u u) n
  square u n hu =
      ap (power m u) (omega arith)
      ∙ power_add u n n hu
      ∙ sym (power_op u u n hu hu)

  pub turn_even : (acc u : V) (n : ℕ) → member u ≡ true → n % 2 ≡ 0 → op acc (power m (op u u) (n / 2)) ≡ op acc (power m u n)
  turn_even acc u n hu e = ap (op acc) (sym (square u (n / 2) hu) ∙ ap (power m u) (omega arith))

  one_more : (u : V) (k n : ℕ) → suc (2 * k) ≡ n → op u (power m u (2 * k)) ≡ power m u n
  unfolding power
  one_more u k n e = ap (power m u) e

  pub turn_odd : (acc u : V) (n : ℕ) → member acc ≡ true → member u ≡ true → n % 2 ≡ 1 → op (op acc u) (power m (op u u) (n / 2)) ≡ op acc (power m u n)
  turn_odd acc u n ha hu e =
      laws.assoc acc u (power m (op u u) (n / 2)) ha hu (power_member (op u u) (n / 2) (laws.closed u u hu hu))
      ∙ ap (op acc) (ap (op u) (sym (square u (n / 2) hu)) ∙ one_more u (n / 2) n (omega arith))

-- Powers that the check can compute: f turns of square and multiply.

unfoldable pub choose : {V : Type 0} → ℕ → V → V → V
choose zero a b = a
choose (suc k) a b = b

unfoldable pub squared : {V : Type 0} → (V → V → V) → ℕ → V → V → ℕ → V
unfolding choose
squared op zero acc u n = acc
squared op (suc f) acc u n = squared op f (choose (n % 2) acc (op acc u)) (op u u) (n / 2)

module _ {V : Type 0} {member : V → Bool} {m : Monoid V} (laws : Commutative member m) where
  open m use {op, unit}

  pub squared_is : (f : ℕ) (acc u : V) (n : ℕ) → member acc ≡ true → member u ≡ true → n < 2 ^ f → squared op f acc u n ≡ op acc (power m u n)
  unfolding squared power choose
  squared_is zero acc u n ha hu h = sym (neutral_right laws acc ha) ∙ ap (λ (x : ℕ). op acc (power m u x)) {x = 0} {y = n} (omega arith)
  squared_is (suc f) acc u n ha hu h =
      ⊎_elim
      (λ (e : n % 2 ≡ 0).
      ap (λ (x : ℕ). squared op f (choose x acc (op acc u)) (op u u) (n / 2)) e
      ∙ squared_is f acc (op u u) (n / 2) ha (laws.closed u u hu hu) half
      ∙ turn_even laws acc u n hu e)
      (λ (ne : n % 2 ≡ 0 → ⊥).
      let e : n % 2 ≡ 1 = omega (arith, ne) in
      ap (λ (x : ℕ). squared op f (choose x acc (op acc u)) (op u u) (n / 2)) e
      ∙ squared_is f (op acc u) (op u u) (n / 2) (laws.closed acc u ha hu) (laws.closed u u hu hu) half
      ∙ turn_odd laws acc u n ha hu e)
      (cases_eq (n % 2) 0)
    where
      half : n / 2 < 2 ^ f
      half = omega (arith, pow-suc 2 f)

  -- a power that comes out as the unit
  pub power_computed : (f : ℕ) (u x : V) (n : ℕ) → member u ≡ true → n < 2 ^ f → squared op f unit u n ≡ x → power m u n ≡ x
  power_computed f u x n hu h e =
      sym (laws.neutral (power m u n) (power_member laws u n hu)) ∙ sym (squared_is f unit u n laws.unit_member hu h) ∙ e
