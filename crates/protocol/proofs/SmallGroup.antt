-- The small group is lawful. In it the check can compute a whole history.
use Rattle.std.proofs.Common.{ℕ, ◌+◌, ◌%◌, sym, refl, ap, ◌∙◌, add_assoc, mod-lt, mod-eq_of_lt, add_comm, zero-add, arith}
use native.Mathlib.Nat.{mod-add-mod, add-mod-mod}
use Rattle.std.proofs.lemmas.Bool.{ltb-true, lt-ltb}
use Rattle.group.specs.Monoid.{Commutative}
use Rattle.group.specs.Meaning.{Lawful, Prime, products}
use Rattle.group.specs.ModularLaws.{undivided, prime_by}
use Rattle.sharing.specs.LinearLaws.{scalar_exponent}
use Rattle.protocol.specs.Instances.{small}

sums : Commutative small.member (products small)
sums = record {
  closed = λ x y hx hy. lt-ltb ((x + y) % 67) 67 (mod-lt (x + y) (omega arith));
  unit_member = refl;
  assoc = λ x y z hx hy hz. mod-add-mod (x + y) 67 z ∙ ap (λ (v : ℕ). v % 67) (add_assoc x y z) ∙ sym (add-mod-mod x (y + z) 67);
  comm = λ x y hx hy. ap (λ (v : ℕ). v % 67) (add_comm x y);
  neutral = λ x h. ap (λ (v : ℕ). v % 67) (zero-add x) ∙ mod-eq_of_lt (ltb-true x 67 h);
}

prime : Prime 67
unfolding undivided
prime = prime_by 67 7 tt (omega arith) (omega arith)

pub small_lawful : Lawful small
small_lawful = record {
  number_two_bytes = omega arith;
  w_from = omega arith;
  w_to = omega arith;
  s_from = omega arith;
  s_to = omega arith;
  q_above = omega arith;
  q_below = omega arith;
  q_prime = prime;
  scalar_fits = omega arith;
  member_fits = λ u h. let b = ltb-true u 67 h in omega arith;
  member_candidate = λ u h. h;
  commutative = sums;
  order = λ u h. scalar_exponent 67 u h;
  g_member = refl;
  h_member = refl;
  g_no_unit = λ e. omega arith;
}
