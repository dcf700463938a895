-- Group 1 keeps the laws. Proofs.
use Rattle.std.specs.Prelude.{ℕ, ◌*◌, ◌%◌, ltb, nat_lt, refl}
use Rattle.std.proofs.Common.{ap, ◌∙◌, mul_comm, mod-lt, mod-eq_of_lt, zero-mul, one-mul, arith, lit<, lit≤}
use Rattle.std.proofs.lemmas.Bool.{ltb-true, lt-ltb, and_parts}
use Rattle.group.specs.Monoid.{Commutative}
use Rattle.group.specs.Meaning.{Lawful, Prime}
use Rattle.group.specs.Subgroup.{positive_below}
use Rattle.roots.specs.Candidates.{AreNumbers, AreRoots}
use Rattle.residues.specs.Residues.{times_modulo, residues}
use Rattle.group.specs.ModularLaws.{mod_mul_assoc, prime_by, undivided}
use Rattle.group.specs.PowerLaws.{squared, choose}
use Rattle.group.specs.SubgroupLaws.{root_of, below_limit, root_computed, roots_below}

-- all residues, 0 among them
pub all_residues : Commutative (λ u. ltb u 2039) times_modulo
all_residues = record {
  closed = λ u v hu hv. lt-ltb ((u * v) % 2039) 2039 (mod-lt (u * v) (lit< tt));
  unit_member = refl;
  assoc = λ u v w hu hv hw. mod_mul_assoc u v w 2039;
  comm = λ u v hu hv. ap (λ (x : ℕ). x % 2039) (mul_comm u v);
  neutral = λ u hu. ap (λ (x : ℕ). x % 2039) (one-mul u) ∙ mod-eq_of_lt (ltb-true u 2039 hu);
}

pub prime : Prime 1019
unfolding undivided
prime = prime_by 1019 31 tt (lit< tt) (lit< tt)

pub residues_lawful : Lawful residues
unfolding squared choose
residues_lawful = record {
  number_two_bytes = lit< tt;
  w_from = lit≤ tt;
  w_to = lit≤ tt;
  s_from = lit≤ tt;
  s_to = lit≤ tt;
  q_above = lit< tt;
  q_below = lit< tt;
  q_prime = prime;
  scalar_fits = lit≤ tt;
  member_fits = λ u h. let b = below_limit 2039 times_modulo 1019 u h in omega arith;
  member_candidate = λ u h. (root_of (positive_below 2039) times_modulo 1019 u h).candid;
  commutative = roots_below 2039 times_modulo 1019 all_residues (λ v. ap (λ (x : ℕ). x % 2039) (zero-mul v)) (lit< tt) (lit< tt);
  order = λ u h. (root_of (positive_below 2039) times_modulo 1019 u h).root;
  g_member = root_computed 2039 times_modulo 1019 all_residues 10 4 refl (lit< tt) refl;
  h_member = root_computed 2039 times_modulo 1019 all_residues 10 9 refl (lit< tt) refl;
  g_no_unit = λ e. omega arith;
}

pub residues_are_roots : AreRoots residues (λ u. nat_lt u 2039) 1019
residues_are_roots = record {
  q_is = refl;
  member_is = λ u. refl;
  candidate_factor = λ u h. (and_parts (nat_lt 0 u) (nat_lt u 2039) h).1;
}

pub residues_numbers : AreNumbers residues 1 2 2 1 4 9
residues_numbers = record { number_is = refl; w_is = refl; s_is = refl; unit_is = refl; g_is = refl; h_is = refl }
