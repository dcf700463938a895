-- What follows for scalars and members. Proofs.
use Rattle.std.specs.Prelude.{ℕ, Bool, ◌<◌}
use Rattle.std.proofs.Common.{sym, subst}
use Rattle.group.specs.Meaning.{Meaning}
use Rattle.roots.specs.Candidates.{AreRoots}

module _ {m : Meaning} {factor : ℕ → Bool} {q : ℕ} where
  pub below_order : AreRoots m factor q → {x : ℕ} → x < q → x < m.q
  below_order r {x} h = subst (λ n. x < n) (sym r.q_is) h
