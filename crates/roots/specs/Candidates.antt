-- What ties a group's meaning to the code that describes it. Definitions.
use Rattle.std.specs.Prelude.{◌≡◌, ℕ, Bool, true}
use Rattle.group.specs.Meaning.{Meaning, products}
use Rattle.group.specs.Subgroup.{roots}

-- the numbers of the code are those of the group
pub record AreNumbers (m : Meaning) (number w s unit g h : ℕ) : Type 0 where
  pub number_is : number ≡ m.number
  pub w_is : w ≡ m.w
  pub s_is : s ≡ m.s
  pub unit_is : unit ≡ m.unit
  pub g_is : g ≡ m.g
  pub h_is : h ≡ m.h

-- the members are the q-th roots of the unit among the candidates, and each candidate is a factor
pub record AreRoots (m : Meaning) (factor : ℕ → Bool) (q : ℕ) : Type 0 where
  pub q_is : m.q ≡ q
  pub member_is : (u : ℕ) → m.member u ≡ roots m.candidate (products m) q u
  pub candidate_factor : (u : ℕ) → m.candidate u ≡ true → factor u ≡ true
