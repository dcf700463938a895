-- A dealer's own shares are below q and pass both equations.
use Rattle.std.proofs.Common.{◌≡◌, ℕ, ◌+◌, ◌%◌, true, List, [], ◌∷◌, map, ◌∙◌, ap₂, mod-lt, arith}
use Rattle.group.specs.Monoid.{power}
use Rattle.group.specs.Meaning.{Meaning, Lawful, products}
use Rattle.group.specs.PowerLaws.{power_zero, power_add, power_mod, power_member, swap_middle}
use Rattle.sharing.specs.Value.{sum_from, value_at}
use Rattle.sharing.specs.Commitment.{commitment}
use Rattle.sharing.specs.Interpolation.{Share}
use Rattle.sharing_laws.proofs.Homomorphisms.{Homomorphism, on_sum}
use Rattle.protocol.specs.Board.{shares}
use Rattle.protocol.specs.Custodian.{exposed}
use Rattle.protocol.proofs.Recovering.{power_keeps}

module _ (m : Meaning) (laws : Lawful m) where
  in_g : (n : ℕ) → m.member (power (products m) m.g n) ≡ true
  in_g n = power_member laws.commutative m.g n laws.g_member

  in_h : (n : ℕ) → m.member (power (products m) m.h n) ≡ true
  in_h n = power_member laws.commutative m.h n laws.h_member

  pub commitment_member : (p : ℕ × ℕ) → m.member (commitment m p) ≡ true
  commitment_member p = laws.commutative.closed _ _ (in_g p.0) (in_h p.1)

  pub exposed_member : (p : ℕ × ℕ) → m.member (exposed m p) ≡ true
  exposed_member p = in_g p.0

  power_of_sum : (u : ℕ) → m.member u ≡ true → (x y : ℕ) → power (products m) u ((x + y) % m.q) ≡ m.product (power (products m) u x) (power (products m) u y)
  power_of_sum u hu x y = power_mod laws.commutative u (x + y) m.q hu (laws.order u hu) ∙ power_add laws.commutative u x y hu

  commitment_keeps : Homomorphism (shares m) (products m) (commitment m)
  commitment_keeps = record {
    on_unit = ap₂ m.product (power_zero laws.commutative m.g) (power_zero laws.commutative m.h) ∙ laws.commutative.neutral m.unit laws.commutative.unit_member;
    on_op = λ x y.
        ap₂ m.product (power_of_sum m.g laws.g_member x.0 y.0) (power_of_sum m.h laws.h_member x.1 y.1)
        ∙ swap_middle laws.commutative _ _ _ _ (in_g x.0) (in_g y.0) (in_h x.1) (in_h y.1);
  }

  pub own_opens : (cs : List (ℕ × ℕ)) (j : ℕ) → commitment m (value_at (shares m) cs j) ≡ value_at (products m) (map (commitment m) cs) j
  own_opens cs j = on_sum commitment_keeps cs j 0

  pub own_exposed : (cs : List (ℕ × ℕ)) (j : ℕ) → power (products m) m.g (value_at (shares m) cs j).0 ≡ value_at (products m) (map (exposed m) cs) j
  own_exposed cs j = on_sum (power_keeps m laws) cs j 0

  pub own_below : (cs : List (ℕ × ℕ)) (j : ℕ) → Share m.q (value_at (shares m) cs j)
  unfolding sum_from
  own_below [] j = let above = laws.q_above in (omega arith, omega arith)
  own_below (c ∷ cs) j = let above = laws.q_above in (mod-lt _ (omega arith), mod-lt _ (omega arith))
