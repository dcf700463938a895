-- Maps that keep sums keep multiples, values and weighted sums.
use Rattle.std.proofs.Common.{◌≡◌, ℕ, zero, suc, ◌^◌, List, [], ◌∷◌, map, ap, ◌∙◌, ap₂}
use Rattle.std.specs.List.{AllByRecursion}
use Rattle.group.specs.Monoid.{Monoid, power}
use Rattle.sharing.specs.Linear.{scaled}
use Rattle.sharing.specs.Value.{sum_from}
use Rattle.sharing.specs.Interpolation.{weighted, seats_of}
use Rattle.sharing_laws.proofs.Samples.{sampled}

-- f takes sums to sums, and the unit to the unit
pub record Homomorphism {V W : Type 0} (a : Monoid V) (b : Monoid W) (f : V → W) : Type 0 where
  pub on_unit : f a.unit ≡ b.unit
  pub on_op : (x y : V) → f (a.op x y) ≡ b.op (f x) (f y)

module _ {V W : Type 0} {a : Monoid V} {b : Monoid W} {f : V → W} (hom : Homomorphism a b f) where
  pub on_scaled : (n : ℕ) (x : V) → f (scaled a n x) ≡ scaled b n (f x)
  unfolding power
  on_scaled zero x = hom.on_unit
  on_scaled (suc n) x = hom.on_op x (scaled a n x) ∙ ap (b.op (f x)) (on_scaled n x)

  pub on_sum : (vs : List V) (j k : ℕ) → f (sum_from a vs j k) ≡ sum_from b (map f vs) j k
  unfolding sum_from
  on_sum [] j k = hom.on_unit
  on_sum (v ∷ vs) j k = hom.on_op (scaled a (j ^ k) v) (sum_from a vs j (suc k)) ∙ ap₂ b.op (on_scaled (j ^ k) v) (on_sum vs j (suc k))

  -- where f takes each entry to the value of g at its seat, it takes their weighted sum to that of g's values
  pub on_weighted : (g : ℕ → W) (w : ℕ → ℕ) (es : List (ℕ × V)) → AllByRecursion (λ e. f e.1 ≡ g e.0) es → f (weighted a w es) ≡ weighted b w (sampled g (seats_of es))
  unfolding weighted sampled
  on_weighted g w [] h = hom.on_unit
  on_weighted g w (e ∷ es) h =
      hom.on_op (scaled a (w e.0) e.1) (weighted a w es)
      ∙ ap₂ b.op (on_scaled (w e.0) e.1 ∙ ap (scaled b (w e.0)) h.0) (on_weighted g w es h.1)
