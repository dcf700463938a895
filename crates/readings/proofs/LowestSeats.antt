-- The lowest seats that pass a test, found one seat after another.
use Rattle.std.proofs.Common.{◌≡◌, ℕ, suc, ◌+◌, ◌-◌, ◌<◌, ◌≤◌, Bool, true, false, cond, List, [], ◌∷◌, ◌++◌, length, take, sym, refl, ap, ◌∙◌, arith, length-append, length-take}
use Rattle.std.proofs.Math.Seq.{take-nil}
use Rattle.std.proofs.lemmas.List.{append-nil, take-append-le, take_all}
use Rattle.protocol.specs.Seats.{those}

those_none : (P : ℕ → Bool) → those (1 - 1) P ≡ []
unfolding those
those_none P = refl

those_next : (P : ℕ → Bool) (j : ℕ) → 1 ≤ j → those (j + 1 - 1) P ≡ those (j - 1) P ++ cond (P j) (j ∷ []) []
unfolding those
those_next P j h =
    let next : j + 1 - 1 ≡ suc (j - 1) = omega arith in
    let same : suc (j - 1) ≡ j = omega arith in
    ap (λ (n : ℕ). those n P) next ∙ ap (λ (i : ℕ). those (j - 1) P ++ cond (P i) (i ∷ []) []) same

those_more : (P : ℕ → Bool) (j : ℕ) → 1 ≤ j → P j ≡ true → those (j + 1 - 1) P ≡ those (j - 1) P ++ j ∷ []
those_more P j h p = those_next P j h ∙ ap (λ (b : Bool). those (j - 1) P ++ cond b (j ∷ []) []) p

those_same : (P : ℕ → Bool) (j : ℕ) → 1 ≤ j → P j ≡ false → those (j + 1 - 1) P ≡ those (j - 1) P
those_same P j h p = those_next P j h ∙ ap (λ (b : Bool). those (j - 1) P ++ cond b (j ∷ []) []) p ∙ append-nil (those (j - 1) P)

-- the k lowest, where one seat more is tried: it is one of them, or they are k already
module _ (P : ℕ → Bool) (k : ℕ) where
  pub lowest_none : [] ≡ take k (those (1 - 1) P)
  lowest_none = sym (ap (take k) (those_none P) ∙ take-nil k)

  module _ (l : List ℕ) (j : ℕ) (e : l ≡ take k (those (j - 1) P)) (h : 1 ≤ j) where
    pub lowest_more : length l < k → P j ≡ true → l ++ j ∷ [] ≡ take k (those (j + 1 - 1) P)
    lowest_more few p =
        let all = those (j - 1) P in
        let short : length all < k = omega (arith, ap length e, length-take k all) in
        ap (λ (xs : List ℕ). xs ++ j ∷ []) (e ∙ take_all k all (omega arith))
        ∙ sym (ap (take k) (those_more P j h p) ∙ take_all k (all ++ j ∷ []) (omega (arith, length-append all (j ∷ []))))

    pub lowest_same : P j ≡ false → l ≡ take k (those (j + 1 - 1) P)
    lowest_same p = e ∙ sym (ap (take k) (those_same P j h p))

    pub lowest_full : k ≤ length l → l ≡ take k (those (j + 1 - 1) P)
    lowest_full enough =
        let all = those (j - 1) P in
        e ∙ sym (ap (take k) (those_next P j h) ∙ take-append-le k all (cond (P j) (j ∷ []) []) (omega (arith, ap length e, length-take k all)))
