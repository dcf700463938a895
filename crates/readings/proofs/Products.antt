-- The product over seats, taken from the highest down.
use Rattle.std.proofs.Common.{◌≡◌, ℕ, zero, suc, ◌+◌, Bool, true, false, cond, List, [], ◌∷◌, ◌++◌, sym, refl, ap, ◌∙◌, Option, append-nil, arith}
use Rattle.std.specs.declared.iter.Rev.{Rev}
use Rattle.std.specs.declared.ops.Range.{Range}
use Rattle.std.specs.Fn.{Called}
use Rattle.std.specs.Iterator.{AlwaysYields, Drains}
use Rattle.std.specs.Iterator.Adapters.{rev_source, rev_steps}
use Rattle.std.specs.List.{fold, filter, FoldsTo}
use denote.Param.Members.{Mut}
use Rattle.std.proofs.lemmas.Fn.{fold_over}
use Rattle.std.proofs.lemmas.Iterator.{YieldsList}
use Rattle.std.proofs.iter.runs.Sources.{nat_range_steps_back}
use Rattle.group.specs.Meaning.{Meaning}
use Rattle.protocol.specs.Seats.{those}
use Rattle.protocol.specs.Board.{product_over}

-- the seats from n down to 1
abbrev pub down_from : ℕ → List ℕ
down_from zero = []
down_from (suc n) = suc n ∷ down_from n

range_gives : (n : ℕ) (s : Rev (Range ℕ)) → (rev_source s).start ≡ 1 → (rev_source s).end ≡ n + 1 → AlwaysYields (rev_steps nat_range_steps_back) (λ x. x) s (down_from n)
range_gives zero s a b = λ x t p. absurd (omega (arith, p.1.0))
range_gives (suc n) s a b = (
  (λ t p. absurd (omega (arith, p.1.0))),
  λ x t p. (omega (arith, p.1.1, p.1.2), range_gives n t (omega (arith, p.0)) (omega (arith, p.1.2))),
)

-- what the seats 1 to n yield from behind
pub range_down : (n k : ℕ) (s : Rev (Range ℕ)) → rev_source s ≡ record { start = 1; end = k + 1 } → k ≡ n → YieldsList (rev_steps nat_range_steps_back) (λ x. x) s (down_from n)
range_down n k s e same = record {
  runs = range_gives n s (ap (λ (r : Range ℕ). r.start) e) (ap (λ (r : Range ℕ). r.end) e ∙ ap (λ (i : ℕ). i + 1) same);
}

-- `fold_over` with the calls first, which say what the iterator and the closure are
pub folds_over : {S A C F : Type 0} (steps : S → Option A → S → Type 0) (g : Mut F (C × (A × Unit {0})) C) (f : F) (s : S) (a r : C)
    → (xs : List A) × (f' : F) × Drains steps s xs × FoldsTo {P = F × C} (λ p x q. Called g p.0 (p.1, (x, tt)) q.1 q.0) (f, a) xs (f', r)
    → (all : List A) → YieldsList steps (λ x. x) s all → (Holds : List A → C → Type 0)
    → ((ys : List A) (b : C) (x : A) (d : C) (f' : F) → Holds ys b → Called g f (b, (x, tt)) d f' → Holds (ys ++ x ∷ []) d × (f' ≡ f))
    → Holds [] a → Holds all r
folds_over steps g f s a r ran all road Holds step none = fold_over steps (λ x. x) g Holds f step s all a r road.runs none ran

module _ (m : Meaning) (f : ℕ → ℕ) where
  abbrev pub factor_more : ℕ → ℕ → ℕ
  factor_more z i = m.product (f i) z

  -- the product over some seats, times z
  abbrev product_with : List ℕ → ℕ → ℕ
  product_with [] z = z
  product_with (i ∷ is) z = m.product (f i) (product_with is z)

  with_unit : (l : List ℕ) → product_with l m.unit ≡ product_over m f l
  unfolding product_over
  with_unit [] = refl
  with_unit (i ∷ is) = ap (m.product (f i)) (with_unit is)

  with_push : (l : List ℕ) (x z : ℕ) → product_with (l ++ x ∷ []) z ≡ product_with l (m.product (f x) z)
  with_push [] x z = refl
  with_push (i ∷ is) x z = ap (m.product (f i)) (with_push is x z)

  module _ (P : ℕ → Bool) where
    folded : (n z : ℕ) → fold factor_more z (filter P (down_from n)) ≡ product_with (those n P) z
    unfolding those
    folded zero z = refl
    folded (suc n) z = go (P (suc n)) (folded n)
      where
        go : (here : Bool) → ((y : ℕ) → fold factor_more y (filter P (down_from n)) ≡ product_with (those n P) y)
            → fold factor_more z (cond here (suc n ∷ filter P (down_from n)) (filter P (down_from n))) ≡ product_with (those n P ++ cond here (suc n ∷ []) []) z
        go true before = before (m.product (f (suc n)) z) ∙ sym (with_push (those n P) (suc n) z)
        go false before = before z ∙ ap (λ (l : List ℕ). product_with l z) (sym (append-nil (those n P)))

    pub fold_product : (n : ℕ) → fold factor_more m.unit (filter P (down_from n)) ≡ product_over m f (those n P)
    fold_product n = folded n m.unit ∙ with_unit (those n P)
