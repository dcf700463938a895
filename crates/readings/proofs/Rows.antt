-- One row more of a list that is written from its start.
use Rattle.std.proofs.Common.{◌≡◌, ℕ, ◌+◌, ◌<◌, List, [], ◌∷◌, ◌++◌, map, length, get_or, drop, set, sym, ap, ◌∙◌, append_assoc, arith}
use Rattle.std.specs.List.{range_with_len}
use Rattle.std.proofs.lemmas.List.{set_at, drop_more}
use Rattle.std.proofs.lemmas.List.FromFn.{map-range_with_len_more, length-map-range_with_len}

pub row_more : {X : Type 0} (f : ℕ → X) (before now : List X) (k : ℕ) → k < length before
    → now ≡ map f (range_with_len 1 k) ++ drop k before → set now k (f (k + 1)) ≡ map f (range_with_len 1 (k + 1)) ++ drop (k + 1) before
row_more {X} f before now k h inv =
    let here : 1 + k ≡ k + 1 = omega arith in
    ap (λ (xs : List X). set xs k (f (k + 1))) (inv ∙ ap (λ (ys : List X). map f (range_with_len 1 k) ++ ys) (drop_more before k (f 0) h))
    ∙ set_at (map f (range_with_len 1 k)) (get_or before k (f 0)) (drop (k + 1) before) (f (k + 1)) k (length-map-range_with_len f 1 k)
    ∙ sym (append_assoc (map f (range_with_len 1 k)) (f (k + 1) ∷ []) (drop (k + 1) before))
    ∙ ap (λ (ys : List X). ys ++ drop (k + 1) before) (sym (map-range_with_len_more f 1 k (k + 1) here))
