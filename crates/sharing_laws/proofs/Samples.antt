-- The values of a function at some seats, as entries; values of a polynomial are such entries.
use Rattle.std.proofs.Common.{◌≡◌, ℕ, suc, List, [], ◌∷◌, length, refl, ap}
use Rattle.std.specs.List.{AllByRecursion}
use Rattle.group.specs.Monoid.{Monoid}
use Rattle.sharing.specs.Value.{value_at}
use Rattle.sharing.specs.Interpolation.{seats_of, values_at}

pub seats_length : {V : Type 0} (es : List (ℕ × V)) → length (seats_of es) ≡ length es
seats_length [] = refl
seats_length (e ∷ es) = ap suc (seats_length es)

unfoldable pub sampled : {V : Type 0} → (ℕ → V) → List ℕ → List (ℕ × V)
sampled f [] = []
sampled f (m ∷ ms) = (m, f m) ∷ sampled f ms

pub seats_sampled : {V : Type 0} (f : ℕ → V) (ms : List ℕ) → seats_of (sampled f ms) ≡ ms
unfolding sampled
seats_sampled f [] = refl
seats_sampled f (m ∷ ms) = ap (λ (s : List ℕ). m ∷ s) (seats_sampled f ms)

-- the values of a polynomial are those of the function j ↦ value_at j
pub values_sampled : {V : Type 0} (sum : Monoid V) (vs : List V) (ms : List ℕ) → values_at sum vs ms ≡ sampled (value_at sum vs) ms
unfolding sampled values_at
values_sampled sum vs [] = refl
values_sampled {V} sum vs (m ∷ ms) = ap (λ (s : List (ℕ × V)). (m, value_at sum vs m) ∷ s) (values_sampled sum vs ms)

-- what holds of each value at its seat holds of each entry
pub all_sampled : {V : Type 0} (P : ℕ × V → Type 0) (f : ℕ → V) → ((m : ℕ) → P (m, f m)) → (ms : List ℕ) → AllByRecursion P (sampled f ms)
unfolding sampled
all_sampled P f h [] = tt
all_sampled P f h (m ∷ ms) = (h m, all_sampled P f h ms)
