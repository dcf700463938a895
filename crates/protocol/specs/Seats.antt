-- Tests over the seats 1 to n. Definitions.
use Rattle.std.specs.Prelude.{ℕ, zero, suc, Bool, true, false, cond, ◌&&◌, ◌||◌, List, [], ◌∷◌, ◌++◌, Some, None, Option, nat_le}

-- i is one of the seats 1 to n
abbrev pub is_seat : ℕ → ℕ → Bool
is_seat n i = nat_le 1 i && nat_le i n

-- how many seats pass a test
unfoldable pub count : ℕ → (ℕ → Bool) → ℕ
count zero test = 0
count (suc n) test = cond (test (suc n)) (suc (count n test)) (count n test)

-- whether every seat passes it
unfoldable pub every : ℕ → (ℕ → Bool) → Bool
every zero test = true
every (suc n) test = test (suc n) && every n test

-- whether some seat passes it
unfoldable pub some : ℕ → (ℕ → Bool) → Bool
some zero test = false
some (suc n) test = test (suc n) || some n test

-- the seats that pass it, by rising seat
unfoldable pub those : ℕ → (ℕ → Bool) → List ℕ
those zero test = []
those (suc n) test = those n test ++ cond (test (suc n)) (suc n ∷ []) []

-- the first of two that is there
abbrev pub or_else : {A : Type 0} → Option A → Option A → Option A
or_else (Some a) other = Some a
or_else None other = other

-- the lowest seat that passes it
unfoldable pub lowest : ℕ → (ℕ → Bool) → Option ℕ
lowest zero test = None
lowest (suc n) test = or_else (lowest n test) (cond (test (suc n)) (Some (suc n)) None)

-- a test of what may be absent, which then fails
abbrev pub holds : {A : Type 0} → Option A → (A → Bool) → Bool
holds None test = false
holds (Some a) test = test a

abbrev pub mapped : {A B : Type 0} → (A → B) → Option A → Option B
mapped f None = None
mapped f (Some a) = Some (f a)
