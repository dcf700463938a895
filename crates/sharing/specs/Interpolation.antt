-- Interpolation at zero from the values at different seats, and what is proved of it. Definitions.
use Rattle.std.specs.Prelude.{◌≡◌, ℕ, zero, suc, ◌+◌, ◌-◌, ◌*◌, ◌%◌, ◌<◌, ◌≤◌, Bool, true, false, cond, List, [], ◌∷◌, length, ◌==◌, ◌≢◌, nat_eq}
use Rattle.std.specs.List.{AllByRecursion}
use Rattle.group.specs.Monoid.{Monoid, power}
use Rattle.group.specs.Meaning.{Meaning, Lawful, products}
use Rattle.sharing.specs.Linear.{scaled, scalar_sum, pair_sum}
use Rattle.sharing.specs.Value.{value_at}
use Rattle.sharing.specs.Commitment.{commitment}

-- a − b modulo q
abbrev pub minus : ℕ → ℕ → ℕ → ℕ
minus q a b = (a + (q - b)) % q

-- the first number from y on, of n numbers, that passes a test; 0 where none does
unfoldable pub first_from : (ℕ → Bool) → ℕ → ℕ → ℕ
first_from test y zero = 0
first_from test y (suc n) = elim (test y) [ true ↦ y | false ↦ first_from test (suc y) n ]

-- the inverse of a modulo q: the number below q whose product with a is 1 modulo q
unfoldable pub inverse : ℕ → ℕ → ℕ
inverse q a = first_from (λ y. nat_eq ((y * a) % q) 1) 0 q

-- the factor of the seat l in the weight of the seat m: l / (l − m) modulo q; a seat has no factor in its own weight
unfoldable pub factor : ℕ → ℕ → ℕ → ℕ
factor q l m = cond (l == m) 1 ((l * inverse q (minus q l m)) % q)

-- the weight of the seat m: the product of the factors of all seats
unfoldable pub weight : ℕ → List ℕ → ℕ → ℕ
weight q [] m = 1
weight q (l ∷ ls) m = (factor q l m * weight q ls m) % q

-- the sum of weight times entry, over entries that each have a seat
unfoldable pub weighted : {V : Type 0} → Monoid V → (ℕ → ℕ) → List (ℕ × V) → V
weighted sum w [] = sum.unit
weighted sum w (e ∷ es) = sum.op (scaled sum (w e.0) e.1) (weighted sum w es)

abbrev pub seats_of : {V : Type 0} → List (ℕ × V) → List ℕ
seats_of [] = []
seats_of (e ∷ es) = e.0 ∷ seats_of es

abbrev pub interpolated : {V : Type 0} → Monoid V → ℕ → List (ℕ × V) → V
interpolated sum q entries = weighted sum (weight q (seats_of entries)) entries

-- the entries of some seats, whose codes of a width stand one after another from a place on
unfoldable pub entries_from : {V : Type 0} → (ℕ → V) → ℕ → ℕ → List ℕ → List (ℕ × V)
entries_from decoded width at [] = []
entries_from decoded width at (m ∷ ms) = (m, decoded at) ∷ entries_from decoded width (at + width) ms

-- different seats from 1 to 32
abbrev pub Seats : List ℕ → Type 0
Seats [] = Unit {0}
Seats (m ∷ ms) = (1 ≤ m) × (m ≤ 32) × AllByRecursion (λ l. m ≢ l) ms × Seats ms

-- the values at some seats of the polynomial with these coefficients
unfoldable pub values_at : {V : Type 0} → Monoid V → List V → List ℕ → List (ℕ × V)
values_at sum vs [] = []
values_at sum vs (m ∷ ms) = (m, value_at sum vs m) ∷ values_at sum vs ms

-- What is proved.

-- the values of t + 1 coefficients at t + 1 different seats interpolate to the first coefficient
abbrev pub Interpolates : {V : Type 0} → ℕ → (V → Bool) → Monoid V → Type 0
Interpolates {V} q member sum =
    (seats : List ℕ) → Seats seats → (v : V) (vs : List V) → AllByRecursion (λ x. member x ≡ true) (v ∷ vs) → length (v ∷ vs) ≡ length seats
    → interpolated sum q (values_at sum (v ∷ vs) seats) ≡ v

abbrev pub Share : ℕ → ℕ × ℕ → Type 0
Share q share = (share.0 < q) × (share.1 < q)

-- shares that each open the value of the commitments at their seat interpolate to an opening of the first commitment
abbrev pub OpeningsInterpolate : Type 0
OpeningsInterpolate =
    (m : Meaning) → Lawful m → (entries : List (ℕ × (ℕ × ℕ))) → Seats (seats_of entries)
    → (c : ℕ) (cs : List ℕ) → AllByRecursion (λ u. m.member u ≡ true) (c ∷ cs) → length (c ∷ cs) ≡ length entries
    → AllByRecursion (λ e. Share m.q e.1 × (commitment m e.1 ≡ value_at (products m) (c ∷ cs) e.0)) entries
    → commitment m (interpolated (pair_sum (scalar_sum m.q) (scalar_sum m.q)) m.q entries) ≡ c

-- logarithms of the values of A_0 .. A_t at the seats interpolate to a logarithm of A_0
abbrev pub LogarithmsInterpolate : Type 0
LogarithmsInterpolate =
    (m : Meaning) → Lawful m → (entries : List (ℕ × ℕ)) → Seats (seats_of entries)
    → (a : ℕ) (later : List ℕ) → AllByRecursion (λ u. m.member u ≡ true) (a ∷ later) → length (a ∷ later) ≡ length entries
    → AllByRecursion (λ e. (e.1 < m.q) × (power (products m) m.g e.1 ≡ value_at (products m) (a ∷ later) e.0)) entries
    → power (products m) m.g (interpolated (scalar_sum m.q) m.q entries) ≡ a

-- logarithms to the base g are unique below q
abbrev pub LogarithmsUnique : Type 0
LogarithmsUnique =
    (m : Meaning) → Lawful m → (a b : ℕ) → a < m.q → b < m.q
    → power (products m) m.g a ≡ power (products m) m.g b → a ≡ b

-- two openings of one element with different s have different s', and (z − y) / (y' − z') is the one logarithm of h
abbrev pub OpeningsDiffer : Type 0
OpeningsDiffer =
    (m : Meaning) → Lawful m → (y z : ℕ × ℕ) → Share m.q y → Share m.q z
    → commitment m y ≡ commitment m z → (y.0 ≢ z.0)
    → let w = (minus m.q z.0 y.0 * inverse m.q (minus m.q y.1 z.1)) % m.q in
    (y.1 ≢ z.1) × (w < m.q) × (power (products m) m.g w ≡ m.h)
    × ((x : ℕ) → x < m.q → power (products m) m.g x ≡ m.h → x ≡ w)
