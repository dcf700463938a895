-- Interpolation by weights, where every value is a member.
use Rattle.std.proofs.Common.{◌≡◌, ℕ, ◌+◌, ◌*◌, ◌<◌, ◌≤◌, true, List, [], ◌∷◌, length, sym, refl, ap, ◌∙◌, ap₂, mul_comm, arith}
use Rattle.std.specs.List.{AllByRecursion}
use Rattle.group.specs.Monoid.{Monoid, Commutative}
use Rattle.group.specs.Meaning.{Prime}
use Rattle.group.specs.PowerLaws.{neutral_right, power_one, power_add, power_mul, power_op, power_unit, swap_middle}
use Rattle.sharing.specs.Linear.{scaled, Exponent}
use Rattle.sharing.specs.Value.{value_at}
use Rattle.sharing.specs.Interpolation.{minus, inverse, weight, weighted, Seats}
use Rattle.sharing.proofs.Horner.{value_none, horner}
use Rattle.sharing_laws.proofs.Multiples.{swap_first, scaled_same, cancel, undone, parted}
use Rattle.sharing.proofs.Differences.{minus_below, minus_positive}
use Rattle.sharing_laws.proofs.Factors.{weight_other, weight_alone, weight_swapped}
use Rattle.sharing_laws.proofs.Samples.{sampled}

-- the sum of w m·f m over the seats m
abbrev pub over : {V : Type 0} → Monoid V → (ℕ → ℕ) → List ℕ → (ℕ → V) → V
over sum w s f = weighted sum w (sampled f s)

-- the first coefficient, or the unit where there is none
unfoldable first : {V : Type 0} → Monoid V → List V → V
first sum [] = sum.unit
first sum (v ∷ vs) = v

all_members : {V : Type 0} (vs : List V) → AllByRecursion (λ v. true ≡ true) vs
all_members [] = tt
all_members (v ∷ vs) = (refl, all_members vs)

module _ {V : Type 0} {sum : Monoid V} (laws : Commutative (λ _. true) sum) where
  open sum use {op, unit}

  middle : (x y z u : V) → op (op x y) (op z u) ≡ op (op x z) (op y u)
  middle x y z u = swap_middle laws x y z u refl refl refl refl

  scaled_op : (n : ℕ) (x y : V) → scaled sum n (op x y) ≡ op (scaled sum n x) (scaled sum n y)
  scaled_op n x y = power_op laws x y n refl refl

  scaled_comm : (a b : ℕ) (x : V) → scaled sum a (scaled sum b x) ≡ scaled sum b (scaled sum a x)
  scaled_comm a b x = sym (power_mul laws x b a refl) ∙ ap (λ (n : ℕ). scaled sum n x) (mul_comm b a) ∙ power_mul laws x a b refl

  over_same : (w w' : ℕ → ℕ) (f f' : ℕ → V) → ((m : ℕ) → w m ≡ w' m) → ((m : ℕ) → f m ≡ f' m) → (s : List ℕ) → over sum w s f ≡ over sum w' s f'
  unfolding weighted sampled
  over_same w w' f f' e d [] = refl
  over_same w w' f f' e d (m ∷ s) = ap₂ op (ap₂ (scaled sum) (e m) (d m)) (over_same w w' f f' e d s)

  over_op : (w : ℕ → ℕ) (s : List ℕ) (f g : ℕ → V) → over sum w s (λ m. op (f m) (g m)) ≡ op (over sum w s f) (over sum w s g)
  unfolding weighted sampled
  over_op w [] f g = sym (laws.neutral unit refl)
  over_op w (m ∷ s) f g =
      ap₂ op (scaled_op (w m) (f m) (g m)) (over_op w s f g) ∙ middle (scaled sum (w m) (f m)) (scaled sum (w m) (g m)) (over sum w s f) (over sum w s g)

  over_unit : (w : ℕ → ℕ) (s : List ℕ) → over sum w s (λ m. unit) ≡ unit
  unfolding weighted sampled
  over_unit w [] = refl
  over_unit w (m ∷ s) = ap₂ op (power_unit laws (w m)) (over_unit w s) ∙ laws.neutral unit refl

  module _ (q : ℕ) (above : 64 < q) (prime : Prime q) (exponent : Exponent q (λ _. true) sum) where
    -- one seat more, a: what becomes of the term of another seat m
    more_at : (a m : ℕ) → a < q → m < q → (a ≡ m → ⊥) → (s : List ℕ) (x : V)
        → op (scaled sum (weight q (a ∷ s) m) (scaled sum m x)) (scaled sum a (scaled sum (weight q s m) x)) ≡ scaled sum a (scaled sum (weight q (a ∷ s) m) x)
    more_at a m ha hm differ s x =
        let w' = weight q (a ∷ s) m in
        let w = weight q s m in
        ap₂ op (scaled_comm w' m x ∙ sym (power_mul laws x w' m refl)) (sym (power_mul laws x w a refl))
        ∙ sym (power_add laws x (w' * m) (w * a) refl)
        ∙ scaled_same laws q exponent (w' * m + w * a) (w' * a) x refl (weight_other q prime a m ha hm differ s)
        ∙ power_mul laws x w' a refl

    -- of the terms of other seats t together
    more_at_others : (a : ℕ) → a < q → (s t : List ℕ) (f : ℕ → V) → AllByRecursion (λ m. a ≡ m → ⊥) t → Seats t
        → op (over sum (weight q (a ∷ s)) t (λ m. scaled sum m (f m))) (scaled sum a (over sum (weight q s) t f)) ≡ scaled sum a (over sum (weight q (a ∷ s)) t f)
    unfolding weighted sampled
    more_at_others a ha s [] f differ seats = laws.neutral (scaled sum a unit) refl
    more_at_others a ha s (m ∷ t) f differ seats =
        ap (op _) (scaled_op a _ _)
        ∙ middle _ _ _ _
        ∙ ap₂ op (more_at a m ha (omega arith) differ.0 s (f m)) (more_at_others a ha s t f differ.1 seats.3)
        ∙ sym (scaled_op a _ _)

    -- of all: what m·f m interpolates to with a, and a times what f does without a, add up to a times what f does with a
    more : (a : ℕ) (s : List ℕ) (f : ℕ → V) → Seats (a ∷ s)
        → op (over sum (weight q (a ∷ s)) (a ∷ s) (λ m. scaled sum m (f m))) (scaled sum a (over sum (weight q s) s f)) ≡ scaled sum a (over sum (weight q (a ∷ s)) (a ∷ s) f)
    unfolding weighted sampled
    more a s f seats =
        laws.assoc _ _ _ refl refl refl
        ∙ ap₂ op (scaled_comm _ a (f a)) (more_at_others a (omega arith) s s f seats.2 seats.3)
        ∙ sym (scaled_op a _ _)

    -- the order of the first two seats does not matter
    swapped : (a b : ℕ) (s : List ℕ) (f : ℕ → V) → over sum (weight q (a ∷ b ∷ s)) (a ∷ b ∷ s) f ≡ over sum (weight q (b ∷ a ∷ s)) (b ∷ a ∷ s) f
    unfolding weighted sampled
    swapped a b s f =
        swap_first laws _ _ _ refl refl refl ∙ over_same (weight q (a ∷ b ∷ s)) (weight q (b ∷ a ∷ s)) f f (weight_swapped q a b s) (λ m. refl) (b ∷ a ∷ s)

    -- two equations x + n·v = n·y, at numbers n that differ, have y = v
    level : (a b : ℕ) → a < q → b < q → (a ≡ b → ⊥) → (x y v : V)
        → op x (scaled sum a v) ≡ scaled sum a y → op x (scaled sum b v) ≡ scaled sum b y → y ≡ v
    level a b ha hb differ x y v ea eb =
        let d = minus q a b in
        let undo = undone laws q exponent prime d (minus_positive q a b ha hb differ) (minus_below q a b (omega arith)) in
        let same : scaled sum d y ≡ scaled sum d v
        = cancel laws q exponent (omega arith) (scaled sum d y) (scaled sum d v) (op x (scaled sum b v)) refl refl refl
        (ap (op (scaled sum d y)) eb
        ∙ sym (parted laws q exponent a b y (omega arith) refl)
        ∙ sym ea
        ∙ ap (op x) (parted laws q exponent a b v (omega arith) refl)
        ∙ swap_first laws x (scaled sum d v) (scaled sum b v) refl refl refl) in
        sym (undo y refl) ∙ ap (scaled sum (inverse q d)) same ∙ undo v refl

    -- a lone seat interpolates to its value
    alone : (a : ℕ) (f : ℕ → V) → over sum (weight q (a ∷ [])) (a ∷ []) f ≡ f a
    unfolding weighted sampled
    alone a f =
        neutral_right laws _ refl
        ∙ ap (λ (n : ℕ). scaled sum n (f a)) (weight_alone q a (omega arith))
        ∙ power_one laws (f a) refl

    -- equal values interpolate to themselves
    constant : (a : ℕ) (s : List ℕ) (v : V) → Seats (a ∷ s) → over sum (weight q (a ∷ s)) (a ∷ s) (λ m. v) ≡ v
    constant a [] v seats = alone a (λ m. v)
    constant a (b ∷ s) v seats =
        level a b (omega arith) (omega arith) seats.2.0 x y v
        (ap (λ (u : V). op x (scaled sum a u)) (sym (constant b s v seats.3)) ∙ more a (b ∷ s) (λ m. v) seats)
        (ap₂ (λ (u t : V). op u (scaled sum b t)) (swapped a b s _) (sym (constant a s v without))
        ∙ more b (a ∷ s) (λ m. v) other
        ∙ ap (scaled sum b) (sym (swapped a b s _)))
      where
        x : V
        x = over sum (weight q (a ∷ b ∷ s)) (a ∷ b ∷ s) (λ m. scaled sum m v)

        y : V
        y = over sum (weight q (a ∷ b ∷ s)) (a ∷ b ∷ s) (λ m. v)

        without : Seats (a ∷ s)
        without = (seats.0, seats.1, seats.2.1, seats.3.3)

        other : Seats (b ∷ a ∷ s)
        other = (seats.3.0, seats.3.1, ((λ e. seats.2.0 (sym e)), seats.3.2), without)

    -- values of no more coefficients than seats interpolate to the first: one coefficient v in front adds the constant v and m times the values before
    interpolates : (s : List ℕ) → Seats s → (vs : List V) → length vs ≤ length s → over sum (weight q s) s (value_at sum vs) ≡ first sum vs
    unfolding first
    interpolates s seats [] h = over_same (weight q s) (weight q s) (value_at sum []) (λ m. unit) (λ m. refl) (value_none sum) s ∙ over_unit (weight q s) s
    interpolates [] seats (v ∷ vs) h = absurd (omega arith)
    interpolates (a ∷ s) seats (v ∷ vs) h =
        over_same w w (value_at sum (v ∷ vs)) (λ m. op v (scaled sum m (value_at sum vs m))) (λ m. refl) (λ m. sym (horner laws v vs m refl (all_members vs))) (a ∷ s)
        ∙ over_op w (a ∷ s) (λ m. v) (λ m. scaled sum m (value_at sum vs m))
        ∙ ap₂ op (constant a s v seats) (none (interpolates s seats.3 vs (omega arith)) (interpolates (a ∷ s) seats vs (omega arith)))
        ∙ neutral_right laws v refl
      where
        w : ℕ → ℕ
        w = weight q (a ∷ s)

        c : V
        c = over sum w (a ∷ s) (λ m. scaled sum m (value_at sum vs m))

        none : over sum (weight q s) s (value_at sum vs) ≡ first sum vs → over sum w (a ∷ s) (value_at sum vs) ≡ first sum vs → c ≡ unit
        none without with_it =
            cancel laws q exponent (omega arith) c unit (scaled sum a (first sum vs)) refl refl refl
            (ap (λ (u : V). op c (scaled sum a u)) (sym without)
            ∙ more a s (value_at sum vs) seats
            ∙ ap (scaled sum a) with_it
            ∙ sym (laws.neutral _ refl))

    pub interpolated_everywhere : (s : List ℕ) → Seats s → (v : V) (vs : List V) → length (v ∷ vs) ≡ length s → over sum (weight q s) s (value_at sum (v ∷ vs)) ≡ v
    unfolding first
    interpolated_everywhere s seats v vs h = interpolates s seats (v ∷ vs) (omega arith)
