-- Lists of different seats, by rising seat.
use Rattle.std.proofs.Common.{◌≡◌, ℕ, zero, suc, ◌+◌, ◌<◌, ◌≤◌, Bool, true, false, cond, ◌⊎◌, List, [], ◌∷◌, ◌++◌, map, length, take, refl, ap, ◌∙◌, inl, inr, arith, length-append, append-nil}
use Rattle.std.specs.List.{AllByRecursion}
use Rattle.std.proofs.ByRecursion.{All-append, All-weaker}
use Rattle.std.proofs.lemmas.Bool.{cases_eq}
use Rattle.std.proofs.lemmas.List.{length-map}
use Rattle.sharing.specs.Interpolation.{Seats, seats_of}
use Rattle.protocol.specs.Seats.{count, those}

those_below : (n : ℕ) (P : ℕ → Bool) → AllByRecursion (λ i. i < suc n) (those n P)
unfolding those
those_below zero P = tt
those_below (suc n) P =
    All-append (λ i. i < suc (suc n)) (those n P) (cond (P (suc n)) (suc n ∷ []) [])
    (All-weaker (λ i. i < suc n) (λ i. i < suc (suc n)) (λ i h. omega arith) (those n P) (those_below n P)) (go (P (suc n)))
  where
    go : (b : Bool) → AllByRecursion (λ i. i < suc (suc n)) (cond b (suc n ∷ []) [])
    go true = (omega arith, tt)
    go false = tt

abbrev pub Apart : ℕ → List ℕ → Type 0
Apart a l = AllByRecursion (λ b. a ≡ b → ⊥) l

apart_push : (a m : ℕ) (l : List ℕ) → Apart a l → (a ≡ m → ⊥) → Apart a (l ++ m ∷ [])
apart_push a m [] f n = (n, tt)
apart_push a m (x ∷ l) f n = (f.0, apart_push a m l f.1 n)

seats_push : (m : ℕ) (l : List ℕ) → Seats l → AllByRecursion (λ i. i < m) l → 1 ≤ m → m ≤ 32 → Seats (l ++ m ∷ [])
seats_push m [] s a lo hi = (lo, hi, tt, tt)
seats_push m (x ∷ l) s a lo hi = (s.0, s.1, apart_push x m l s.2 (λ (e : x ≡ m). omega (arith, a.0)), seats_push m l s.3 a.1 lo hi)

pub those_seats : (n : ℕ) (P : ℕ → Bool) → n ≤ 32 → Seats (those n P)
unfolding those
those_seats zero P h = tt
those_seats (suc n) P h = go (P (suc n)) (those_seats n P (omega arith))
  where
    go : (b : Bool) → Seats (those n P) → Seats (those n P ++ cond b (suc n ∷ []) [])
    go true s = seats_push (suc n) (those n P) s (those_below n P) (omega arith) h
    go false s = rw append-nil s

pub length_those : (n : ℕ) (P : ℕ → Bool) → length (those n P) ≡ count n P
unfolding those count
length_those zero P = refl
length_those (suc n) P = length-append (those n P) (cond (P (suc n)) (suc n ∷ []) []) ∙ go (P (suc n)) (length_those n P)
  where
    go : (b : Bool) → length (those n P) ≡ count n P → length (those n P) + length (cond b (suc n ∷ []) []) ≡ cond b (suc (count n P)) (count n P)
    go true e = omega arith
    go false e = omega arith

apart_take : (a k : ℕ) (l : List ℕ) → Apart a l → Apart a (take k l)
apart_take a zero l f = tt
apart_take a (suc k) [] f = tt
apart_take a (suc k) (x ∷ l) f = (f.0, apart_take a k l f.1)

pub seats_take : (k : ℕ) (l : List ℕ) → Seats l → Seats (take k l)
seats_take zero l s = tt
seats_take (suc k) [] s = tt
seats_take (suc k) (x ∷ l) s = (s.0, s.1, apart_take x k l s.2, seats_take k l s.3)

pub seats_map : {A V : Type 0} (f : A → ℕ) (g : A → V) (l : List A) → seats_of (map (λ a. (f a, g a)) l) ≡ map f l
seats_map f g [] = refl
seats_map f g (x ∷ l) = ap (λ (k : List ℕ). f x ∷ k) (seats_map f g l)

pub length_map : {A V : Type 0} (f : A → V) (l : List A) → length (map f l) ≡ length l
length_map f l = length-map l f

-- membership
abbrev pub In : ℕ → List ℕ → Type 0
In i [] = ⊥
In i (d ∷ l) = (i ≡ d) ⊎ In i l

in_left : (i : ℕ) (l k : List ℕ) → In i l → In i (l ++ k)
in_left i [] k a = absurd a
in_left i (d ∷ l) k a = elim a [ inl e ↦ inl e | inr e ↦ inr (in_left i l k e) ]

in_right : (i : ℕ) (l k : List ℕ) → In i k → In i (l ++ k)
in_right i [] k a = a
in_right i (d ∷ l) k a = inr (in_right i l k a)

pub those_in : (n : ℕ) (P : ℕ → Bool) (i : ℕ) → 1 ≤ i → i ≤ n → P i ≡ true → In i (those n P)
unfolding those
those_in zero P i lo hi e = absurd (omega arith)
those_in (suc n) P i lo hi e =
    elim (cases_eq i (suc n)) [
      | inl r ↦ in_right i (those n P) _ (rw (← r) (rw e (inl refl)))
      | inr r ↦ in_left i (those n P) _ (those_in n P i lo (omega arith) e)
    ]

pub those_all : (n : ℕ) (P : ℕ → Bool) → AllByRecursion (λ i. P i ≡ true) (those n P)
unfolding those
those_all zero P = tt
those_all (suc n) P = All-append (λ i. P i ≡ true) (those n P) (cond (P (suc n)) (suc n ∷ []) []) (those_all n P) (go (P (suc n)) refl)
  where
    go : (b : Bool) → P (suc n) ≡ b → AllByRecursion (λ i. P i ≡ true) (cond b (suc n ∷ []) [])
    go true e = (e, tt)
    go false e = tt

pub count_below : (n : ℕ) (P : ℕ → Bool) → count n P ≤ n
unfolding count
count_below zero P = omega arith
count_below (suc n) P = go (P (suc n)) (count_below n P)
  where
    go : (b : Bool) → count n P ≤ n → cond b (suc (count n P)) (count n P) ≤ suc n
    go true h = omega arith
    go false h = omega arith
