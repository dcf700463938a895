-- Counts of seats, and searches among them.
use Rattle.std.proofs.Common.{◌≡◌, ℕ, zero, suc, ◌+◌, ◌≤◌, Bool, true, false, cond, is_some, Some, None, Option, refl, inl, inr, arith}
use Rattle.std.proofs.lemmas.Bool.{cases_eq, and_parts, and_from, or_parts, and_cases, leb-true, le-leb, both_ways}
use Rattle.protocol.specs.Seats.{count, every, some, lowest, or_else, is_seat, holds}

-- a test that passes, or fails
pub clash : {A : Type 0} (b : Bool) → b ≡ true → b ≡ false → A
clash b p q = absurd (both_ways b q p)

pub seat_parts : (n i : ℕ) → is_seat n i ≡ true → (1 ≤ i) × (i ≤ n)
seat_parts n i e = let p = and_parts _ _ e in (leb-true 1 i p.0, leb-true i n p.1)

pub seat_from : (n i : ℕ) → 1 ≤ i → i ≤ n → is_seat n i ≡ true
seat_from n i a b = and_from _ _ (le-leb 1 i a) (le-leb i n b)

pub count_apart : (n : ℕ) (P Q : ℕ → Bool) → ((i : ℕ) → P i ≡ true → Q i ≡ true → ⊥) → count n P + count n Q ≤ n
unfolding count
count_apart zero P Q d = omega arith
count_apart (suc n) P Q d = go (count_apart n P Q d) (P (suc n)) (Q (suc n)) refl refl
  where
    go : count n P + count n Q ≤ n → (a b : Bool) → P (suc n) ≡ a → Q (suc n) ≡ b → cond a (suc (count n P)) (count n P) + cond b (suc (count n Q)) (count n Q) ≤ suc n
    go ih true true p q = absurd (d (suc n) p q)
    go ih true false p q = omega (arith, ih)
    go ih false true p q = omega (arith, ih)
    go ih false false p q = omega (arith, ih)

pub count_le : (n : ℕ) (P Q : ℕ → Bool) → ((i : ℕ) → 1 ≤ i → i ≤ n → P i ≡ true → Q i ≡ true) → count n P ≤ count n Q
unfolding count
count_le zero P Q s = omega arith
count_le (suc n) P Q s = go (count_le n P Q (λ i a b p. s i a (omega arith) p)) (P (suc n)) (Q (suc n)) refl refl
  where
    go : count n P ≤ count n Q → (a b : Bool) → P (suc n) ≡ a → Q (suc n) ≡ b → cond a (suc (count n P)) (count n P) ≤ cond b (suc (count n Q)) (count n Q)
    go ih true true p q = omega (arith, ih)
    go ih true false p q = clash (Q (suc n)) (s (suc n) (omega arith) (omega arith) p) q
    go ih false true p q = omega (arith, ih)
    go ih false false p q = ih

pub every_is : (n : ℕ) (P : ℕ → Bool) → every n P ≡ true → (i : ℕ) → 1 ≤ i → i ≤ n → P i ≡ true
unfolding every
every_is zero P e i a b = absurd (omega arith)
every_is (suc n) P e i a b =
    elim (cases_eq i (suc n)) [
      | inl r ↦ rw r (and_parts _ _ e).0
      | inr r ↦ every_is n P (and_parts _ _ e).1 i a (omega arith)
    ]

pub every_from : (n : ℕ) (P : ℕ → Bool) → ((i : ℕ) → 1 ≤ i → i ≤ n → P i ≡ true) → every n P ≡ true
unfolding every
every_from zero P s = refl
every_from (suc n) P s = and_from _ _ (s (suc n) (omega arith) (omega arith)) (every_from n P (λ i a b. s i a (omega arith)))

pub every_false : (n : ℕ) (P : ℕ → Bool) → every n P ≡ false → (i : ℕ) × (1 ≤ i) × (i ≤ n) × (P i ≡ false)
unfolding every
every_false zero P e = clash true refl e
every_false (suc n) P e =
    elim (and_cases _ _ e) [
      | inl r ↦ (suc n, omega arith, omega arith, r)
      | inr r ↦ let f = every_false n P r in (f.0, f.1, omega (arith, f.2), f.3)
    ]

pub some_false : (n : ℕ) (P : ℕ → Bool) → some n P ≡ false → (i : ℕ) → 1 ≤ i → i ≤ n → P i ≡ false
unfolding some
some_false zero P e i a b = absurd (omega arith)
some_false (suc n) P e i a b =
    elim (cases_eq i (suc n)) [
      | inl r ↦ rw r (or_parts _ _ e).0
      | inr r ↦ some_false n P (or_parts _ _ e).1 i a (omega arith)
    ]

pub lowest_some : (n : ℕ) (P : ℕ → Bool) (i : ℕ) → lowest n P ≡ Some i → (1 ≤ i) × (i ≤ n) × (P i ≡ true)
unfolding lowest
lowest_some zero P i e = let z : ◌≡◌ {A = ℕ} 0 1 = cc in absurd (omega arith)
lowest_some (suc n) P i e = go (λ k r. lowest_some n P k r) (lowest n P) (P (suc n)) refl refl e
  where
    go : ((k : ℕ) → lowest n P ≡ Some k → (1 ≤ k) × (k ≤ n) × (P k ≡ true)) → (o : Option ℕ) (b : Bool) → lowest n P ≡ o → P (suc n) ≡ b → or_else o (cond b (Some (suc n)) None) ≡ Some i → (1 ≤ i) × (i ≤ suc n) × (P i ≡ true)
    go ih (Some k) b p q r = let s : k ≡ i = cc in let u = ih k p in (omega (arith, u.0), omega (arith, u.1), rw s at u.2)
    go ih None true p q r = let s : suc n ≡ i = cc in (omega arith, omega arith, rw s at q)
    go ih None false p q r = let z : ◌≡◌ {A = ℕ} 0 1 = cc in absurd (omega arith)

pub lowest_none : (n : ℕ) (P : ℕ → Bool) → lowest n P ≡ None → (i : ℕ) → 1 ≤ i → i ≤ n → P i ≡ false
unfolding lowest
lowest_none zero P e i a b = absurd (omega arith)
lowest_none (suc n) P e i a b = go (λ r c. lowest_none n P r i a c) (lowest n P) (P (suc n)) refl refl e
  where
    go : (lowest n P ≡ None → i ≤ n → P i ≡ false) → (o : Option ℕ) (x : Bool) → lowest n P ≡ o → P (suc n) ≡ x → or_else o (cond x (Some (suc n)) None) ≡ None → P i ≡ false
    go ih (Some k) x p q r = let z : ◌≡◌ {A = ℕ} 0 1 = cc in absurd (omega arith)
    go ih None true p q r = let z : ◌≡◌ {A = ℕ} 0 1 = cc in absurd (omega arith)
    go ih None false p q r =
        elim (cases_eq i (suc n)) [
          | inl s ↦ rw s q
          | inr s ↦ ih p (omega arith)
        ]

pub some_of : {A : Type 0} (o : Option A) → is_some o ≡ true → (a : A) × (o ≡ Some a)
some_of None e = clash false e refl
some_of (Some a) e = (a, refl)

pub none_some : {A : Type 0} {X : Type 0} (a : A) → None ≡ Some a → X
none_some a e = let z : ◌≡◌ {A = ℕ} 0 1 = cc in absurd (omega arith)

pub same_some : {A : Type 0} (a b : A) → Some a ≡ Some b → a ≡ b
same_some a b e = cc

pub holds_true : {A : Type 0} (o : Option A) (f : A → Bool) → holds o f ≡ true → (a : A) × (o ≡ Some a) × (f a ≡ true)
holds_true None f e = clash false e refl
holds_true (Some a) f e = (a, refl, e)
