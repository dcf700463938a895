-- Loops over the seats 1 to n: one seat more, and an early end.
use Rattle.std.proofs.Common.{◌≡◌, ℕ, zero, suc, ◌+◌, ◌-◌, ◌≤◌, Bool, true, false, cond, ◌||◌, ltb, List, [], ◌∷◌, ◌++◌, length, get_or, ◌<◌, sym, refl, ap, ◌∙◌, ap₂, add-zero, inl, inr, arith}
use Rattle.std.specs.Bool.{MatchBool}
use Rattle.std.specs.Borrow.{Bor}
use Rattle.std.specs.Fn.{CalledAt}
use Rattle.std.specs.Iterator.{Drains}
use Rattle.std.specs.Iterator.Adapters.{filter_source, filter_callee, filter_steps}
use Rattle.std.specs.declared.iter.Filter.{Filter}
use Rattle.std.specs.declared.ops.Range.{Range}
use Rattle.std.proofs.iter.Yields.{nat_range_steps}
use Rattle.std.proofs.lemmas.Iterator.{YieldsList-from_range}
use Rattle.std.proofs.lemmas.Iterator.Consumers.{YieldsList-from_filter, count_from_yields_List}
use denote.Param.Members.{Mut}
use Rattle.std.specs.List.{range_with_len, filter, AllWithin, HoldsAt}
use Rattle.std.proofs.lemmas.List.Elements.{filter-append}
use Rattle.std.proofs.lemmas.Bool.{cases_Bool, lt-ltb}
use Rattle.std.proofs.lemmas.List.FromFn.{length-range_with_len, get_or-range_with_len}
use Rattle.protocol.specs.Seats.{count, every, some, those}
use Rattle.protocol.proofs.SeatLists.{length_those}
use Rattle.protocol.proofs.Counting.{clash, every_is, every_from}

back : (j : ℕ) → 1 ≤ j → j ≡ suc (j - 1)
back j h = omega arith

pub every_stops : (P : ℕ → Bool) (n j : ℕ) → 1 ≤ j → j ≤ n → P j ≡ false → false ≡ every n P
every_stops P n j a b p = elim (cases_Bool (every n P)) [ inl all ↦ clash (P j) (every_is n P all j a b) p | inr none ↦ sym none ]

-- some seat passes where the count is not 0
pub some_count : (n : ℕ) (P : ℕ → Bool) → some n P ≡ ltb 0 (count n P)
unfolding some count
some_count zero P = refl
some_count (suc n) P = go (P (suc n)) (some_count n P)
  where
    go : (here : Bool) → some n P ≡ ltb 0 (count n P) → (here || some n P) ≡ ltb 0 (cond here (suc (count n P)) (count n P))
    go true before = sym (lt-ltb 0 (suc (count n P)) (omega arith))
    go false before = before

-- what `all` answers over the seats 1 to n
pub every_from_all : (P : ℕ → Bool) (n : ℕ) (r : Bool)
    → MatchBool r (AllWithin (λ j. P j ≡ true) (range_with_len 1 n) 0 (length (range_with_len 1 n))) ((k : ℕ) × (k < length (range_with_len 1 n)) × HoldsAt (λ j. P j ≡ false) (range_with_len 1 n) k)
    → r ≡ every n P
every_from_all P n true all =
    sym (every_from n P (λ i a b.
    let e = get_or-range_with_len 1 n (i - 1) 0 (omega arith) in
    let is : i ≡ get_or (range_with_len 1 n) (i - 1) 0 = omega (arith, e) in
    ap P is ∙ all (i - 1) 0 (omega arith) (omega (arith, length-range_with_len 1 n))))
every_from_all P n false none =
    let within : none.0 < n = omega (arith, none.1, length-range_with_len 1 n) in
    let e = get_or-range_with_len 1 n none.0 0 within in
    every_stops P n (1 + none.0) (omega arith) (omega arith) (sym (ap P e) ∙ none.2 0)

-- one seat more at the end
range_more : (a n : ℕ) → range_with_len a (suc n) ≡ range_with_len a n ++ ((a + n) ∷ [])
range_more a zero = ap (λ (k : ℕ). k ∷ []) (sym (add-zero a))
range_more a (suc n) =
    ap (λ (l : List ℕ). a ∷ l) (range_more (a + 1) n) ∙ ap (λ (k : ℕ). a ∷ (range_with_len (a + 1) n ++ (k ∷ []))) (let e : a + 1 + n ≡ a + suc n = omega arith in e)

filtered : (P : ℕ → Bool) (n : ℕ) → filter P (range_with_len 1 n) ≡ those n P
unfolding those
filtered P zero = refl
filtered P (suc n) =
    ap (filter P) (range_more 1 n) ∙ filter-append P (range_with_len 1 n) ((1 + n) ∷ [])
    ∙ ap₂ (λ (a b : List ℕ). a ++ b) (filtered P n) (ap (λ (k : ℕ). filter P (k ∷ [])) (let e : 1 + n ≡ suc n = omega arith in e))

-- how many seats `filter` leaves
pub count_filtered : (P : ℕ → Bool) (n : ℕ) → length (filter P (range_with_len 1 n)) ≡ count n P
count_filtered P n = ap length (filtered P n) ∙ length_those n P

-- what `filter` and `count` answer over the seats 1 to n; the calls come first, which say what the closure is
pub counted : {F : Type 0} (g : Mut F (Bor ℕ × Unit {0}) Bool) (s : Filter (Range ℕ) F) (r n : ℕ) (P : ℕ → Bool) (f : F)
    → (xs : List ℕ) × Drains (filter_steps nat_range_steps g) s xs × (r ≡ length xs)
    → filter_source s ≡ record { start = 1; end = n + 1 } → filter_callee s ≡ f
    → ((x : ℕ) (b : Bool) (q : F) → CalledAt g f x b q → (q ≡ f) × (b ≡ P x)) → r ≡ count n P
counted g s r n P f ran source closure calls =
    count_from_yields_List s r ran (YieldsList-from_filter {v = λ (i : ℕ). i} g P (YieldsList-from_range 1 (n + 1) n source (omega arith)) closure calls) ∙ count_filtered P n
