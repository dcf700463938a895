-- Looking up in the index, before and after a record is noted.
use Rattle.std.proofs.Common.{◌≡◌, ℕ, zero, suc, ◌<◌, ◌≤◌, Bool, true, false, cond, leb, List, length, get_or, set, replicate, Some, None, sym, refl, ap, ◌∙◌, arith, length-set, get_or-set_other, get_or-set_same}
use lib.ListN.{get_or-replicate}
use Rattle.std.proofs.lemmas.Bool.{le-leb, and_from, and_parts, leb-true}
use Rattle.protocol.specs.declared.kind.Kind.{Kind}
use Rattle.protocol.specs.declared.kind.Kind.TheVariants as kinds
use Rattle.protocol.specs.Record.{kind_number}
use Rattle.board_index.specs.State.{is_indexed, is_low, pair_slot, slot, unless_zero, look, truth_at, noted_truths}

pub low_from : (i j : ℕ) → i ≤ 32 → j ≤ 32 → is_low i j ≡ true
low_from i j a b = and_from _ _ (le-leb i 32 a) (le-leb j 32 b)

pub look_low : (places : List ℕ) (kind : Kind) (i j : ℕ) → i ≤ 32 → j ≤ 32 → look places kind i j ≡ unless_zero (get_or places (slot kind i j) 0)
unfolding look
look_low places kind i j a b = ap (λ (low : Bool). cond low (unless_zero (get_or places (slot kind i j) 0)) None) (low_from i j a b)

pub unless_zero_some : (n : ℕ) → (n ≡ 0 → ⊥) → Some n ≡ unless_zero n
unless_zero_some zero h = absurd (h refl)
unless_zero_some (suc n) h = refl

low_parts : (i j : ℕ) → is_low i j ≡ true → (i ≤ 32) × (j ≤ 32)
low_parts i j e = let p = and_parts (leb i 32) (leb j 32) e in (leb-true i 32 p.0, leb-true j 32 p.1)

pub indexed_parts : (kind : Kind) → is_indexed kind ≡ true → (2 ≤ kind_number kind) × (kind_number kind ≤ 7)
indexed_parts kind e = let p = and_parts (leb 2 (kind_number kind)) (leb (kind_number kind) 7) e in (leb-true 2 (kind_number kind) p.0, leb-true (kind_number kind) 7 p.1)

slot_below : (kind : Kind) (i j : ℕ) → is_indexed kind ≡ true → i ≤ 32 → j ≤ 32 → slot kind i j < 6534
slot_below kind i j e a b = omega (arith, (indexed_parts kind e).1)

pair_below : (i j : ℕ) → i ≤ 32 → j ≤ 32 → pair_slot i j < 1089
pair_below i j a b = omega arith

-- a key is another where the kind, the writer or the second seat differs
abbrev pub Apart : Kind → ℕ → ℕ → Kind → ℕ → ℕ → Type 0
Apart k x y kind i j = kind_number k ≡ kind_number kind → x ≡ i → y ≡ j → ⊥

slots_apart : (k : Kind) (x y : ℕ) (kind : Kind) (i j : ℕ) → is_indexed k ≡ true → is_indexed kind ≡ true → x ≤ 32 → y ≤ 32 → i ≤ 32 → j ≤ 32
    → Apart k x y kind i j → slot k x y ≡ slot kind i j → ⊥
slots_apart k x y kind i j f g a b c d apart e =
    let lowk = (indexed_parts k f).0 in
    let lowkind = (indexed_parts kind g).0 in
    apart (omega arith) (omega arith) (omega arith)

-- Where nothing is noted.

pub look_empty : (kind : Kind) (i j : ℕ) → is_indexed kind ≡ true → look (replicate 6534 0) kind i j ≡ None
unfolding look
look_empty kind i j indexed = go (is_low i j) refl
  where
    go : (low : Bool) → is_low i j ≡ low → cond low (unless_zero (get_or (replicate 6534 0) (slot kind i j) 0)) None ≡ None
    go true e = let p = low_parts i j e in ap unless_zero (get_or-replicate 6534 (slot kind i j) 0 0 (slot_below kind i j indexed p.0 p.1))
    go false e = refl

pub truth_empty : (i j : ℕ) → truth_at (replicate 1089 false) i j ≡ false
unfolding truth_at
truth_empty i j = go (is_low i j) refl
  where
    go : (low : Bool) → is_low i j ≡ low → cond low (get_or (replicate 1089 false) (pair_slot i j) false) false ≡ false
    go true e = let p = low_parts i j e in get_or-replicate 1089 (pair_slot i j) false false (pair_below i j p.0 p.1)
    go false e = refl

-- What was noted, and what was not.

pub look_same : (places : List ℕ) (kind : Kind) (i j place : ℕ) → length places ≡ 6534 → is_indexed kind ≡ true → i ≤ 32 → j ≤ 32 → 0 < place
    → look (set places (slot kind i j) place) kind i j ≡ Some place
look_same places kind i j place long indexed a b pos =
    look_low (set places (slot kind i j) place) kind i j a b
    ∙ ap unless_zero (get_or-set_same places (slot kind i j) place 0 (omega (arith, slot_below kind i j indexed a b)))
    ∙ sym (unless_zero_some place (λ e. omega arith))

pub look_other : (places : List ℕ) (kind : Kind) (i j place : ℕ) (k : Kind) (x y : ℕ) → is_indexed kind ≡ true → i ≤ 32 → j ≤ 32 → is_indexed k ≡ true
    → Apart k x y kind i j → look (set places (slot kind i j) place) k x y ≡ look places k x y
unfolding look
look_other places kind i j place k x y indexed a b f apart = go (is_low x y) refl
  where
    go : (low : Bool) → is_low x y ≡ low
        → cond low (unless_zero (get_or (set places (slot kind i j) place) (slot k x y) 0)) None ≡ cond low (unless_zero (get_or places (slot k x y) 0)) None
    go true e =
        let p = low_parts x y e in
        ap unless_zero (get_or-set_other places (slot kind i j) (slot k x y) place 0 (slots_apart k x y kind i j f indexed p.0 p.1 a b apart))
    go false e = refl

pub truth_same : (truths : List Bool) (i j : ℕ) (truth : Bool) → length truths ≡ 1089 → i ≤ 32 → j ≤ 32 → truth_at (set truths (pair_slot i j) truth) i j ≡ truth
unfolding truth_at
truth_same truths i j truth long a b =
    ap (λ (low : Bool). cond low (get_or (set truths (pair_slot i j) truth) (pair_slot i j) false) false) (low_from i j a b)
    ∙ get_or-set_same truths (pair_slot i j) truth false (omega (arith, pair_below i j a b))

truth_other : (truths : List Bool) (i j : ℕ) (truth : Bool) (x y : ℕ) → i ≤ 32 → j ≤ 32 → (x ≡ i → y ≡ j → ⊥)
    → truth_at (set truths (pair_slot i j) truth) x y ≡ truth_at truths x y
unfolding truth_at
truth_other truths i j truth x y a b apart = go (is_low x y) refl
  where
    go : (low : Bool) → is_low x y ≡ low → cond low (get_or (set truths (pair_slot i j) truth) (pair_slot x y) false) false ≡ cond low (get_or truths (pair_slot x y) false) false
    go true e =
        let p = low_parts x y e in
        let differ : pair_slot x y ≡ pair_slot i j → ⊥ = λ same. apart (omega (arith, p.0, p.1)) (omega (arith, p.0, p.1)) in
        get_or-set_other truths (pair_slot i j) (pair_slot x y) truth false differ
    go false e = refl

-- only an Answer has its truth noted
pub noted_length : (kind : Kind) (truths : List Bool) (i j : ℕ) (truth : Bool) → length (noted_truths kind truths i j truth) ≡ length truths
noted_length kinds.Opening truths i j truth = refl
noted_length kinds.Deal truths i j truth = refl
noted_length kinds.Complaint truths i j truth = refl
noted_length kinds.Answer truths i j truth = length-set truths (pair_slot i j) truth
noted_length kinds.Exposure truths i j truth = refl
noted_length kinds.Objection truths i j truth = refl
noted_length kinds.Reveal truths i j truth = refl
noted_length kinds.Close truths i j truth = refl
noted_length kinds.Letter truths i j truth = refl
noted_length kinds.Sheet truths i j truth = refl

pub noted_other : (kind : Kind) (truths : List Bool) (i j : ℕ) (truth : Bool) (x y : ℕ) → i ≤ 32 → j ≤ 32 → Apart kinds.Answer x y kind i j
    → truth_at (noted_truths kind truths i j truth) x y ≡ truth_at truths x y
noted_other kinds.Opening truths i j truth x y a b apart = refl
noted_other kinds.Deal truths i j truth x y a b apart = refl
noted_other kinds.Complaint truths i j truth x y a b apart = refl
noted_other kinds.Answer truths i j truth x y a b apart = truth_other truths i j truth x y a b (apart refl)
noted_other kinds.Exposure truths i j truth x y a b apart = refl
noted_other kinds.Objection truths i j truth x y a b apart = refl
noted_other kinds.Reveal truths i j truth x y a b apart = refl
noted_other kinds.Close truths i j truth x y a b apart = refl
noted_other kinds.Letter truths i j truth x y a b apart = refl
noted_other kinds.Sheet truths i j truth x y a b apart = refl
