-- Entries of the board, and how many records start a phase, when one more record is taken.
use Rattle.std.proofs.Common.{◌≡◌, ℕ, suc, ◌<◌, ◌≤◌, Bool, true, false, cond, ◌&&◌, ◌||◌, eqb, List, [], ◌∷◌, ◌++◌, Some, None, Option, sym, refl, ap, ◌∙◌, ap₂, arith}
use Rattle.std.proofs.lemmas.Bool.{and_parts, and_left, or_right, or_from, eqb-true, eq-eqb, ne_eqb}
use Rattle.protocol.specs.declared.kind.Kind.{Kind}
use Rattle.protocol.specs.declared.kind.Kind.TheVariants as kinds
use Rattle.protocol.specs.Seats.{or_else}
use Rattle.protocol.specs.Record.{Posted, kind_number, kind_with}
use Rattle.protocol.specs.Board.{is_kind, is_by, entry, starts}
use Rattle.protocol.proofs.Counting.{none_some, same_some}

-- Kinds and their numbers.

pub number_kind : (k : Kind) → kind_with (kind_number k) ≡ Some k
unfolding kind_with
number_kind kinds.Opening = refl
number_kind kinds.Deal = refl
number_kind kinds.Complaint = refl
number_kind kinds.Answer = refl
number_kind kinds.Exposure = refl
number_kind kinds.Objection = refl
number_kind kinds.Reveal = refl
number_kind kinds.Close = refl
number_kind kinds.Letter = refl
number_kind kinds.Sheet = refl

pub kind_same : (a b : Kind) → kind_number a ≡ kind_number b → a ≡ b
kind_same a b e = same_some a b (sym (number_kind a) ∙ ap kind_with e ∙ number_kind b)

one_of : (n : ℕ) (a k : Kind) (rest : Option Kind) → (rest ≡ Some k → n ≡ kind_number k) → cond (eqb n (kind_number a)) (Some a) rest ≡ Some k → n ≡ kind_number k
one_of n a k rest later e = go (eqb n (kind_number a)) refl e
  where
    go : (b : Bool) → eqb n (kind_number a) ≡ b → cond b (Some a) rest ≡ Some k → n ≡ kind_number k
    go true q e = eqb-true n (kind_number a) q ∙ ap kind_number (same_some a k e)
    go false q e = later e

pub kind_number_lem : (n : ℕ) (k : Kind) → kind_with n ≡ Some k → n ≡ kind_number k
unfolding kind_with
kind_number_lem n k e =
    one_of n kinds.Opening k _ (one_of n kinds.Deal k _ (one_of n kinds.Complaint k _ (one_of n kinds.Answer k _ (one_of n kinds.Exposure k _
    (one_of n kinds.Objection k _ (one_of n kinds.Reveal k _ (one_of n kinds.Close k _ (one_of n kinds.Letter k _ (one_of n kinds.Sheet k None
    (λ z. none_some k z)))))))))) e

-- a number fits the two bytes of a frame
pub kind_small : (kind : Kind) → kind_number kind < 65536
kind_small kinds.Opening = omega arith
kind_small kinds.Deal = omega arith
kind_small kinds.Complaint = omega arith
kind_small kinds.Answer = omega arith
kind_small kinds.Exposure = omega arith
kind_small kinds.Objection = omega arith
kind_small kinds.Reveal = omega arith
kind_small kinds.Close = omega arith
kind_small kinds.Letter = omega arith
kind_small kinds.Sheet = omega arith

-- kinds 2 to 7, which a seat posts
pub record Middle (k : Kind) : Type 0 where
  pub low : 2 ≤ kind_number k
  pub high : kind_number k ≤ 7

-- Entries.

pub by_parts : (r : Posted) (k : Kind) (i j : ℕ) → is_by r k i j ≡ true → (kind_number r.kind ≡ kind_number k) × (r.writer ≡ i) × (r.second ≡ j)
by_parts r k i j e =
    let p = and_parts (is_kind r.kind k) (eqb r.writer i && eqb r.second j) e in
    let q = and_parts (eqb r.writer i) (eqb r.second j) p.1 in
    (eqb-true _ _ p.0, eqb-true _ _ q.0, eqb-true _ _ q.1)

pub by_kind : (r : Posted) (k : Kind) (i j : ℕ) → (kind_number r.kind ≡ kind_number k → ⊥) → is_by r k i j ≡ false
by_kind r k i j n = and_left _ _ (ne_eqb _ _ n)

entry_last : (r : Posted) (b : List Posted) (k : Kind) (i j : ℕ) → entry (b ++ r ∷ []) k i j ≡ or_else (entry b k i j) (cond (is_by r k i j) (Some r.codes) None)
unfolding entry
entry_last r [] k i j = refl
entry_last r (s ∷ b) k i j = go (is_by s k i j) (entry_last r b k i j)
  where
    new : Option (List ℕ)
    new = cond (is_by r k i j) (Some r.codes) None

    go : (c : Bool) → entry (b ++ r ∷ []) k i j ≡ or_else (entry b k i j) new → cond c (Some s.codes) (entry (b ++ r ∷ []) k i j) ≡ or_else (cond c (Some s.codes) (entry b k i j)) new
    go true e = refl
    go false e = e

or_else_nothing : {A : Type 0} (o : Option A) → or_else o None ≡ o
or_else_nothing None = refl
or_else_nothing (Some a) = refl

cond_is : {A : Type 0} (b c : Bool) (x y : A) → b ≡ c → cond b x y ≡ cond c x y
cond_is b c x y e = ap (λ (z : Bool). cond z x y) e

pub entry_other : (r : Posted) (b : List Posted) (k : Kind) (i j : ℕ) → is_by r k i j ≡ false → entry (b ++ r ∷ []) k i j ≡ entry b k i j
entry_other r b k i j e =
    entry_last r b k i j ∙ ap (or_else (entry b k i j)) (cond_is (is_by r k i j) false (Some r.codes) None e) ∙ or_else_nothing (entry b k i j)

pub entry_this : (r : Posted) (b : List Posted) (k : Kind) (i j : ℕ) → is_by r k i j ≡ true → entry b k i j ≡ None → entry (b ++ r ∷ []) k i j ≡ Some r.codes
entry_this r b k i j e n = entry_last r b k i j ∙ ap₂ or_else n (cond_is (is_by r k i j) true (Some r.codes) None e)

-- what is on the board stays on it
pub kept : (r : Posted) (b : List Posted) (k : Kind) (i j : ℕ) (x : List ℕ) → entry b k i j ≡ Some x → entry (b ++ r ∷ []) k i j ≡ Some x
kept r b k i j x s = entry_last r b k i j ∙ ap (λ (o : Option (List ℕ)). or_else o (cond (is_by r k i j) (Some r.codes) None)) s

-- Records that start a phase.

abbrev starts_phase : Posted → Bool
starts_phase r = is_kind r.kind kinds.Opening || is_kind r.kind kinds.Close

starts_last : (r : Posted) (b : List Posted) → starts (b ++ r ∷ []) ≡ cond (starts_phase r) (suc (starts b)) (starts b)
unfolding starts
starts_last r [] = refl
starts_last r (s ∷ b) = go (starts_phase s) (starts_phase r) (starts_last r b)
  where
    go : (c d : Bool) → starts (b ++ r ∷ []) ≡ cond d (suc (starts b)) (starts b) → cond c (suc (starts (b ++ r ∷ []))) (starts (b ++ r ∷ [])) ≡ cond d (suc (cond c (suc (starts b)) (starts b))) (cond c (suc (starts b)) (starts b))
    go true true e = ap suc e
    go true false e = ap suc e
    go false true e = e
    go false false e = e

pub starts_post : (r : Posted) (b : List Posted) → 2 ≤ kind_number r.kind → kind_number r.kind ≤ 7 → starts (b ++ r ∷ []) ≡ starts b
starts_post r b lo hi =
    starts_last r b
    ∙ cond_is (starts_phase r) false _ _ (or_from _ _ (ne_eqb _ _ (λ (e : kind_number r.kind ≡ 1). omega arith)) (ne_eqb _ _ (λ (e : kind_number r.kind ≡ 8). omega arith)))

pub starts_close : (r : Posted) (b : List Posted) → kind_number r.kind ≡ 8 → starts (b ++ r ∷ []) ≡ suc (starts b)
starts_close r b e = starts_last r b ∙ cond_is (starts_phase r) true _ _ (or_right (is_kind r.kind kinds.Opening) _ (eq-eqb _ _ e))
