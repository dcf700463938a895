-- Walking over seats: what the seats still to come say, and what they add.
use Rattle.std.proofs.Common.{◌≡◌, ℕ, zero, suc, ◌+◌, ◌*◌, ◌%◌, ◌<◌, ◌≤◌, Bool, true, false, eqb, ◌||◌, List, [], ◌∷◌, ◌++◌, None, Option, length, get_or, drop, set, replicate, subst, sym, refl, ap, ◌∙◌, ap₂, ⊎_elim, mod-lt, arith, drop-cons}
use Rattle.std.proofs.lemmas.Bool.{cases_Bool, eqb-true, eq-eqb, false≢true}
use Rattle.std.proofs.lemmas.List.{append-nil, drop_all, length-set, get_or-set_other, get_or-replicate, length-replicate, nil_from_length}
use Rattle.std.proofs.lemmas.Grind.{get_or-set_at}
use Rattle.std.specs.List.{AllByRecursion, list_any, push}
use Rattle.group.specs.declared.fault.GroupFault.{GroupFault}
use Rattle.group.specs.Monoid.{Monoid, Commutative}
use Rattle.group.specs.ModularLaws.{mod_mul_assoc}
use Rattle.group.specs.PowerLaws.{power_member}
use Rattle.sharing.specs.Codes.{refused_from}
use Rattle.sharing.specs.Linear.{scaled}
use Rattle.sharing.specs.LinearLaws.{first_none}
use Rattle.sharing.specs.Interpolation.{Seats, factor, weight, weighted, seats_of, entries_from}

pub seat_low : (seats : List ℕ) → Seats seats → (k : ℕ) → k < length seats → get_or seats k 0 ≤ 32
seat_low [] h k l = absurd (omega arith)
seat_low (m ∷ ms) h zero l = h.1
seat_low (m ∷ ms) h (suc k) l = seat_low ms h.3 k (omega arith)

-- A seat differs from each of the later ones exactly where none of them is equal to it.

pub none_equal : (m : ℕ) (ms : List ℕ) → AllByRecursion (λ l. m ≡ l → ⊥) ms → list_any (λ l. eqb l m) ms ≡ false
none_equal m [] h = refl
none_equal m (l ∷ ms) h =
    ⊎_elim
    (λ (e : eqb l m ≡ true). absurd (h.0 (sym (eqb-true l m e))))
    (λ (e : eqb l m ≡ false). ap₂ ◌||◌ e (none_equal m ms h.1))
    (cases_Bool (eqb l m))

pub all_differ : (m : ℕ) (ms : List ℕ) → list_any (λ l. eqb l m) ms ≡ false → AllByRecursion (λ l. m ≡ l → ⊥) ms
all_differ m [] h = tt
all_differ m (l ∷ ms) h =
    ⊎_elim
    (λ (e : eqb l m ≡ true). absurd (false≢true (sym h ∙ ap (λ (b : Bool). b || list_any (λ x. eqb x m) ms) e)))
    (λ (e : eqb l m ≡ false).
    ((λ same. false≢true (sym e ∙ eq-eqb l m (sym same))), all_differ m ms (sym (ap (λ (b : Bool). b || list_any (λ x. eqb x m) ms) e) ∙ h)))
    (cases_Bool (eqb l m))

-- Going over seats from the end: those behind the ones that are still to come are different, and `stood` says which numbers are among them.
pub record Behind (seats rest : List ℕ) (stood : List Bool) : Type 0 where
  pub behind : List ℕ
  pub split : rest ++ behind ≡ seats
  pub differ : Seats behind
  pub rows : length stood ≡ 33
  pub noted : (l : ℕ) → l < 33 → get_or stood l false ≡ list_any (λ x. eqb x l) behind

pushed : (next behind : List ℕ) (m : ℕ) → push next m ++ behind ≡ next ++ m ∷ behind
pushed [] behind m = refl
pushed (x ∷ next) behind m = ap (λ (ls : List ℕ). x ∷ ls) (pushed next behind m)

later_seats : (front behind : List ℕ) → Seats (front ++ behind) → Seats behind
later_seats [] behind h = h
later_seats (x ∷ front) behind h = later_seats front behind h.3

pub none_behind : (seats rest : List ℕ) (stood : List Bool) → rest ≡ seats → stood ≡ replicate 33 false → Behind seats rest stood
none_behind seats rest stood e f = record {
  behind = [];
  split = append-nil rest ∙ e;
  differ = tt;
  rows = ap (length {A = Bool}) f ∙ length-replicate 33 false;
  noted = λ l h. ap (λ (bs : List Bool). get_or bs l false) f ∙ get_or-replicate 33 l false false h;
}

module _ {seats rest : List ℕ} {stood : List Bool} (b : Behind seats rest stood) (next : List ℕ) (m : ℕ) (e : rest ≡ push next m) where
  pub one_behind : 1 ≤ m → m ≤ 32 → get_or stood m false ≡ false → Behind seats next (set stood m true)
  one_behind low high new = record {
    behind = m ∷ b.behind;
    split = sym (pushed next b.behind m) ∙ ap (λ (ls : List ℕ). ls ++ b.behind) (sym e) ∙ b.split;
    differ = (low, high, all_differ m b.behind (sym (b.noted m (omega arith)) ∙ new), b.differ);
    rows = length-set stood m true ∙ b.rows;
    noted = λ l h.
        ⊎_elim
        (λ (is : eqb m l ≡ true).
        let same : l ≡ m = sym (eqb-true m l is) in
        get_or-set_at stood m l true false same (omega (arith, b.rows, high)) ∙ sym (ap (λ (x : Bool). x || list_any (λ x. eqb x l) b.behind) is))
        (λ (is : eqb m l ≡ false).
        get_or-set_other stood m l true false (λ same. false≢true (sym is ∙ eq-eqb m l (sym same)))
        ∙ b.noted l h
        ∙ sym (ap (λ (x : Bool). x || list_any (λ x. eqb x l) b.behind) is))
        (cases_Bool (eqb m l));
  }

  pub here_behind : Seats seats → (1 ≤ m) × (m ≤ 32) × (m ≤ 32 → get_or stood m false ≡ false)
  here_behind all =
      let here = later_seats next (m ∷ b.behind) (subst Seats (sym b.split ∙ ap (λ (ls : List ℕ). ls ++ b.behind) e ∙ pushed next b.behind m) all) in
      (here.0, here.1, λ high. b.noted m (omega (arith, high)) ∙ none_equal m b.behind here.2)

pub all_behind : {seats rest : List ℕ} {stood : List Bool} → Behind seats rest stood → length rest ≡ 0 → Seats seats
all_behind {seats} {rest} b none = subst Seats (ap (λ (ls : List ℕ). ls ++ b.behind) (sym (nil_from_length rest none)) ∙ b.split) b.differ

-- the seats from k on
pub from_here : (seats : List ℕ) (k : ℕ) → k < length seats → drop k seats ≡ get_or seats k 0 ∷ drop (k + 1) seats
from_here seats k h = let next : suc k ≡ k + 1 = omega arith in drop-cons seats k 0 h ∙ ap (λ (i : ℕ). get_or seats k 0 ∷ drop i seats) next

module _ (q : ℕ) (pos : 1 < q) where
  pub weight_below : (seats : List ℕ) (m : ℕ) → weight q seats m < q
  unfolding weight
  weight_below [] m = pos
  weight_below (l ∷ ls) m = mod-lt (factor q l m * weight q ls m) (omega arith)

-- what is multiplied so far, times the factors to come: the factor of the seat k passes from these to that
pub weight_next : (q : ℕ) (seats : List ℕ) (m k p f : ℕ) → k < length seats → f ≡ factor q (get_or seats k 0) m
    → ((p * f) % q * weight q (drop (k + 1) seats) m) % q ≡ (p * weight q (drop k seats) m) % q
unfolding weight
weight_next q seats m k p f h e =
    mod_mul_assoc p f (weight q (drop (k + 1) seats) m) q
    ∙ ap (λ (x : ℕ). (p * ((x * weight q (drop (k + 1) seats) m) % q)) % q) e
    ∙ ap (λ ls. (p * weight q ls m) % q) (sym (from_here seats k h))

pub weight_none : (q : ℕ) (seats : List ℕ) (m k : ℕ) → length seats ≤ k → weight q (drop k seats) m ≡ 1
unfolding weight
weight_none q seats m k h = ap (λ ls. weight q ls m) (drop_all k seats h)

module _ {V : Type 0} (sum : Monoid V) (decoded : ℕ → V) (w : ℕ) where
  pub seats_of_entries : (at : ℕ) (seats : List ℕ) → seats_of (entries_from decoded w at seats) ≡ seats
  unfolding entries_from
  seats_of_entries at [] = refl
  seats_of_entries at (m ∷ ms) = ap (λ ls. m ∷ ls) (seats_of_entries (at + w) ms)

  pub weighted_none : (weights : ℕ → ℕ) (at : ℕ) (seats : List ℕ) (k : ℕ) → length seats ≤ k → weighted sum weights (entries_from decoded w at (drop k seats)) ≡ sum.unit
  unfolding weighted entries_from
  weighted_none weights at seats k h = ap (λ ls. weighted sum weights (entries_from decoded w at ls)) (drop_all k seats h)

  pub weighted_here : (weights : ℕ → ℕ) (at : ℕ) (seats : List ℕ) (k : ℕ) → k < length seats
      → weighted sum weights (entries_from decoded w at (drop k seats))
      ≡ sum.op (scaled sum (weights (get_or seats k 0)) (decoded at)) (weighted sum weights (entries_from decoded w (at + w) (drop (k + 1) seats)))
  unfolding weighted entries_from
  weighted_here weights at seats k h = ap (λ ls. weighted sum weights (entries_from decoded w at ls)) (from_here seats k h)

  pub weighted_member : {member : V → Bool} → Commutative member sum → (refusal : ℕ → Option GroupFault) → ((at : ℕ) → refusal at ≡ None → member (decoded at) ≡ true)
      → (weights : ℕ → ℕ) (at : ℕ) (seats : List ℕ) → refused_from refusal w at (length seats) ≡ None → member (weighted sum weights (entries_from decoded w at seats)) ≡ true
  unfolding weighted entries_from refused_from
  weighted_member laws refusal judged weights at [] e = laws.unit_member
  weighted_member laws refusal judged weights at (m ∷ ms) e =
      let none = first_none (refusal at) (refused_from refusal w (at + w) (length ms)) e in
      laws.closed _ _ (power_member laws (decoded at) (weights m) (judged at none.0)) (weighted_member laws refusal judged weights (at + w) ms none.1)
