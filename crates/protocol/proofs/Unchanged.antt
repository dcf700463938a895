-- What depends on the entries of some kinds only.
use Rattle.std.proofs.Common.{◌≡◌, ℕ, ◌+◌, ◌<◌, ◌≤◌, Bool, true, false, not, ◌&&◌, ◌||◌, ltb, leb, List, is_some, Option, sym, ap, ◌∙◌, ap₂, inl, inr, arith}
use mathlib.Core.Path.{fun_ext}
use Rattle.std.proofs.lemmas.Bool.{and_parts, and_cases, or_parts, or_cases, lt-ltb, leb-true, not-true, not-false}
use Rattle.group.specs.Meaning.{Meaning}
use Rattle.sharing.specs.Commitment.{equation1, equation2}
use Rattle.protocol.specs.declared.kind.Kind.{Kind}
use Rattle.protocol.specs.declared.kind.Kind.TheVariants as kinds
use Rattle.protocol.specs.declared.phase.Phase.TheVariants.{Finished}
use Rattle.protocol.specs.Seats.{count, every, some, holds}
use Rattle.protocol.specs.Record.{kind_number}
use Rattle.protocol.specs.Board.{Board, entry, starts, phase_of, deal_of, exposure_of, objected, revealed, share_in, passes1, passes2, answered, qualified, contested, all_revealed}
use Rattle.protocol.specs.History.{Call, Made}
use Rattle.protocol.proofs.Counting.{clash, every_is}
use Rattle.protocol.proofs.Phases.{starts_phase_lem, finished_starts}
use Rattle.protocol.proofs.Histories.{board_after, closed, anything}
use Rattle.protocol.proofs.OnBoard.{writer_seat}

abbrev pub Same : Board → Board → Kind → Type 0
Same b c k = (i j : ℕ) → entry b.taken k i j ≡ entry c.taken k i j

pub passes1_same : (m : Meaning) (b c : Board) → Same b c kinds.Deal → (i j : ℕ) (p : ℕ × ℕ) → passes1 m b i j p ≡ passes1 m c i j p
unfolding passes1
passes1_same m b c e i j p = ap (λ (o : Option (List ℕ)). holds o (λ C. equation1 m C j p)) (e i 0)

pub passes2_same : (m : Meaning) (b c : Board) → Same b c kinds.Exposure → (i j : ℕ) (s : ℕ) → passes2 m b i j s ≡ passes2 m c i j s
unfolding passes2
passes2_same m b c e i j s = ap (λ (o : Option (List ℕ)). holds o (λ A. equation2 m A j s)) (e i 0)

answered_same : (m : Meaning) (b c : Board) → Same b c kinds.Deal → Same b c kinds.Answer → (i j : ℕ) → answered m b i j ≡ answered m c i j
unfolding answered
answered_same m b c e2 e4 i j =
    ap₂ (λ (o : Option (List ℕ)) (f : List ℕ → Bool). holds o f) (e4 i j) (fun_ext (λ x. passes1_same m b c e2 i j (share_in x)))

pub qualified_same : (m : Meaning) (b c : Board) → b.n ≡ c.n → b.t ≡ c.t → Same b c kinds.Deal → Same b c kinds.Complaint → Same b c kinds.Answer
    → (i : ℕ) → qualified m b i ≡ qualified m c i
unfolding qualified
qualified_same m b c en et e2 e3 e4 i =
    ap₂ ◌&&◌ (ap is_some (e2 i 0))
    (ap₂ ◌&&◌
    (ap₂ leb (ap₂ count en (fun_ext (λ j. ap is_some (e3 j i)))) et)
    (ap₂ every en (fun_ext (λ j. ap₂ ◌||◌ (ap (λ (o : Option (List ℕ)). not (is_some o)) (e3 j i)) (answered_same m b c e2 e4 i j)))))

-- Parts of the tests.

pub qualified_deal : (m : Meaning) (b : Board) (i : ℕ) → qualified m b i ≡ true → is_some (deal_of b i) ≡ true
unfolding qualified
qualified_deal m b i e = (and_parts (is_some (deal_of b i)) _ e).0

pub contested_qualified : (m : Meaning) (b : Board) (i : ℕ) → contested m b i ≡ true → qualified m b i ≡ true
unfolding contested
contested_qualified m b i e = (and_parts (qualified m b i) _ e).0

-- an uncontested dealer, once the objections are closed
pub record Clear (b : Board) (i : ℕ) : Type 0 where
  pub exposed : is_some (exposure_of b i) ≡ true
  pub nobody : some b.n (λ j. objected b j i) ≡ false

pub clear : (m : Meaning) (b : Board) (i : ℕ) → 5 < starts b.taken → qualified m b i ≡ true → contested m b i ≡ false → Clear b i
unfolding contested
clear m b i s q e =
    let o : Bool = some b.n (λ j. objected b j i) in
    let w : Bool = ltb 5 (starts b.taken) && not (is_some (exposure_of b i)) in
    elim (and_cases (qualified m b i) (o || w) e) [
      | inl a ↦ clash (qualified m b i) q a
      | inr a ↦
          let p = or_parts o w a in
          elim (and_cases (ltb 5 (starts b.taken)) (not (is_some (exposure_of b i))) p.1) [
            | inl c ↦ clash (ltb 5 (starts b.taken)) (lt-ltb _ _ s) c
            | inr c ↦ record { exposed = not-false _ c; nobody = p.0 }
          ]
    ]

pub contested_same : (m : Meaning) (b c : Board) → b.n ≡ c.n → b.t ≡ c.t → 5 < starts b.taken → 5 < starts c.taken
    → ((k : Kind) → 2 ≤ kind_number k → kind_number k ≤ 6 → Same b c k) → (i : ℕ) → contested m b i ≡ contested m c i
unfolding contested
contested_same m b c en et sb sc same i =
    ap₂ ◌&&◌ (qualified_same m b c en et (same kinds.Deal (omega arith) (omega arith)) (same kinds.Complaint (omega arith) (omega arith)) (same kinds.Answer (omega arith) (omega arith)) i)
    (ap₂ ◌||◌ (ap₂ some en (fun_ext (λ j. ap is_some (same kinds.Objection (omega arith) (omega arith) j i))))
    (ap₂ ◌&&◌ (lt-ltb _ _ sb ∙ sym (lt-ltb _ _ sc)) (ap (λ (o : Option (List ℕ)). not (is_some o)) (same kinds.Exposure (omega arith) (omega arith) i 0))))

-- in a finished ceremony each contested dealer has Reveals of t + 1 seats
pub enough_reveals : (m : Meaning) (made : Made) (calls : List Call) → phase_of m (board_after m made calls) ≡ Finished → (i : ℕ) → contested m (board_after m made calls) i ≡ true
    → (board_after m made calls).t + 1 ≤ count (board_after m made calls).n (λ j. revealed (board_after m made calls) j i)
unfolding all_revealed
enough_reveals m made calls fin i c =
    let b : Board = board_after m made calls in
    let st = finished_starts m b fin in
    let C = closed m made (λ _ _. Unit {0}) calls (anything m made calls) 6 (omega arith) (omega arith) (omega arith) in
    let p : Board = board_after m made C.past in
    let sp : starts p.taken ≡ 6 = starts_phase_lem m p 6 C.in_that_phase (omega arith) in
    let all = C.closing.revealed C.in_that_phase in
    let r = writer_seat m made calls kinds.Deal i 0 (record { low = omega arith; high = omega arith }) (qualified_deal m b i (contested_qualified m b i c)) in
    let row = every_is p.n (λ i. not (contested m p i) || leb (p.t + 1) (count p.n (λ j. revealed p j i))) all i r.0 (omega (arith, r.1, C.n)) in
    let cp : contested m p i ≡ true = contested_same m p b C.n C.t (omega arith) (omega arith) (λ k lo hi x y. C.same k x y lo (omega arith)) i ∙ c in
    let le : leb (p.t + 1) (count p.n (λ j. revealed p j i)) ≡ true =
    elim (or_cases (not (contested m p i)) (leb (p.t + 1) (count p.n (λ j. revealed p j i))) row) [
      | inl n ↦ clash (contested m p i) cp (not-true _ n)
      | inr y ↦ y
    ] in
    let cn : count p.n (λ j. revealed p j i) ≡ count b.n (λ j. revealed b j i) = ap₂ count C.n (fun_ext (λ j. ap is_some (C.same kinds.Reveal j i (omega arith) (omega arith)))) in
    omega (arith, leb-true _ _ le, cn, C.t)
