-- What faithful seats have done, and that they are qualified.
use Rattle.std.proofs.Common.{◌≡◌, ℕ, ◌+◌, ◌≤◌, Bool, true, false, not, ◌&&◌, ◌||◌, eqb, List, map, is_some, Some, Option, sym, refl, ap, ◌∙◌, subst, inl, inr, arith}
use Rattle.std.proofs.lemmas.Bool.{cases_Bool, and_parts, and_from, and_cases, or_left, or_right, le-leb, eq-eqb, not-true, not-false, not_from_false}
use Rattle.group.specs.Meaning.{Meaning, Lawful, products}
use Rattle.sharing.specs.Value.{value_at}
use Rattle.sharing.specs.Commitment.{commitment, equation1}
use Rattle.protocol.specs.declared.kind.Kind.{Kind}
use Rattle.protocol.specs.declared.kind.Kind.TheVariants as kinds
use Rattle.protocol.specs.Seats.{count, holds}
use Rattle.protocol.specs.Board.{Board, entry, has, starts, phase_of, phase_number, phase_after, deal_of, exposure_of, complained, share_in, shares, passes1, answered, qualified}
use Rattle.protocol.specs.Custodian.{Custodian, other, own_share, exposed, to_complain_of, to_answer, share_codes}
use Rattle.protocol.specs.History.{Call, Made, State, after, after_call, Faithful}
use Rattle.protocol.specs.ReadBack.{RecordsReadBack, LettersReadBack}
use Rattle.protocol.proofs.Counting.{clash, count_apart, every_from, some_of, same_some}
use Rattle.protocol.proofs.Entries.{Middle}
use Rattle.protocol.proofs.Phases.{starts_phase_lem, phase_is}
use Rattle.protocol.proofs.Histories.{View, still, takes, begins, view, shut, sort, close, seat, Prior, carry, board_after, fixed, closed}
use Rattle.protocol.proofs.OwnShares.{own_opens}
use Rattle.protocol.proofs.Owing.{none_dealing, none_answering}
use Rattle.protocol.proofs.Drawing.{OwnRecord, own_record, letter_own}

-- custodians stay as they are from phase 2 on
pub shut_from : (m : Meaning) (made : Made) (e h : List Call) → Prior e h → 2 ≤ starts (board_after m made e).taken
    → (2 ≤ starts (board_after m made h).taken) × ((after m made h).custodians ≡ (after m made e).custodians)
shut_from m made e h p s =
    carry m made (λ state. (2 ≤ starts state.board.taken) × (state.custodians ≡ (after m made e).custodians)) more e h p (s, refl)
  where
    up : (state : State) (c : Call) → 2 ≤ starts state.board.taken → View m made state c → 2 ≤ starts (after_call m made state c).board.taken
    up state c q (still e) = rw e q
    up state c q (begins bytes o e) = absurd (omega (arith, starts_phase_lem m state.board 0 o.before (omega arith)))
    up state c q (takes bytes d f e g) = rw e (elim (sort m state.board bytes f) [ close T k C u v w ↦ omega (arith, v) | seat T S u v w x ↦ omega (arith, v) ])

    more : (state : State) (c : Call) → (2 ≤ starts state.board.taken) × (state.custodians ≡ (after m made e).custodians)
        → (2 ≤ starts (after_call m made state c).board.taken) × ((after_call m made state c).custodians ≡ (after m made e).custodians)
    more state c q = (
      up state c q.0 (view m made state c),
      shut m made state c (λ u. omega (arith, q.0, starts_phase_lem m state.board 1 u (omega arith))) ∙ q.1,
    )

answered_from : (b : Board) (c : Custodian) (i j : ℕ) → c.seat ≡ i → to_answer b c j ≡ false → complained b j i ≡ true → has b.taken kinds.Answer i j ≡ true
unfolding to_answer
answered_from b c i j s u e =
    elim (and_cases (complained b j c.seat) (not (has b.taken kinds.Answer c.seat j)) u) [
      | inl n ↦ clash (complained b j i) e (ap (complained b j) (sym s) ∙ n)
      | inr n ↦ ap (λ (z : ℕ). has b.taken kinds.Answer z j) (sym s) ∙ not-false _ n
    ]

-- the parts of a reason to complain
record Grieved (m : Meaning) (b : Board) (c : Custodian) (i : ℕ) : Type 0 where
  pub apart : i ≡ c.seat → ⊥
  pub dealt : is_some (deal_of b i) ≡ true
  pub fails : holds (c.letters i) (passes1 m b i c.seat) ≡ false

grieved : (m : Meaning) (b : Board) (c : Custodian) (i : ℕ) → to_complain_of m b c i ≡ true → Grieved m b c i
unfolding to_complain_of
grieved m b c i e =
    let fails : Bool = not (holds (c.letters i) (passes1 m b i c.seat)) in
    let new : Bool = not (complained b c.seat i) in
    let p = and_parts (other c i) (is_some (deal_of b i) && (new && fails)) e in
    let q = and_parts (is_some (deal_of b i)) (new && fails) p.1 in
    let r = and_parts new fails q.1 in
    record { apart = λ z. clash (eqb i c.seat) (eq-eqb _ _ z) (not-true _ p.0); dealt = q.0; fails = not-true _ r.1 }

module _ (records_back : RecordsReadBack) (letters_back : LettersReadBack) (m : Meaning) (laws : Lawful m) (made : Made) (calls : List Call) (set : ℕ → Bool) (of : ℕ → ℕ) (faithful : Faithful m made calls set of) where
  abbrev b : Board
  b = board_after m made calls

  module _ (i : ℕ) (f : set i ≡ true) (c : Custodian) (there : (after m made calls).custodians (of i) ≡ Some c) where
    record_of : (k : Kind) (j : ℕ) → Middle k → (x : List ℕ) → entry b.taken k i j ≡ Some x → OwnRecord records_back letters_back m laws made calls set of faithful i f c there k j x
    record_of = own_record records_back letters_back m laws made calls set of faithful i f c there

    pub deal_own : (C : List ℕ) → deal_of b i ≡ Some C → C ≡ map (commitment m) c.coefficients
    deal_own C s =
        let r = record_of kinds.Deal 0 (record { low = omega arith; high = omega arith }) C s in
        sym r.codes ∙ r.owes.deal (omega (arith, r.owes.kind, r.kind)) ∙ ap (map (commitment m)) r.coefficients

    pub answer_own : (j : ℕ) (x : List ℕ) → entry b.taken kinds.Answer i j ≡ Some x → x ≡ share_codes (Some (own_share m c j))
    answer_own j x s =
        let r = record_of kinds.Answer j (record { low = omega arith; high = omega arith }) x s in
        let e = r.owes.answer (omega (arith, r.owes.kind, r.kind)) in
        sym r.codes ∙ e ∙ ap (λ (k : ℕ). share_codes (Some (own_share m r.was k))) r.second
        ∙ ap (λ (cs : List (ℕ × ℕ)). share_codes (Some (value_at (shares m) cs j))) r.coefficients

    pub exposure_own : (A : List ℕ) → exposure_of b i ≡ Some A → A ≡ map (exposed m) c.coefficients
    exposure_own A s =
        let r = record_of kinds.Exposure 0 (record { low = omega arith; high = omega arith }) A s in
        sym r.codes ∙ r.owes.exposure (omega (arith, r.owes.kind, r.kind)) ∙ ap (map (exposed m)) r.coefficients

    pub seat_is : c.seat ≡ i
    seat_is =
        let u = faithful.seated_one i f in
        let e : u.0 ≡ c = same_some _ _ (sym u.1 ∙ there) in
        ap (λ (z : Custodian). z.seat) (sym e) ∙ u.2

    -- its Deal, once dealing has ended
    pub dealt : 2 ≤ starts b.taken → is_some (deal_of b i) ≡ true
    dealt s =
        let C = closed m made _ calls faithful.nothing_owed 1 (omega arith) (omega arith) s in
        let then : (after m made C.past).custodians (of i) ≡ Some c = ap (λ (z : ℕ → Option Custodian). z (of i)) C.custodians ∙ there in
        let u = none_dealing m (board_after m made C.past) c C.in_that_phase (C.holds C.is_close i f c then) in
        ap is_some (sym (C.same kinds.Deal i 0 (omega arith) (omega arith))) ∙ ap (λ (z : ℕ). is_some (deal_of (board_after m made C.past) z)) (sym seat_is) ∙ u

    -- equation 1 holds of its own shares, on any board that has its Deal
    own_passes : (d : Board) (C : List ℕ) → deal_of d i ≡ Some C → C ≡ map (commitment m) c.coefficients → (j : ℕ) → passes1 m d i j (own_share m c j) ≡ true
    unfolding passes1
    own_passes d C s e j =
        ap (λ (o : Option (List ℕ)). holds o (λ D. equation1 m D j (own_share m c j))) s
        ∙ eq-eqb _ _ (own_opens m laws c.coefficients j ∙ ap (λ (D : List ℕ). value_at (products m) D j) (sym e))

    pub own_passes_now : is_some (deal_of b i) ≡ true → (j : ℕ) → passes1 m b i j (own_share m c j) ≡ true
    own_passes_now d j = let C = some_of _ d in own_passes b C.0 C.1 (deal_own C.0 C.1) j

    -- its answers
    answers_true : is_some (deal_of b i) ≡ true → (j : ℕ) (x : List ℕ) → entry b.taken kinds.Answer i j ≡ Some x → passes1 m b i j (share_in x) ≡ true
    answers_true d j x s = ap (λ (z : List ℕ). passes1 m b i j (share_in z)) (answer_own j x s) ∙ own_passes_now d j

    has_answered_lem : 4 ≤ starts b.taken → (j : ℕ) → 1 ≤ j → j ≤ b.n → complained b j i ≡ true → has b.taken kinds.Answer i j ≡ true
    has_answered_lem s j lo hi e =
        let C = closed m made _ calls faithful.nothing_owed 3 (omega arith) (omega arith) s in
        let p : Board = board_after m made C.past in
        let then : (after m made C.past).custodians (of i) ≡ Some c = ap (λ (z : ℕ → Option Custodian). z (of i)) C.custodians ∙ there in
        let u = none_answering m p c C.in_that_phase (C.holds C.is_close i f c then) j lo (omega (arith, C.n)) in
        let e' : complained p j i ≡ true = ap is_some (C.same kinds.Complaint j i (omega arith) (omega arith)) ∙ e in
        ap is_some (sym (C.same kinds.Answer i j (omega arith) (omega arith))) ∙ answered_from p c i j seat_is u e'

    -- its letter, which another faithful seat has when complaining begins
    has_heard : 2 ≤ starts b.taken → (j : ℕ) → set j ≡ true → (i ≡ j → ⊥) → (y : Custodian) → (after m made calls).custodians (of j) ≡ Some y → y.letters i ≡ Some (own_share m c y.seat)
    unfolding phase_after
    has_heard s j g n y there_y =
        let C = closed m made _ calls faithful.letters_taken 1 (omega arith) (omega arith) s in
        let u = C.holds C.is_close (phase_is m (board_after m made C.past) 1 C.in_that_phase (omega arith)) i j f g n in
        let e : u.0 ≡ y = same_some _ _ (sym u.1 ∙ ap (λ (z : ℕ → Option Custodian). z (of j)) C.custodians ∙ there_y) in
        let p = some_of (y.letters i) (ap (λ (z : Custodian). is_some (z.letters i)) (sym e) ∙ u.2) in
        p.1 ∙ ap Some (letter_own records_back letters_back m laws made calls set of faithful i f c there (of j) y there_y p.0 p.1)

    -- no faithful seat complains of it
    pub no_complaint : (j : ℕ) → complained b j i ≡ true → set j ≡ true → ⊥
    no_complaint j e g =
        clash (holds (y.letters i) (passes1 m p i y.seat))
        (ap (λ (o : Option (ℕ × ℕ)). holds o (passes1 m p i y.seat)) heard ∙ own_passes p D.0 D.1 (deal_own D.0 now) y.seat)
        G.fails
      where
        y : Custodian
        y = (faithful.seated_one j g).0

        there_y : (after m made calls).custodians (of j) ≡ Some y
        there_y = (faithful.seated_one j g).1

        r : OwnRecord records_back letters_back m laws made calls set of faithful j g y there_y kinds.Complaint i (some_of _ e).0
        r = own_record records_back letters_back m laws made calls set of faithful j g y there_y kinds.Complaint i (record { low = omega arith; high = omega arith }) (some_of _ e).0 (some_of _ e).1

        p : Board
        p = board_after m made r.past

        two : phase_number (phase_of m p) ≡ 2
        two = omega (arith, r.owes.kind, r.kind)

        st : starts p.taken ≡ 2
        st = starts_phase_lem m p 2 two (omega arith)

        shut_now : (2 ≤ starts b.taken) × ((after m made calls).custodians ≡ (after m made r.past).custodians)
        shut_now = shut_from m made r.past calls r.prior (omega (arith, st))

        was : r.was ≡ y
        was = same_some _ _ (sym r.had ∙ ap (λ (z : ℕ → Option Custodian). z (of j)) (sym shut_now.1) ∙ there_y)

        G : Grieved m p y i
        G = grieved m p y i (subst (λ (z : Custodian). to_complain_of m p z i ≡ true) was (subst (λ (z : ℕ). to_complain_of m p r.was z ≡ true) r.second (r.owes.complaint two)))

        D : (C : List ℕ) × (deal_of p i ≡ Some C)
        D = some_of _ G.dealt

        now : deal_of b i ≡ Some D.0
        now = (fixed m made r.past calls r.prior (omega (arith, st))).stays kinds.Deal i 0 D.0 D.1

        heard : y.letters i ≡ Some (own_share m c y.seat)
        heard = has_heard shut_now.0 j g (λ z. G.apart (z ∙ sym (faithful.seated_one j g).2)) y there_y

  pub is_qualified_lem : b.n ≤ count b.n set + b.t → 4 ≤ starts b.taken → (i : ℕ) → set i ≡ true → qualified m b i ≡ true
  unfolding qualified answered
  is_qualified_lem enough s i f =
      and_from _ _ d (and_from _ _
      (le-leb _ _ (omega (arith, enough, count_apart b.n (λ j. complained b j i) set (λ j e g. no_complaint i f c there j e g))))
      (every_from b.n _ each))
    where
      c : Custodian
      c = (faithful.seated_one i f).0

      there : (after m made calls).custodians (of i) ≡ Some c
      there = (faithful.seated_one i f).1

      d : is_some (deal_of b i) ≡ true
      d = dealt i f c there (omega arith)

      each : (j : ℕ) → 1 ≤ j → j ≤ b.n → (not (complained b j i) || holds (entry b.taken kinds.Answer i j) (λ codes. passes1 m b i j (share_in codes))) ≡ true
      each j lo hi =
          elim (cases_Bool (complained b j i)) [
            | inr e ↦ or_left _ _ (not_from_false _ e)
            | inl e ↦
                let a = some_of _ (has_answered_lem i f c there s j lo hi e) in
                or_right (not (complained b j i)) _ (ap (λ (o : Option (List ℕ)). holds o (λ codes. passes1 m b i j (share_in codes))) a.1 ∙ answers_true i f c there d j a.0 a.1)
          ]
