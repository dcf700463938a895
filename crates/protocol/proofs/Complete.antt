-- Part (b): a faithful seat has a share from every qualified dealer, and its sheet passes.
use Rattle.std.proofs.Common.{◌≡◌, ℕ, ◌<◌, ◌≤◌, Bool, true, false, not, ◌&&◌, ◌||◌, eqb, List, [], ◌∷◌, is_some, Some, Option, sym, refl, ap, ◌∙◌, ap₂, inl, inr, arith}
use Rattle.std.specs.List.{AllByRecursion}
use Rattle.std.proofs.lemmas.Bool.{cases_Bool, and_from, and_cases, or_left, or_right, lt-ltb, eqb-true, eq-eqb, not-false, cond-true}
use Rattle.group.specs.Meaning.{Meaning, Lawful, products}
use Rattle.sharing.specs.Value.{value_at}
use Rattle.sharing.specs.Commitment.{equation2}
use Rattle.protocol.specs.declared.kind.Kind.{Kind}
use Rattle.protocol.specs.declared.kind.Kind.TheVariants as kinds
use Rattle.protocol.specs.Seats.{is_seat, holds, mapped}
use Rattle.protocol.specs.Record.{kind_number}
use Rattle.protocol.specs.Board.{Board, starts, exposure_of, objected, passes1, passes2, qualified, contested, dealers}
use Rattle.protocol.specs.Custodian.{Custodian, Sheet, other, own_share, share_from, to_object_to, cons_if_both, all_of, sheet_of}
use Rattle.protocol.specs.Recovery.{share_below, share_passes, shares_pass, sheet_passes}
use Rattle.protocol.specs.History.{Call, Made, after, Faithful}
use Rattle.protocol.specs.ReadBack.{RecordsReadBack, LettersReadBack}
use Rattle.protocol.specs.Guarantee.{Trusted, Complete}
use Rattle.protocol.proofs.Counting.{clash, some_false, seat_from, some_of, same_some}
use Rattle.protocol.proofs.SeatLists.{those_all}
use Rattle.protocol.proofs.Phases.{finished_starts}
use Rattle.protocol.proofs.Histories.{board_after, closed}
use Rattle.protocol.proofs.OnBoard.{writer_seat}
use Rattle.protocol.proofs.Unchanged.{Same, passes2_same, qualified_same, Clear, clear}
use Rattle.protocol.proofs.OwnShares.{own_exposed}
use Rattle.protocol.proofs.Seated.{same_as_itself}
use Rattle.protocol.proofs.Owing.{none_objecting}
use Rattle.protocol.proofs.Faith.{seat_is, exposure_own}
use Rattle.protocol.proofs.Holding.{seat_range, share_same, Held, held}

-- a custodian that has nothing to object to
nothing_wrong : (m : Meaning) (p : Board) (c : Custodian) (i : ℕ) → eqb i c.seat ≡ false → to_object_to m p c i ≡ false → qualified m p i ≡ true → is_some (exposure_of p i) ≡ true
    → objected p c.seat i ≡ false → (s : ℕ × ℕ) → share_from m p c i ≡ Some s → passes2 m p i c.seat s.0 ≡ true
unfolding to_object_to
nothing_wrong m p c i a u q e n s is =
    let fails : Bool = holds (share_from m p c i) (λ share. not (passes2 m p i c.seat share.0)) in
    let new : Bool = not (objected p c.seat i) in
    elim (and_cases (other c i) (qualified m p i && (is_some (exposure_of p i) && (fails && new))) u) [
      | inl v ↦ clash (eqb i c.seat) (not-false _ v) a
      | inr v ↦ elim (and_cases (qualified m p i) (is_some (exposure_of p i) && (fails && new)) v) [
        | inl w ↦ clash (qualified m p i) q w
        | inr w ↦ elim (and_cases (is_some (exposure_of p i)) (fails && new) w) [
          | inl y ↦ clash (is_some (exposure_of p i)) e y
          | inr y ↦ elim (and_cases fails new y) [
            | inr z ↦ clash (objected p c.seat i) (not-false _ z) n
            | inl z ↦ not-false _ (sym (ap (λ (o : Option (ℕ × ℕ)). holds o (λ share. not (passes2 m p i c.seat share.0))) is) ∙ z)
          ]
        ]
      ]
    ]

module _ (records_back : RecordsReadBack) (letters_back : LettersReadBack) (m : Meaning) (laws : Lawful m) (made : Made) (calls : List Call) (set : ℕ → Bool) (of : ℕ → ℕ) (faithful : Faithful m made calls set of)
    (j : ℕ) (f : set j ≡ true) (c : Custodian) (there : (after m made calls).custodians (of j) ≡ Some c) (st : 5 < starts (board_after m made calls).taken) where
  abbrev b : Board
  b = board_after m made calls

  range : (1 ≤ c.seat) × (c.seat ≤ b.n)
  range = seat_range records_back letters_back m laws made calls set of faithful j f c there

  own_seat : c.seat ≡ j
  own_seat = seat_is records_back letters_back m laws made calls set of faithful j f c there

  mine_exposed : is_some (exposure_of b j) ≡ true → (k : ℕ) → passes2 m b j k (own_share m c k).0 ≡ true
  unfolding passes2
  mine_exposed e k =
      let A = some_of _ e in
      ap (λ (o : Option (List ℕ)). holds o (λ D. equation2 m D k (own_share m c k).0)) A.1
      ∙ eq-eqb _ _ (own_exposed m laws c.coefficients k ∙ ap (λ (D : List ℕ). value_at (products m) D k) (sym (exposure_own records_back letters_back m laws made calls set of faithful j f c there A.0 A.1)))

  -- equation 2 of its share from an uncontested dealer
  exposed_share : (i : ℕ) → qualified m b i ≡ true → contested m b i ≡ false → (s : ℕ × ℕ) → share_from m b c i ≡ Some s → passes2 m b i c.seat s.0 ≡ true
  unfolding share_from
  exposed_share i q n s e = elim (cases_Bool (eqb i c.seat)) [ inl a ↦ mine a | inr a ↦ theirs a ]
    where
      K : Clear b i
      K = clear m b i st q n

      mine : eqb i c.seat ≡ true → passes2 m b i c.seat s.0 ≡ true
      mine a =
          let is : i ≡ c.seat = eqb-true _ _ a in
          let ij : i ≡ j = is ∙ own_seat in
          let o : own_share m c i ≡ s = same_some _ _ (sym (cond-true _ _ _ a) ∙ e) in
          let x = mine_exposed (ap (λ (z : ℕ). is_some (exposure_of b z)) (sym ij) ∙ K.exposed) c.seat in
          ap₂ (λ (y : ℕ) (z : ℕ × ℕ). passes2 m b y c.seat z.0) ij (sym o ∙ ap (own_share m c) is) ∙ x

      theirs : eqb i c.seat ≡ false → passes2 m b i c.seat s.0 ≡ true
      theirs a =
          let C = closed m made _ calls faithful.nothing_owed 5 (omega arith) (omega arith) st in
          let p : Board = board_after m made C.past in
          let same : (k : Kind) → 2 ≤ kind_number k → kind_number k ≤ 6 → Same p b k = λ k lo hi x y. C.same k x y lo hi in
          let then : (after m made C.past).custodians (of j) ≡ Some c = ap (λ (z : ℕ → Option Custodian). z (of j)) C.custodians ∙ there in
          let r = writer_seat m made calls kinds.Exposure i 0 (record { low = omega arith; high = omega arith }) K.exposed in
          let u = none_objecting m p c C.in_that_phase (C.holds C.is_close j f c then) i r.0 (omega (arith, r.1, C.n)) in
          let qp : qualified m p i ≡ true = qualified_same m p b C.n C.t (same kinds.Deal (omega arith) (omega arith)) (same kinds.Complaint (omega arith) (omega arith)) (same kinds.Answer (omega arith) (omega arith)) i ∙ q in
          let ep : is_some (exposure_of p i) ≡ true = ap is_some (same kinds.Exposure (omega arith) (omega arith) i 0) ∙ K.exposed in
          let np : objected p c.seat i ≡ false = ap is_some (same kinds.Objection (omega arith) (omega arith) c.seat i) ∙ some_false b.n (λ k. objected b k i) K.nobody c.seat range.0 range.1 in
          let pp : share_from m p c i ≡ Some s = share_same m p b (same kinds.Deal (omega arith) (omega arith)) (same kinds.Answer (omega arith) (omega arith)) c i ∙ e in
          sym (passes2_same m p b (same kinds.Exposure (omega arith) (omega arith)) i c.seat s.0) ∙ nothing_wrong m p c i a u qp ep np s pp

  has_share : (i : ℕ) → qualified m b i ≡ true → Held records_back letters_back m laws made calls set of faithful j f c there i
  has_share i q = held records_back letters_back m laws made calls set of faithful j f c there (omega (arith, st)) i q

  rows : (l : List ℕ) → AllByRecursion (λ i. qualified m b i ≡ true) l → (ps : List (ℕ × ℕ)) × (all_of (share_from m b c) l ≡ Some ps) × (shares_pass m b c.seat l ps ≡ true)
  unfolding all_of shares_pass
  rows [] a = ([], refl, refl)
  rows (i ∷ l) a =
      let H = has_share i a.0 in
      let r = rows l a.1 in
      let s = H.share in
      let second : (contested m b i || passes2 m b i c.seat s.0) ≡ true =
      elim (cases_Bool (contested m b i)) [ inl n ↦ or_left _ _ n | inr n ↦ or_right (contested m b i) _ (exposed_share i a.0 n s H.is) ] in (
        s ∷ r.0,
        ap₂ cons_if_both H.is r.1,
        and_from (share_below m s && share_passes m b i c.seat s) _
            (and_from (share_below m s) _ (and_from _ _ (lt-ltb _ _ H.below.0) (lt-ltb _ _ H.below.1)) (and_from (passes1 m b i c.seat s) _ H.passes second)) r.2,
      )

  pub sheet_passes_lem : ((d : ℕ) → qualified m b d ≡ true → is_some (share_from m b c d) ≡ true)
      × ((s : Sheet) × (sheet_of m b c ≡ Some s) × (sheet_passes m b s ≡ true))
  unfolding sheet_of sheet_passes
  sheet_passes_lem =
      let r = rows (dealers m b) (those_all b.n (qualified m b)) in (
        λ d q. ap is_some (has_share d q).is,
        (
          record { label = b.label; seat = c.seat; shares = r.0 },
          ap (mapped (λ found. record { label = b.label; seat = c.seat; shares = found })) r.1,
          and_from _ _ (same_as_itself b.label) (and_from (is_seat b.n c.seat) _ (seat_from b.n c.seat range.0 range.1) r.2),
        ),
      )

pub complete : RecordsReadBack → LettersReadBack → (m : Meaning) → Lawful m → (made : Made) (calls : List Call) (set : ℕ → Bool) (of : ℕ → ℕ) → Trusted m made calls set of → Complete m made calls set of
complete records_back letters_back m laws made calls set of trusted fin i f c there =
    sheet_passes_lem records_back letters_back m laws made calls set of trusted.faithful i f c there (omega (arith, finished_starts m (board_after m made calls) fin))
