-- Recovery from passing sheets: the logarithm of the key, or two openings.
use Rattle.std.proofs.Common.{◌≡◌, ℕ, ◌+◌, ◌%◌, ◌<◌, ◌≤◌, Bool, true, false, cond, not, ◌&&◌, ◌||◌, eqb, ltb, ◌⊎◌, List, [], ◌∷◌, map, length, get_or, take, Some, None, Option, sym, refl, ap, ◌∙◌, subst, ap₂, inl, inr, mod-lt, arith, map-id, length-take-le}
use Rattle.std.specs.List.{AllByRecursion}
use Rattle.std.proofs.ByRecursion.{All-take, All-map, All-weaker}
use Rattle.std.proofs.lemmas.Bool.{cases_Bool, and_parts, and_cases, or_cases, ltb-true, eqb-true, eq-eqb, not-true, not-false, cond-true, cond-false}
use Rattle.group.specs.Monoid.{power}
use Rattle.group.specs.Meaning.{Meaning, Lawful, products}
use Rattle.group.specs.PowerLaws.{power_zero, power_add, power_mod}
use Rattle.sharing.specs.Value.{value_at}
use Rattle.sharing.specs.Commitment.{commitment, equation1, equation2}
use Rattle.sharing.specs.Interpolation.{Seats, seats_of, weighted, interpolated, Share}
use Rattle.sharing_laws.proofs.Homomorphisms.{Homomorphism}
use Rattle.sharing_laws.proofs.Interpolating.{interpolates, interpolation_kept}
use Rattle.sharing_laws.proofs.Openings.{openings_interpolate_lem}
use Rattle.sharing_laws.proofs.Logarithms.{logarithms_unique_lem, openings_differ_lem}
use Rattle.protocol.specs.declared.kind.Kind.TheVariants as kinds
use Rattle.protocol.specs.declared.phase.Phase.TheVariants.{Finished}
use Rattle.protocol.specs.declared.recovered.Recovered.TheVariants.{Logarithm, Openings}
use Rattle.protocol.specs.Seats.{lowest, those, is_seat, holds}
use Rattle.protocol.specs.Board.{Board, entry, starts, phase_of, deal_of, exposure_of, revealed, share_or0, shares, passes1, passes2, qualified, contested, dealers, reveals, revealed_share, first_or, key_part, product_over, key}
use Rattle.protocol.specs.Custodian.{Sheet, same_bytes}
use Rattle.protocol.specs.Recovery.{share_below, share_passes, shares_pass, sheet_passes, share_of, sheet_entries, sheets_share, disagrees, sum_over, quotient, answer_for, recovery}
use Rattle.protocol.specs.History.{Call, Made}
use Rattle.protocol.specs.Guarantee.{IsLogarithm, Agree}
use Rattle.protocol.proofs.Counting.{clash, lowest_some, lowest_none, some_of}
use Rattle.protocol.proofs.SeatLists.{those_seats, those_all, length_those, seats_take, seats_map, length_map, In, those_in}
use Rattle.protocol.proofs.Phases.{finished_starts}
use Rattle.protocol.proofs.Histories.{board_after, limits}
use Rattle.protocol.proofs.OnBoard.{writer_seat, deal_codes, exposure_codes, reveal_opens}
use Rattle.protocol.proofs.Unchanged.{qualified_deal, contested_qualified, clear, enough_reveals}

module _ (m : Meaning) (laws : Lawful m) where
  abbrev pow : ℕ → ℕ
  pow x = power (products m) m.g x

  pub power_sum : (x y : ℕ) → pow ((x + y) % m.q) ≡ m.product (pow x) (pow y)
  power_sum x y =
      power_mod laws.commutative m.g (x + y) m.q laws.g_member (laws.order m.g laws.g_member) ∙ power_add laws.commutative m.g x y laws.g_member

  -- (s, s') ↦ g^s keeps sums
  pub power_keeps : Homomorphism (shares m) (products m) (λ p. pow p.0)
  power_keeps = record { on_unit = power_zero laws.commutative m.g; on_op = λ x y. power_sum x.0 y.0 }

  interpolated_below : (entries : List (ℕ × (ℕ × ℕ))) (w : ℕ → ℕ) → Share m.q (weighted (shares m) w entries)
  unfolding weighted
  interpolated_below [] w = let above = laws.q_above in (omega arith, omega arith)
  interpolated_below (e ∷ es) w = let above = laws.q_above in (mod-lt _ (omega arith), mod-lt _ (omega arith))

  -- what opens the values of commitments, or has the values of elements for powers, at t + 1 seats
  opens_first : (t : ℕ) (entries : List (ℕ × (ℕ × ℕ))) → Seats (seats_of entries) → (C : List ℕ) → AllByRecursion (λ u. m.member u ≡ true) C → length C ≡ t + 1 → length entries ≡ t + 1
      → AllByRecursion (λ e. Share m.q e.1 × (commitment m e.1 ≡ value_at (products m) C e.0)) entries
      → commitment m (interpolated (shares m) m.q entries) ≡ get_or C 0 0
  opens_first t entries s [] a lc le h = absurd (omega arith)
  opens_first t entries s (c ∷ cs) a lc le h = openings_interpolate_lem m laws entries s c cs a (lc ∙ sym le) h

  power_first : (t : ℕ) (entries : List (ℕ × (ℕ × ℕ))) → Seats (seats_of entries) → (A : List ℕ) → AllByRecursion (λ u. m.member u ≡ true) A → length A ≡ t + 1 → length entries ≡ t + 1
      → AllByRecursion (λ e. pow e.1.0 ≡ value_at (products m) A e.0) entries
      → (d : ℕ) → pow (interpolated (shares m) m.q entries).0 ≡ get_or A 0 d
  power_first t entries s [] a lc le h d = absurd (omega arith)
  power_first t entries s (c ∷ cs) a lc le h d =
      interpolation_kept power_keeps m.q m.member
      (interpolates m.member (products m) laws.commutative m.q laws.q_above laws.q_prime laws.order)
      entries s c cs a (lc ∙ sym le) h

  -- g to a sum is the product of the powers
  power_total : (f : ℕ → ℕ) (l : List ℕ) → pow (sum_over m.q f l) ≡ product_over m (λ i. pow (f i)) l
  unfolding sum_over product_over
  power_total f [] = power_zero laws.commutative m.g
  power_total f (i ∷ l) = power_sum (f i) (sum_over m.q f l) ∙ ap (m.product (pow (f i))) (power_total f l)

  logarithm : (x u : ℕ) → x < m.q → pow x ≡ u → IsLogarithm m x u
  logarithm x u l e = record { below = l; is = e; only = λ y hy ey. logarithms_unique_lem m laws y x hy l (ey ∙ sym e) }

product_same : (m : Meaning) (f g : ℕ → ℕ) (l : List ℕ) → AllByRecursion (λ i. f i ≡ g i) l → product_over m f l ≡ product_over m g l
unfolding product_over
product_same m f g [] a = refl
product_same m f g (i ∷ l) a = ap₂ m.product a.0 (product_same m f g l a.1)

total_below : (q : ℕ) (f : ℕ → ℕ) (l : List ℕ) → 0 < q → sum_over q f l < q
unfolding sum_over
total_below q f [] h = h
total_below q f (i ∷ l) h = mod-lt _ h

passes1_value : (m : Meaning) (b : Board) (i j : ℕ) (p : ℕ × ℕ) (C : List ℕ) → deal_of b i ≡ Some C → passes1 m b i j p ≡ true → commitment m p ≡ value_at (products m) C j
unfolding passes1
passes1_value m b i j p C d e = eqb-true _ _ (sym (ap (λ (o : Option (List ℕ)). holds o (λ D. equation1 m D j p)) d) ∙ e)

passes2_value : (m : Meaning) (b : Board) (i j s : ℕ) (A : List ℕ) → exposure_of b i ≡ Some A → passes2 m b i j s ≡ true → power (products m) m.g s ≡ value_at (products m) A j
unfolding passes2
passes2_value m b i j s A d e = eqb-true _ _ (sym (ap (λ (o : Option (List ℕ)). holds o (λ D. equation2 m D j s)) d) ∙ e)

-- what a passing sheet says of one dealer
pub record Passing (m : Meaning) (b : Board) (j i : ℕ) (p : ℕ × ℕ) : Type 0 where
  pub below : Share m.q p
  pub first : passes1 m b i j p ≡ true
  pub second : (contested m b i || passes2 m b i j p.0) ≡ true

pub passing_head : (m : Meaning) (b : Board) (j d : ℕ) (p : ℕ × ℕ) (l : List ℕ) (ps : List (ℕ × ℕ)) → shares_pass m b j (d ∷ l) (p ∷ ps) ≡ true
    → Passing m b j d p × (shares_pass m b j l ps ≡ true)
unfolding shares_pass
passing_head m b j d p l ps e =
    let u = and_parts (share_below m p && share_passes m b d j p) (shares_pass m b j l ps) e in
    let v = and_parts (share_below m p) (share_passes m b d j p) u.0 in
    let w = and_parts (ltb p.0 m.q) (ltb p.1 m.q) v.0 in
    let x = and_parts (passes1 m b d j p) (contested m b d || passes2 m b d j p.0) v.1 in
    (record { below = (ltb-true _ _ w.0, ltb-true _ _ w.1); first = x.0; second = x.1 }, u.1)

passing : (m : Meaning) (b : Board) (j i : ℕ) (l : List ℕ) (ps : List (ℕ × ℕ)) → shares_pass m b j l ps ≡ true → In i l → Passing m b j i (share_of l ps i)
unfolding shares_pass share_of
passing m b j i [] ps e a = absurd a
passing m b j i (d ∷ l) [] e a = clash false e refl
passing m b j i (d ∷ l) (p ∷ ps) e a = go (passing_head m b j d p l ps e) (λ k r. passing m b j i l ps r k) (eqb i d) refl
  where
    go : Passing m b j d p × (shares_pass m b j l ps ≡ true) → (In i l → shares_pass m b j l ps ≡ true → Passing m b j i (share_of l ps i)) → (c : Bool) → eqb i d ≡ c
        → Passing m b j i (cond c p (share_of l ps i))
    go h ih true e = subst (λ (k : ℕ). Passing m b j k p) (sym (eqb-true _ _ e)) h.0
    go h ih false e = ih (elim a [ inl r ↦ clash (eqb i d) (eq-eqb _ _ r) e | inr r ↦ r ]) h.1

-- the parts of a passing sheet
pub record Sound (m : Meaning) (b : Board) (s : Sheet) : Type 0 where
  pub label : same_bytes s.label b.label ≡ true
  pub seat : is_seat b.n s.seat ≡ true
  pub shares : shares_pass m b s.seat (dealers m b) s.shares ≡ true

pub sound : (m : Meaning) (b : Board) (s : Sheet) → sheet_passes m b s ≡ true → Sound m b s
unfolding sheet_passes
sound m b s e =
    let rest : Bool = shares_pass m b s.seat (dealers m b) s.shares in
    let u = and_parts (same_bytes s.label b.label) (is_seat b.n s.seat && rest) e in
    let v = and_parts (is_seat b.n s.seat) rest u.1 in
    record { label = u.0; seat = v.0; shares = v.1 }

-- what recovery works out of sheets
pub record Logged (m : Meaning) (b : Board) (sheets : List Sheet) : Type 0 where
  pub x : ℕ
  pub answer : recovery m b sheets ≡ Logarithm x
  pub logarithm : IsLogarithm m x (key m b)

pub record Twice (m : Meaning) (b : Board) (sheets : List Sheet) : Type 0 where
  pub dealer : ℕ
  pub y : ℕ × ℕ
  pub z : ℕ × ℕ
  pub w : ℕ
  pub commitments : List ℕ
  pub answer : recovery m b sheets ≡ Openings dealer y z w
  pub deal : deal_of b dealer ≡ Some commitments
  pub different : y.0 ≡ z.0 → ⊥
  pub opens_y : commitment m y ≡ get_or commitments 0 0
  pub opens_z : commitment m z ≡ get_or commitments 0 0
  pub logarithm : IsLogarithm m w m.h

module _ (m : Meaning) (laws : Lawful m) (made : Made) (calls : List Call) (fin : phase_of m (board_after m made calls) ≡ Finished) where
  abbrev b : Board
  b = board_after m made calls

  st : 7 ≤ starts b.taken
  st = finished_starts m b fin

  small_n : b.n ≤ 32
  small_n = (limits m made calls).small (omega (arith, st))

  dealer_seat : (i : ℕ) → qualified m b i ≡ true → (1 ≤ i) × (i ≤ b.n)
  dealer_seat i q = writer_seat m made calls kinds.Deal i 0 (record { low = omega arith; high = omega arith }) (qualified_deal m b i q)

  -- what the Reveals interpolate to
  revealed_opens : (i : ℕ) → contested m b i ≡ true → (C : List ℕ) → deal_of b i ≡ Some C → commitment m (revealed_share m b i) ≡ get_or C 0 0
  unfolding reveals
  revealed_opens i c C d =
      opens_first m laws b.t (map row low)
      (subst Seats (sym same_seats) (seats_take (b.t + 1) who (those_seats b.n _ small_n)))
      C (deal_codes m made calls i C d).1 (deal_codes m made calls i C d).0 len
      (All-map (λ e. Share m.q e.1 × (commitment m e.1 ≡ value_at (products m) C e.0)) row low
      (All-weaker (λ j. revealed b j i ≡ true) (λ j. Share m.q (row j).1 × (commitment m (row j).1 ≡ value_at (products m) C j)) opens_row low there))
    where
      who : List ℕ
      who = those b.n (λ j. revealed b j i)

      low : List ℕ
      low = take (b.t + 1) who

      row : ℕ → ℕ × (ℕ × ℕ)
      row j = (j, share_or0 (entry b.taken kinds.Reveal j i))

      there : AllByRecursion (λ j. revealed b j i ≡ true) low
      there = All-take (λ j. revealed b j i ≡ true) (b.t + 1) who (those_all b.n (λ j. revealed b j i))

      same_seats : seats_of (map row low) ≡ low
      same_seats = seats_map (λ j. j) (λ j. share_or0 (entry b.taken kinds.Reveal j i)) low ∙ map-id low

      len : length (map row low) ≡ b.t + 1
      len = length_map row low ∙ length-take-le (b.t + 1) who (omega (arith, length_those b.n (λ j. revealed b j i), enough_reveals m made calls fin i c))

      opens_row : (j : ℕ) → revealed b j i ≡ true → Share m.q (row j).1 × (commitment m (row j).1 ≡ value_at (products m) C j)
      opens_row j r =
          let e = some_of (entry b.taken kinds.Reveal j i) r in
          subst (λ (o : Option (List ℕ)). Share m.q (share_or0 o) × (commitment m (share_or0 o) ≡ value_at (products m) C j)) (sym e.1) (reveal_opens m made calls i C d j e.0 e.1)

  module _ (sheets : List Sheet) (ls : length sheets ≡ b.t + 1) (passes : AllByRecursion (λ s. sheet_passes m b s ≡ true) sheets) (different : Seats (map (λ s. s.seat) sheets)) where
    sounds : AllByRecursion (Sound m b) sheets
    sounds = All-weaker (λ s. sheet_passes m b s ≡ true) (Sound m b) (sound m b) sheets passes

    entry_of : ℕ → Sheet → ℕ × (ℕ × ℕ)
    entry_of i s = (s.seat, share_of (dealers m b) s.shares i)

    entries_seats : (i : ℕ) → Seats (seats_of (sheet_entries m b sheets i))
    entries_seats i = subst Seats (sym (seats_map (λ (s : Sheet). s.seat) (λ s. share_of (dealers m b) s.shares i) sheets)) different

    entries_length : (i : ℕ) → length (sheet_entries m b sheets i) ≡ b.t + 1
    entries_length i = length_map (λ (s : Sheet). (s.seat, share_of (dealers m b) s.shares i)) sheets ∙ ls

    column : (i : ℕ) → qualified m b i ≡ true → AllByRecursion (λ s. Passing m b s.seat i (share_of (dealers m b) s.shares i)) sheets
    column i q =
        let r = dealer_seat i q in
        All-weaker (Sound m b) (λ s. Passing m b s.seat i (share_of (dealers m b) s.shares i))
        (λ s u. passing m b s.seat i (dealers m b) s.shares u.shares (those_in b.n (qualified m b) i r.0 r.1 q)) sheets sounds

    sheets_open : (i : ℕ) → qualified m b i ≡ true → (C : List ℕ) → deal_of b i ≡ Some C → commitment m (sheets_share m b sheets i) ≡ get_or C 0 0
    unfolding entry_of
    sheets_open i q C d =
        opens_first m laws b.t (sheet_entries m b sheets i) (entries_seats i) C (deal_codes m made calls i C d).1 (deal_codes m made calls i C d).0 (entries_length i)
        (All-map (λ e. Share m.q e.1 × (commitment m e.1 ≡ value_at (products m) C e.0)) (entry_of i) sheets
        (All-weaker (λ s. Passing m b s.seat i (share_of (dealers m b) s.shares i)) (λ s. Share m.q (entry_of i s).1 × (commitment m (entry_of i s).1 ≡ value_at (products m) C (entry_of i s).0))
        (λ s u. (u.below, passes1_value m b i s.seat _ C d u.first)) sheets (column i q)))

    sheets_power : (i : ℕ) → qualified m b i ≡ true → contested m b i ≡ false → (A : List ℕ) → exposure_of b i ≡ Some A
        → power (products m) m.g (sheets_share m b sheets i).0 ≡ get_or A 0 m.unit
    unfolding entry_of
    sheets_power i q c A d =
        power_first m laws b.t (sheet_entries m b sheets i) (entries_seats i) A (exposure_codes m made calls i A d).1 (exposure_codes m made calls i A d).0 (entries_length i)
        (All-map (λ e. power (products m) m.g e.1.0 ≡ value_at (products m) A e.0) (entry_of i) sheets
        (All-weaker (λ s. Passing m b s.seat i (share_of (dealers m b) s.shares i)) (λ s. power (products m) m.g (entry_of i s).1.0 ≡ value_at (products m) A (entry_of i s).0)
        (λ s u. passes2_value m b i s.seat (share_of (dealers m b) s.shares i).0 A d
        (elim (or_cases (contested m b i) (passes2 m b i s.seat (share_of (dealers m b) s.shares i).0) u.second) [ inl x ↦ clash (contested m b i) x c | inr x ↦ x ])) sheets (column i q)))
        m.unit

    part_is : Agree m b sheets → (i : ℕ) → qualified m b i ≡ true → power (products m) m.g (sheets_share m b sheets i).0 ≡ key_part m b i
    unfolding key_part
    part_is agree i q =
        elim (cases_Bool (contested m b i)) [
          | inl c ↦ ap (λ (k : ℕ). power (products m) m.g k) (agree i c) ∙ sym (cond-true _ _ _ c)
          | inr c ↦
              let K = clear m b i (omega (arith, st)) q c in
              let A = some_of _ K.exposed in
              sheets_power i q c A.0 A.1 ∙ ap (first_or m.unit) (sym A.1) ∙ sym (cond-false _ _ _ c)
        ]

    pub result : (o : Option ℕ) → lowest b.n (disagrees m b sheets) ≡ o → (Agree m b sheets × Logged m b sheets) ⊎ ((Agree m b sheets → ⊥) × Twice m b sheets)
    unfolding recovery disagrees
    result None e =
        let above = laws.q_above in
        inl (
          agree,
          record {
            x = sum_over m.q (λ i. (sheets_share m b sheets i).0) (dealers m b);
            answer = ap (answer_for m b sheets) e;
            logarithm = logarithm m laws _ _ (total_below m.q _ (dealers m b) (omega arith))
                (power_total m laws (λ i. (sheets_share m b sheets i).0) (dealers m b)
                ∙ product_same m _ (key_part m b) (dealers m b)
                (All-weaker (λ i. qualified m b i ≡ true) (λ i. power (products m) m.g (sheets_share m b sheets i).0 ≡ key_part m b i) (part_is agree) (dealers m b) (those_all b.n (qualified m b))));
          },
        )
      where
        agree : Agree m b sheets
        agree i c =
            let r = dealer_seat i (contested_qualified m b i c) in
            elim (and_cases (contested m b i) (not (eqb (sheets_share m b sheets i).0 (revealed_share m b i).0)) (lowest_none b.n (disagrees m b sheets) e i r.0 r.1)) [
              | inl n ↦ clash (contested m b i) c n
              | inr n ↦ eqb-true _ _ (not-false _ n)
            ]
    result (Some i) e =
        inr (
          λ agree. apart (agree i cont),
          record {
            dealer = i;
            y = y;
            z = z;
            w = quotient m y z;
            commitments = D.0;
            answer = ap (answer_for m b sheets) e;
            deal = D.1;
            different = apart;
            opens_y = oy;
            opens_z = oz;
            logarithm = record { below = tw.1; is = tw.2; only = tw.3 };
          },
        )
      where
        low : (1 ≤ i) × (i ≤ b.n) × (disagrees m b sheets i ≡ true)
        low = lowest_some b.n (disagrees m b sheets) i e

        y : ℕ × ℕ
        y = sheets_share m b sheets i

        z : ℕ × ℕ
        z = revealed_share m b i

        both : (contested m b i ≡ true) × (not (eqb y.0 z.0) ≡ true)
        both = and_parts (contested m b i) (not (eqb y.0 z.0)) low.2

        cont : contested m b i ≡ true
        cont = both.0

        apart : y.0 ≡ z.0 → ⊥
        apart q = clash (eqb y.0 z.0) (eq-eqb _ _ q) (not-true _ both.1)

        qual : qualified m b i ≡ true
        qual = contested_qualified m b i cont

        D : (C : List ℕ) × (deal_of b i ≡ Some C)
        D = some_of _ (qualified_deal m b i qual)

        oy : commitment m y ≡ get_or D.0 0 0
        oy = sheets_open i qual D.0 D.1

        oz : commitment m z ≡ get_or D.0 0 0
        oz = revealed_opens i cont D.0 D.1

        tw : (y.1 ≡ z.1 → ⊥) × (quotient m y z < m.q) × (power (products m) m.g (quotient m y z) ≡ m.h) × ((x : ℕ) → x < m.q → power (products m) m.g x ≡ m.h → x ≡ quotient m y z)
        tw = openings_differ_lem m laws y z (interpolated_below m laws (sheet_entries m b sheets i) _) (interpolated_below m laws (reveals b i) _) (oy ∙ sym oz) apart
