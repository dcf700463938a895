-- The bytes of passing sheets pass the tests of recovery, and are read as these sheets.
use Rattle.std.proofs.Common.{◌≡◌, ℕ, zero, suc, ◌+◌, ◌*◌, ◌^◌, ◌<◌, ◌≤◌, Bool, true, false, cond, eqb, leb, List, [], ◌∷◌, ◌++◌, map, length, get_or, Some, None, sym, refl, ap, ◌∙◌, subst, ap₂, append_assoc, append-nil, mul-le-mul, arith, length-append, get_or-append-add}
use Rattle.std.specs.List.{AllByRecursion}
use Rattle.std.proofs.lemmas.Bool.{and_parts, and_from, or_from, eqb-true, eq-eqb, ne_eqb, le-leb, lt-ltb, not_from_false}
use Rattle.group.specs.declared.fault.GroupFault.TheVariants.{NoCandidate}
use Rattle.group.specs.Code.{code, code_at}
use Rattle.group.specs.CodeLaws.{code_length}
use Rattle.group.specs.Meaning.{Meaning, Lawful}
use Rattle.sharing.specs.Codes.{first_of, decoded_from, refused_from, scalar_refused}
use Rattle.sharing.specs.Interpolation.{Seats, Share}
use Rattle.protocol.specs.Seats.{is_seat, mapped}
use Rattle.protocol.specs.Board.{Board, dealers}
use Rattle.protocol.specs.Custodian.{Sheet, same_bytes, pair_codes, write_sheet}
use Rattle.protocol.specs.Recovery.{shares_pass, sheet_at, sheet_size, equations_fault, among, sheet_fault_at, sheets_fault, sheets_in}
use Rattle.protocol.specs.Guarantee.{sheets_written}
use Rattle.protocol.proofs.Counting.{clash}
use Rattle.protocol.proofs.SeatLists.{Apart}
use Rattle.protocol.proofs.Faults.{all_passed, unless_none}
use Rattle.protocol.proofs.Recovering.{passing_head, Sound}

pub same_bytes_lem : (l k : List ℕ) → same_bytes l k ≡ true → l ≡ k
unfolding same_bytes
same_bytes_lem [] [] e = refl
same_bytes_lem [] (y ∷ k) e = clash false e refl
same_bytes_lem (x ∷ l) [] e = clash false e refl
same_bytes_lem (x ∷ l) (y ∷ k) e = let p = and_parts (eqb x y) (same_bytes l k) e in ap₂ (λ (a : ℕ) (r : List ℕ). a ∷ r) (eqb-true _ _ p.0) (same_bytes_lem l k p.1)

-- Codes in bytes behind other bytes.

pub code_behind : (front l : List ℕ) (w p k : ℕ) → p ≡ length front + k → code_at (front ++ l) w p ≡ code_at l w k
unfolding code_at
code_behind front l zero p k e = refl
code_behind front l (suc w) p k e =
    ap₂ (λ (x y : ℕ). x + 256 * y) (ap (λ (z : ℕ). get_or (front ++ l) z 0) e ∙ get_or-append-add front l k 0) (code_behind front l w (p + 1) (k + 1) (omega arith))

pub two_bytes : (n : ℕ) (l : List ℕ) → n < 65536 → code_at (code 2 n ++ l) 2 0 ≡ n
unfolding code_at code
two_bytes n l h = omega arith

pub two_more : (n k : ℕ) (l : List ℕ) → k < 65536 → code_at (code 2 n ++ (code 2 k ++ l)) 2 2 ≡ k
unfolding code_at code
two_more n k l h = omega arith

-- the length and the kind in the frame of a record behind other bytes
pub frame_length : (front body after : List ℕ) (n k : ℕ) → n < 65536 → code_at (front ++ ((code 2 n ++ (code 2 k ++ body)) ++ after)) 2 (length front) ≡ n
frame_length front body after n k h =
    code_behind front _ 2 (length front) 0 (omega arith)
    ∙ ap (λ (l : List ℕ). code_at l 2 0) (append_assoc (code 2 n) (code 2 k ++ body) after) ∙ two_bytes n _ h

pub frame_kind : (front body after : List ℕ) (n k : ℕ) → k < 65536 → code_at (front ++ ((code 2 n ++ (code 2 k ++ body)) ++ after)) 2 (length front + 2) ≡ k
frame_kind front body after n k h =
    code_behind front _ 2 (length front + 2) 2 refl
    ∙ ap (λ (l : List ℕ). code_at l 2 2) (append_assoc (code 2 n) (code 2 k ++ body) after ∙ ap (λ (l : List ℕ). code 2 n ++ l) (append_assoc (code 2 k) body after)) ∙ two_more n k _ h

-- Sheets.

-- a sheet between other bytes is read back
pub record SheetReads (m : Meaning) (s : Sheet) : Type 0 where
  pub size : length (write_sheet m s) ≡ sheet_size m (length s.shares)
  pub reads : (before after : List ℕ) → sheet_at m (length s.shares) (before ++ (write_sheet m s ++ after)) (length before) ≡ s

pub record SheetSmall (m : Meaning) (s : Sheet) : Type 0 where
  pub label : length s.label ≡ 16
  pub seat : s.seat < 256
  pub many : length s.shares ≤ 32
  pub shares : AllByRecursion (λ p. (p.0 < 256 ^ m.s) × (p.1 < 256 ^ m.s)) s.shares

pub shares_length : (m : Meaning) (b : Board) (j : ℕ) (is : List ℕ) (ps : List (ℕ × ℕ)) → shares_pass m b j is ps ≡ true → length ps ≡ length is
unfolding shares_pass
shares_length m b j [] [] e = refl
shares_length m b j [] (p ∷ ps) e = clash false e refl
shares_length m b j (i ∷ is) [] e = clash false e refl
shares_length m b j (i ∷ is) (p ∷ ps) e = ap suc (shares_length m b j is ps (passing_head m b j i p is ps e).1)

pub shares_below : (m : Meaning) (b : Board) (j : ℕ) (is : List ℕ) (ps : List (ℕ × ℕ)) → shares_pass m b j is ps ≡ true → AllByRecursion (Share m.q) ps
unfolding shares_pass
shares_below m b j [] [] e = tt
shares_below m b j [] (p ∷ ps) e = clash false e refl
shares_below m b j (i ∷ is) [] e = clash false e refl
shares_below m b j (i ∷ is) (p ∷ ps) e = let h = passing_head m b j i p is ps e in (h.0.below, shares_below m b j is ps h.1)

equations_none : (m : Meaning) (b : Board) (j : ℕ) (is : List ℕ) (ps : List (ℕ × ℕ)) (place : ℕ) → shares_pass m b j is ps ≡ true → equations_fault m b j is ps place ≡ None
unfolding shares_pass equations_fault
equations_none m b j [] [] place e = refl
equations_none m b j [] (p ∷ ps) place e = refl
equations_none m b j (i ∷ is) [] place e = refl
equations_none m b j (i ∷ is) (p ∷ ps) place e =
    let h = passing_head m b j i p is ps e in
    all_passed _ (unless_none _ _ h.0.first, (unless_none _ _ h.0.second, (equations_none m b j is ps (place + 2 * m.s) h.1, tt)))

-- the scalar codes of pairs below q
pairs_none : (m : Meaning) (bytes : List ℕ) (p count : ℕ)
    → AllByRecursion (Share m.q) (decoded_from (λ place. (code_at bytes m.s place, code_at bytes m.s (place + m.s))) (2 * m.s) p count)
    → refused_from (scalar_refused m bytes) m.s p (2 * count) ≡ None
unfolding refused_from decoded_from
pairs_none m bytes p zero a = ap (refused_from (scalar_refused m bytes) m.s p) {x = 2 * 0} {y = 0} refl
pairs_none m bytes p (suc count) a =
    let twice : 2 * suc count ≡ suc (suc (2 * count)) = omega arith in
    let place : p + m.s + m.s ≡ p + 2 * m.s = omega arith in
    ap (refused_from (scalar_refused m bytes) m.s p) twice
    ∙ ap₂ first_of (fine p a.0.0) (ap₂ first_of (fine (p + m.s) a.0.1) (ap (λ (z : ℕ). refused_from (scalar_refused m bytes) m.s z (2 * count)) place ∙ pairs_none m bytes (p + 2 * m.s) count a.1))
  where
    fine : (at : ℕ) → code_at bytes m.s at < m.q → scalar_refused m bytes at ≡ None
    fine at h = ap (λ (z : Bool). cond z None (Some (NoCandidate at))) (lt-ltb _ _ h)

module _ (m : Meaning) (laws : Lawful m) (b : Board) (few : length (dealers m b) ≤ 32) where
  abbrev dealt : ℕ
  dealt = length (dealers m b)

  module _ (s : Sheet) (S : Sound m b s) (R : SheetReads m s) where
    as_many : length s.shares ≡ dealt
    as_many = shares_length m b s.seat (dealers m b) s.shares S.shares

    pub written_size : length (write_sheet m s) ≡ sheet_size m dealt
    written_size = R.size ∙ ap (sheet_size m) as_many

    pub read_at : (before after : List ℕ) → sheet_at m dealt (before ++ (write_sheet m s ++ after)) (length before) ≡ s
    read_at before after = ap (λ (n : ℕ). sheet_at m n (before ++ (write_sheet m s ++ after)) (length before)) (sym as_many) ∙ R.reads before after

    body : List ℕ
    body = s.label ++ (s.seat ∷ pair_codes m.s s.shares)

    in_two_bytes : (2 + length body < 65536) × (2 + (2 + length body) ≡ sheet_size m dealt)
    unfolding body
    in_two_bytes =
        let w = written_size in
        let w2 : length (write_sheet m s) ≡ 2 + (2 + length body) =
        length-append (code 2 (2 + length body)) (code 2 17 ++ body)
        ∙ ap₂ ◌+◌ (code_length 2 (2 + length body)) (length-append (code 2 17) body ∙ ap (λ (z : ℕ). z + length body) (code_length 2 17)) in
        let width = laws.s_to in
        let two : 2 * dealt ≤ 64 = omega arith in
        let p : 2 * dealt * m.s ≤ 64 * 4 = mul-le-mul two width in
        (omega arith, omega arith)

    pub sheet_none : (before after earlier : List ℕ) → among s.seat earlier ≡ false
        → sheet_fault_at m b (before ++ (write_sheet m s ++ after)) earlier (length before) ≡ None
    unfolding sheet_fault_at body
    sheet_none before after earlier new =
        let bytes : List ℕ = before ++ (write_sheet m s ++ after) in
        let r = read_at before after in
        let z = in_two_bytes in
        let n : code_at bytes 2 (length before) ≡ 2 + length body = frame_length before body after (2 + length body) 17 z.0 in
        let k : code_at bytes 2 (length before + 2) ≡ 17 = frame_kind before body after (2 + length body) 17 (omega arith) in
        let all : length bytes ≡ length before + (sheet_size m dealt + length after) =
        length-append before (write_sheet m s ++ after) ∙ ap (λ (z : ℕ). length before + z) (length-append (write_sheet m s) after ∙ ap (λ (z : ℕ). z + length after) written_size) in
        let size : 2 + code_at bytes 2 (length before) ≡ sheet_size m dealt = omega (arith, z.1) in
        let seat : (sheet_at m dealt bytes (length before)).seat ≡ s.seat = ap (λ (x : Sheet). x.seat) r in
        let shares : (sheet_at m dealt bytes (length before)).shares ≡ s.shares = ap (λ (x : Sheet). x.shares) r in
        let label : (sheet_at m dealt bytes (length before)).label ≡ s.label = ap (λ (x : Sheet). x.label) r in
        all_passed _ (
          unless_none _ _ (and_from (leb (length before + 4) (length bytes)) _ (le-leb _ _ (omega arith)) (and_from (leb 4 (2 + code_at bytes 2 (length before))) _ (le-leb _ _ (omega arith)) (le-leb _ _ (omega arith)))),
          (
            unless_none _ _ (eq-eqb _ _ k),
            (
              unless_none _ _ (eq-eqb _ _ size),
              (
                unless_none _ _ (ap (is_seat b.n) seat ∙ S.seat),
                (
                  unless_none _ _ (not_from_false _ (ap (λ (x : ℕ). among x earlier) seat ∙ new)),
                  (
                    ap (mapped _) (pairs_none m bytes (length before + 21) dealt (subst (AllByRecursion (Share m.q)) (sym shares) (shares_below m b s.seat (dealers m b) s.shares S.shares))),
                    (
                      equations_none m b _ (dealers m b) _ (length before + 21) (ap₂ (λ (x : ℕ) (y : List (ℕ × ℕ)). shares_pass m b x (dealers m b) y) seat shares ∙ S.shares),
                      (unless_none _ _ (ap (λ (x : List ℕ). same_bytes x b.label) label ∙ S.label), tt),
                    ),
                  ),
                ),
              ),
            ),
          ),
        )

  among_new : (x : ℕ) (s : ℕ) (earlier : List ℕ) → (s ≡ x → ⊥) → among x earlier ≡ false → among x (s ∷ earlier) ≡ false
  unfolding among
  among_new x s earlier n e = or_from _ _ (ne_eqb x s (λ (z : x ≡ s). n (sym z))) e

  all_new : (s : ℕ) (earlier : List ℕ) (sheets : List Sheet) → Apart s (map (λ x. x.seat) sheets) → AllByRecursion (λ x. among x.seat earlier ≡ false) sheets → AllByRecursion (λ x. among x.seat (s ∷ earlier) ≡ false) sheets
  all_new s earlier [] a e = tt
  all_new s earlier (x ∷ sheets) a e = (among_new x.seat s earlier a.0 e.0, all_new s earlier sheets a.1 e.1)

  pub sheets_none : (sheets : List Sheet) (before earlier bytes : List ℕ) → AllByRecursion (Sound m b) sheets → AllByRecursion (SheetReads m) sheets → Seats (map (λ s. s.seat) sheets)
      → AllByRecursion (λ s. among s.seat earlier ≡ false) sheets → bytes ≡ before ++ sheets_written m sheets
      → (sheets_fault m b bytes earlier (length sheets) (length before) ≡ None) × (sheets_in m dealt bytes (length sheets) (length before) ≡ sheets)
  unfolding sheets_fault sheets_in sheets_written
  sheets_none [] before earlier bytes S R d n e =
      (unless_none _ _ (eq-eqb _ _ (sym (ap length (e ∙ append-nil before)))), refl)
  sheets_none (s ∷ sheets) before earlier bytes S R d n e =
      let W : List ℕ = write_sheet m s in
      let after : List ℕ = sheets_written m sheets in
      let r : sheet_at m dealt bytes (length before) ≡ s = ap (λ (z : List ℕ). sheet_at m dealt z (length before)) e ∙ read_at s S.0 R.0 before after in
      let at : length before + sheet_size m dealt ≡ length (before ++ W) = sym (length-append before W ∙ ap (λ (z : ℕ). length before + z) (written_size s S.0 R.0)) in
      let ih = sheets_none sheets (before ++ W) (s.seat ∷ earlier) bytes S.1 R.1 d.3 (all_new s.seat earlier sheets d.2 n.1) (e ∙ sym (append_assoc before W after)) in (
        all_passed _ (
          ap (λ (z : List ℕ). sheet_fault_at m b z earlier (length before)) e ∙ sheet_none s S.0 R.0 before after earlier n.0,
          (ap₂ (λ (x : ℕ) (y : ℕ). sheets_fault m b bytes (x ∷ earlier) (length sheets) y) (ap (λ (x : Sheet). x.seat) r) at ∙ ih.0, tt),
        ),
        ap₂ (λ (x : Sheet) (y : List Sheet). x ∷ y) r (ap (λ (y : ℕ). sheets_in m dealt bytes (length sheets) y) at ∙ ih.1),
      )
