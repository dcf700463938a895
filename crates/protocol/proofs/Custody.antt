-- Custodians over a history: what stays of one, and where its letters came from.
use Rattle.std.proofs.Common.{◌≡◌, ℕ, ◌+◌, ◌≤◌, Bool, true, false, cond, eqb, List, [], ◌∷◌, length, is_some, Some, None, Option, sym, refl, ap, ◌∙◌, subst, inl, inr, arith}
use Rattle.std.proofs.lemmas.Bool.{cases_Bool, eqb-true, not-true, cond-true, cond-false}
use Rattle.group.specs.Meaning.{Meaning}
use Rattle.sharing.specs.Codes.{decoded_from}
use Rattle.sharing.specs.Interpolation.{Share}
use Rattle.protocol.specs.declared.fault.CustodianFault.{CustodianFault}
use Rattle.protocol.specs.Seats.{mapped}
use Rattle.protocol.specs.Board.{Board, phase_of, phase_number, starts}
use Rattle.protocol.specs.Custodian.{Custodian, seating_fault, taking_fault, seated, with_letter, read_letter}
use Rattle.protocol.specs.History.{Call, Open, Post, SeatAt, WriteLetter, TakeLetter, Owe, DrawSheet, Recover, Made, State, with_custodian, unless_refused, after_call, after, EachLetter}
use Rattle.protocol.proofs.Counting.{clash, none_some, same_some, seat_parts}
use Rattle.protocol.proofs.Faults.{passed, unless_true, mapped_none, mapped_some}
use Rattle.protocol.proofs.Phases.{starts_phase_lem}
use Rattle.protocol.proofs.Histories.{Prior, prior_self, carry, board_after, fixed}
use Rattle.protocol.proofs.CodesOnBoard.{decoded_length, share_below_lem}

-- a seating that is not refused
record SeatedWell (m : Meaning) (b : Board) (custodian : Option Custodian) (seat : ℕ) : Type 0 where
  pub phase : phase_number (phase_of m b) ≡ 1
  pub low : 1 ≤ seat
  pub high : seat ≤ b.n
  pub empty : is_some custodian ≡ false

seated_well : (m : Meaning) (b : Board) (custodian : Option Custodian) (store seat : ℕ) (coefficients : List ℕ) → seating_fault m b custodian store seat coefficients ≡ None → SeatedWell m b custodian seat
unfolding seating_fault
seated_well m b custodian store seat coefficients e =
    let a = passed _ e in
    let s = seat_parts b.n seat (unless_true _ _ a.1.1.1.0) in
    record { phase = eqb-true _ _ (unless_true _ _ a.1.1.0); low = s.0; high = s.1; empty = not-true _ (unless_true _ _ a.1.1.1.1.0) }

-- a letter that is not refused
pub record TakenLetter (m : Meaning) (b : Board) (c : Custodian) (bytes : List ℕ) : Type 0 where
  pub below : Share m.q (read_letter m bytes).share
  pub addressee : (read_letter m bytes).addressee ≡ c.seat

letter_taken : (m : Meaning) (b : Board) (c : Custodian) (bytes : List ℕ) → taking_fault m b (Some c) bytes ≡ None → TakenLetter m b c bytes
unfolding taking_fault decoded_from
letter_taken m b c bytes e =
    let a = (passed _ e).1.1.1.1.1.1.1.1.1.1 in
    record { below = share_below_lem m bytes 22 (mapped_none _ _ a.0); addressee = eqb-true _ _ (unless_true _ _ a.1.1.0) }

-- where a custodian was before a call
pub data CustodianView (m : Meaning) (made : Made) (state : State) (call : Call) (k : ℕ) (c : Custodian) : Type 0 where
  same : state.custodians k ≡ Some c → CustodianView m made state call k c
  fresh : ((j : ℕ) → c.letters j ≡ None) → phase_number (phase_of m state.board) ≡ 1 → 1 ≤ c.seat → c.seat ≤ state.board.n
      → length c.coefficients ≡ state.board.t + 1
      → c.label ≡ state.board.label → c.n ≡ state.board.n → c.t ≡ state.board.t → CustodianView m made state call k c
  heard : (bytes : List ℕ) (y : Custodian) → call ≡ TakeLetter k bytes → taking_fault m state.board (state.custodians k) bytes ≡ None
      → state.custodians k ≡ Some y → with_letter (read_letter m bytes) y ≡ c → CustodianView m made state call k c

pub custodian_view : (m : Meaning) (made : Made) (state : State) (call : Call) (k : ℕ) (c : Custodian) → (after_call m made state call).custodians k ≡ Some c → CustodianView m made state call k c
unfolding after_call
custodian_view m made state (Open bytes) k c e = same e
custodian_view m made state (Post bytes) k c e = same e
custodian_view m made state (SeatAt j seat coefficients) k c e = go (seating_fault m state.board (state.custodians j) (made.store j) seat coefficients) (eqb k j) refl refl e
  where
    new : Custodian
    new = seated m state.board seat coefficients

    go : (o : Option CustodianFault) (d : Bool) → seating_fault m state.board (state.custodians j) (made.store j) seat coefficients ≡ o → eqb k j ≡ d
        → (unless_refused o (with_custodian state j (Some new)) state).custodians k ≡ Some c → CustodianView m made state (SeatAt j seat coefficients) k c
    go (Some f) d p q e = same e
    go None true p q e =
        let w : new ≡ c = same_some new c (sym (cond-true _ _ _ q) ∙ e) in
        let W = seated_well m state.board (state.custodians j) (made.store j) seat coefficients p in
        let s : seat ≡ c.seat = ap (λ (x : Custodian). x.seat) w in
        let lo = W.low in let hi = W.high in
        fresh (λ i. ap (λ (x : Custodian). x.letters i) (sym w)) W.phase (omega arith) (omega arith)
        (ap (λ (x : Custodian). length x.coefficients) (sym w) ∙ decoded_length _ m.s 0 (state.board.t + 1))
        (ap (λ (x : Custodian). x.label) (sym w)) (ap (λ (x : Custodian). x.n) (sym w)) (ap (λ (x : Custodian). x.t) (sym w))
    go None false p q e = same (sym (cond-false _ _ _ q) ∙ e)
custodian_view m made state (WriteLetter j addressee room) k c e = same e
custodian_view m made state (TakeLetter j bytes) k c e = go (taking_fault m state.board (state.custodians j) bytes) (eqb k j) refl refl e
  where
    go : (o : Option CustodianFault) (d : Bool) → taking_fault m state.board (state.custodians j) bytes ≡ o → eqb k j ≡ d
        → (unless_refused o (with_custodian state j (mapped (with_letter (read_letter m bytes)) (state.custodians j))) state).custodians k ≡ Some c → CustodianView m made state (TakeLetter j bytes) k c
    go (Some f) d p q e = same e
    go None true p q e =
        let s = eqb-true k j q in
        let w = mapped_some (with_letter (read_letter m bytes)) (state.custodians j) c (sym (cond-true _ _ _ q) ∙ e) in
        heard bytes w.0 (ap (λ (x : ℕ). TakeLetter x bytes) (sym s)) (ap (λ (x : ℕ). taking_fault m state.board (state.custodians x) bytes) s ∙ p) (ap state.custodians s ∙ w.1) w.2
    go None false p q e = same (sym (cond-false _ _ _ q) ∙ e)
custodian_view m made state (Owe j room) k c e = same e
custodian_view m made state (DrawSheet j room) k c e = same e
custodian_view m made state (Recover scratch bytes) k c e = same e

-- a custodian keeps its seat and coefficients
pub record Sits (state : State) (k seat : ℕ) (coefficients : List (ℕ × ℕ)) : Type 0 where
  pub c : Custodian
  pub there : state.custodians k ≡ Some c
  pub seat_is : c.seat ≡ seat
  pub coefficients_are : c.coefficients ≡ coefficients

sits_more : (m : Meaning) (made : Made) (k i : ℕ) (cs : List (ℕ × ℕ)) (state : State) (call : Call) → Sits state k i cs → Sits (after_call m made state call) k i cs
unfolding after_call
sits_more m made k i cs state (Open bytes) s = record { c = s.c; there = s.there; seat_is = s.seat_is; coefficients_are = s.coefficients_are }
sits_more m made k i cs state (Post bytes) s = record { c = s.c; there = s.there; seat_is = s.seat_is; coefficients_are = s.coefficients_are }
sits_more m made k i cs state (SeatAt j seat coefficients) s = go (seating_fault m state.board (state.custodians j) (made.store j) seat coefficients) refl
  where
    go : (o : Option CustodianFault) → seating_fault m state.board (state.custodians j) (made.store j) seat coefficients ≡ o
        → Sits (unless_refused o (with_custodian state j (Some (seated m state.board seat coefficients))) state) k i cs
    go (Some f) p = s
    go None p =
        let W = seated_well m state.board (state.custodians j) (made.store j) seat coefficients p in
        elim (cases_Bool (eqb k j)) [
          | inl f ↦ clash (is_some (state.custodians j)) (ap (λ (x : ℕ). is_some (state.custodians x)) (sym (eqb-true k j f)) ∙ ap is_some s.there) W.empty
          | inr f ↦ record { c = s.c; there = cond-false _ _ _ f ∙ s.there; seat_is = s.seat_is; coefficients_are = s.coefficients_are }
        ]
sits_more m made k i cs state (WriteLetter j addressee room) s = s
sits_more m made k i cs state (TakeLetter j bytes) s = go (taking_fault m state.board (state.custodians j) bytes)
  where
    go : (o : Option CustodianFault) → Sits (unless_refused o (with_custodian state j (mapped (with_letter (read_letter m bytes)) (state.custodians j))) state) k i cs
    go (Some f) = s
    go None =
        elim (cases_Bool (eqb k j)) [
          | inl f ↦ record {
            c = with_letter (read_letter m bytes) s.c;
            there = cond-true _ _ _ f ∙ ap (λ (x : ℕ). mapped (with_letter (read_letter m bytes)) (state.custodians x)) (sym (eqb-true k j f)) ∙ ap (mapped (with_letter (read_letter m bytes))) s.there;
            seat_is = s.seat_is;
            coefficients_are = s.coefficients_are;
          }
          | inr f ↦ record { c = s.c; there = cond-false _ _ _ f ∙ s.there; seat_is = s.seat_is; coefficients_are = s.coefficients_are }
        ]
sits_more m made k i cs state (Owe j room) s = s
sits_more m made k i cs state (DrawSheet j room) s = s
sits_more m made k i cs state (Recover scratch bytes) s = s

module _ (m : Meaning) (made : Made) where
  -- a custodian later on has the seat and the coefficients that it had
  pub still_sits : (k : ℕ) (e h : List Call) → Prior e h → (was now : Custodian) → (after m made e).custodians k ≡ Some was → (after m made h).custodians k ≡ Some now
      → (was.seat ≡ now.seat) × (was.coefficients ≡ now.coefficients)
  still_sits k e h p was now a c =
      let S = carry m made (λ state. Sits state k was.seat was.coefficients) (λ state call s. sits_more m made k was.seat was.coefficients state call s) e h p
      (record { c = was; there = a; seat_is = refl; coefficients_are = refl }) in
      let w : S.c ≡ now = same_some _ _ (sym S.there ∙ c) in
      (sym S.seat_is ∙ ap (λ (x : Custodian). x.seat) w, sym S.coefficients_are ∙ ap (λ (x : Custodian). x.coefficients) w)

  -- a custodian is seated in an opened ceremony, with t + 1 coefficients, and keeps its label, n and t
  pub record InCeremony (b : Board) (c : Custodian) : Type 0 where
    pub started : 1 ≤ starts b.taken
    pub low : 1 ≤ c.seat
    pub high : c.seat ≤ b.n
    pub many : length c.coefficients ≡ b.t + 1
    pub label : c.label ≡ b.label
    pub n : c.n ≡ b.n
    pub t : c.t ≡ b.t

  pub in_ceremony_lem : (calls : List Call) (k : ℕ) (c : Custodian) → (after m made calls).custodians k ≡ Some c → InCeremony (board_after m made calls) c
  unfolding after
  in_ceremony_lem [] k c e = none_some c e
  in_ceremony_lem (call ∷ h) k c e = go (custodian_view m made (after m made h) call k c e) (λ y. in_ceremony_lem h k y)
    where
      on : (y : Custodian) → InCeremony (board_after m made h) y → InCeremony (board_after m made (call ∷ h)) y
      on y I =
          let F = fixed m made h (call ∷ h) (inr (prior_self h)) I.started in
          let n = F.n in
          let hi = I.high in
          record {
            started = F.started;
            low = I.low;
            high = omega arith;
            many = I.many ∙ ap (λ (z : ℕ). z + 1) (sym F.t);
            label = I.label ∙ sym F.label;
            n = I.n ∙ sym F.n;
            t = I.t ∙ sym F.t;
          }

      go : CustodianView m made (after m made h) call k c → ((y : Custodian) → (after m made h).custodians k ≡ Some y → InCeremony (board_after m made h) y) → InCeremony (board_after m made (call ∷ h)) c
      go (same f) ih = on c (ih c f)
      go (fresh f p lo hi l label n t) ih =
          on c (record { started = omega (arith, starts_phase_lem m (board_after m made h) 1 p (omega arith)); low = lo; high = hi; many = l; label = label; n = n; t = t })
      go (heard bytes y d t o w) ih =
          let I = ih y o in
          on c (subst (λ (x : Custodian). InCeremony (board_after m made h) x) w (record { started = I.started; low = I.low; high = I.high; many = I.many; label = I.label; n = I.n; t = I.t }))

  -- where a letter came from
  pub record Sender (P : List Call → List ℕ → Type 0) (calls : List Call) (seat i : ℕ) (p : ℕ × ℕ) : Type 0 where
    pub past : List Call
    pub bytes : List ℕ
    pub prior : Prior past calls
    pub from : (read_letter m bytes).writer ≡ i
    pub to : (read_letter m bytes).addressee ≡ seat
    pub share : (read_letter m bytes).share ≡ p
    pub below : Share m.q p
    pub holds : P past bytes

  later : (P : List Call → List ℕ → Type 0) (c : Call) (h : List Call) (s i : ℕ) (p : ℕ × ℕ) → Sender P h s i p → Sender P (c ∷ h) s i p
  later P c h s i p o = record { past = o.past; bytes = o.bytes; prior = inr o.prior; from = o.from; to = o.to; share = o.share; below = o.below; holds = o.holds }

  pub sender : (P : List Call → List ℕ → Type 0) (calls : List Call) → EachLetter m made P calls → (k : ℕ) (c : Custodian) → (after m made calls).custodians k ≡ Some c
      → (i : ℕ) (p : ℕ × ℕ) → c.letters i ≡ Some p → Sender P calls c.seat i p
  unfolding after
  sender P [] a k c e i p l = none_some c e
  sender P (call ∷ h) a k c e i p l = go (custodian_view m made (after m made h) call k c e) (λ y f n. sender P h a.1 k y f i p n)
    where
      go : CustodianView m made (after m made h) call k c → ((y : Custodian) → (after m made h).custodians k ≡ Some y → y.letters i ≡ Some p → Sender P h y.seat i p) → Sender P (call ∷ h) c.seat i p
      go (same f) ih = later P call h _ i p (ih c f l)
      go (fresh f x lo hi n _ _ _) ih = none_some p (sym (f i) ∙ l)
      go (heard bytes y d t o w) ih = at (eqb i (read_letter m bytes).writer) refl
        where
          into : cond (eqb i (read_letter m bytes).writer) (Some (read_letter m bytes).share) (y.letters i) ≡ Some p
          into = ap (λ (x : Custodian). x.letters i) w ∙ l

          at : (b : Bool) → eqb i (read_letter m bytes).writer ≡ b → Sender P (call ∷ h) c.seat i p
          at true q =
              let A = letter_taken m (board_after m made h) y bytes (ap (λ (x : Option Custodian). taking_fault m (board_after m made h) x bytes) (sym o) ∙ t) in
              let r : (read_letter m bytes).share ≡ p = same_some _ _ (sym (cond-true _ _ _ q) ∙ into) in
              record {
                past = h;
                bytes = bytes;
                prior = inr (prior_self h);
                from = sym (eqb-true _ _ q);
                to = A.addressee ∙ ap (λ (x : Custodian). x.seat) w;
                share = r;
                below = subst (Share m.q) r A.below;
                holds = a.0 k bytes d t;
              }
          at false q = subst (λ (x : Custodian). Sender P (call ∷ h) x.seat i p) w (later P call h _ i p (ih y o (sym (cond-false _ _ _ q) ∙ into)))

  pub any_letter : (calls : List Call) → EachLetter m made (λ _ _. Unit {0}) calls
  any_letter [] = tt
  any_letter (c ∷ h) = (λ _ _ _ _. tt, any_letter h)
