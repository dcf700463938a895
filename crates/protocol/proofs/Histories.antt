-- Histories: what a call leaves of the board, what stays, where a record came from, and the state at a Close.
use Rattle.std.proofs.Common.{◌≡◌, ℕ, suc, ◌*◌, ◌<◌, ◌≤◌, Bool, true, cond, ◌⊎◌, List, [], ◌∷◌, ◌++◌, length, Some, None, Option, sym, refl, ap, ◌∙◌, inl, inr, arith}
use Rattle.std.proofs.lemmas.Bool.{cases_Bool, cases_eq, cases_lt, eqb-true}
use Rattle.group.specs.Meaning.{Meaning}
use Rattle.protocol.specs.declared.kind.Kind.{Kind}
use Rattle.protocol.specs.declared.kind.Kind.TheVariants as kinds
use Rattle.protocol.specs.declared.fault.CeremonyFault.{CeremonyFault}
use Rattle.protocol.specs.declared.fault.CustodianFault.{CustodianFault}
use Rattle.protocol.specs.Seats.{mapped}
use Rattle.protocol.specs.Record.{Posted, kind_number, kind_field}
use Rattle.protocol.specs.Board.{Board, is_by, phase_of, phase_number, starts, entry}
use Rattle.protocol.specs.Refusals.{posting_fault, opening_fault, opened, posted, unless_fault}
use Rattle.protocol.specs.Custodian.{seating_fault, taking_fault, seated, with_letter, read_letter}
use Rattle.protocol.specs.History.{Call, Open, Post, SeatAt, WriteLetter, TakeLetter, Owe, DrawSheet, Recover, Made, State, with_custodian, unless_refused, after_call, after, EachPosted}
use Rattle.protocol.proofs.Counting.{none_some, same_some}
use Rattle.protocol.proofs.Faults.{passed, unless_true}
use Rattle.protocol.proofs.Entries.{Middle, by_parts, by_kind, entry_other, entry_this, kept, starts_post, starts_close, kind_same}
use Rattle.protocol.proofs.Phases.{starts_phase_lem}
use Rattle.protocol.proofs.Taking.{Took, took, added, added_kind, BySeat, by_seat, Closing, closing, Opens, opens, opened_starts}

-- what a call does to the board
pub data View (m : Meaning) (made : Made) (state : State) (call : Call) : Type 0 where
  still : (after_call m made state call).board ≡ state.board → View m made state call
  takes : (bytes : List ℕ) → call ≡ Post bytes → posting_fault m state.board bytes ≡ None
      → (after_call m made state call).board ≡ posted m state.board bytes → (after_call m made state call).custodians ≡ state.custodians → View m made state call
  begins : (bytes : List ℕ) → Opens m state.board bytes → (after_call m made state call).board ≡ opened bytes → View m made state call

pub view : (m : Meaning) (made : Made) (state : State) (call : Call) → View m made state call
unfolding after_call
view m made state (Open bytes) = go (opening_fault m state.board made.area bytes) refl
  where
    go : (o : Option CeremonyFault) → opening_fault m state.board made.area bytes ≡ o → View m made state (Open bytes)
    go None e = begins bytes (opens m state.board made.area bytes e) (ap (λ (o : Option CeremonyFault). unless_fault o (opened bytes) state.board) e)
    go (Some f) e = still (ap (λ (o : Option CeremonyFault). unless_fault o (opened bytes) state.board) e)
view m made state (Post bytes) = go (posting_fault m state.board bytes) refl
  where
    go : (o : Option CeremonyFault) → posting_fault m state.board bytes ≡ o → View m made state (Post bytes)
    go None e = takes bytes refl e (ap (λ (o : Option CeremonyFault). unless_fault o (posted m state.board bytes) state.board) e) refl
    go (Some f) e = still (ap (λ (o : Option CeremonyFault). unless_fault o (posted m state.board bytes) state.board) e)
view m made state (SeatAt k seat coefficients) = still (go (seating_fault m state.board (state.custodians k) (made.store k) seat coefficients))
  where
    go : (o : Option CustodianFault) → (unless_refused o (with_custodian state k (Some (seated m state.board seat coefficients))) state).board ≡ state.board
    go None = refl
    go (Some f) = refl
view m made state (WriteLetter k addressee room) = still refl
view m made state (TakeLetter k bytes) = still (go (taking_fault m state.board (state.custodians k) bytes))
  where
    go : (o : Option CustodianFault) → (unless_refused o (with_custodian state k (mapped (with_letter (read_letter m bytes)) (state.custodians k))) state).board ≡ state.board
    go None = refl
    go (Some f) = refl
view m made state (Owe k room) = still refl
view m made state (DrawSheet k room) = still refl
view m made state (Recover scratch bytes) = still refl

-- custodians change in phase 1 only
pub shut : (m : Meaning) (made : Made) (state : State) (call : Call) → (phase_number (phase_of m state.board) ≡ 1 → ⊥) → (after_call m made state call).custodians ≡ state.custodians
unfolding after_call seating_fault taking_fault
shut m made state (Open bytes) n = refl
shut m made state (Post bytes) n = refl
shut m made state (SeatAt k seat coefficients) n = go (seating_fault m state.board (state.custodians k) (made.store k) seat coefficients) refl
  where
    go : (o : Option CustodianFault) → seating_fault m state.board (state.custodians k) (made.store k) seat coefficients ≡ o
        → (unless_refused o (with_custodian state k (Some (seated m state.board seat coefficients))) state).custodians ≡ state.custodians
    go None e = absurd (n (eqb-true _ _ (unless_true _ _ (passed _ e).1.1.0)))
    go (Some f) e = refl
shut m made state (WriteLetter k addressee room) n = refl
shut m made state (TakeLetter k bytes) n = go (taking_fault m state.board (state.custodians k) bytes) refl
  where
    go : (o : Option CustodianFault) → taking_fault m state.board (state.custodians k) bytes ≡ o
        → (unless_refused o (with_custodian state k (mapped (with_letter (read_letter m bytes)) (state.custodians k))) state).custodians ≡ state.custodians
    go None e = absurd (n (eqb-true _ _ (unless_true _ _ (passed _ e).1.1.1.1.1.0)))
    go (Some f) e = refl
shut m made state (Owe k room) n = refl
shut m made state (DrawSheet k room) n = refl
shut m made state (Recover scratch bytes) n = refl

-- either it is a Close, or a record of a seat
pub data Sort (m : Meaning) (b : Board) (bytes : List ℕ) : Type 0 where
  close : (T : Took m b bytes) → T.kind ≡ kinds.Close → Closing m b → kind_number (added m b bytes).kind ≡ 8
      → starts (posted m b bytes).taken ≡ suc (starts b.taken) → starts b.taken ≡ phase_number (phase_of m b) → Sort m b bytes
  seat : (T : Took m b bytes) → BySeat m b bytes T.kind → kind_number (added m b bytes).kind ≡ suc (starts b.taken)
      → starts (posted m b bytes).taken ≡ starts b.taken → 1 ≤ starts b.taken → starts b.taken ≤ 6 → Sort m b bytes

pub sort : (m : Meaning) (b : Board) (bytes : List ℕ) → posting_fault m b bytes ≡ None → Sort m b bytes
sort m b bytes e =
    let T = took m b bytes e in
    let k : kind_number (added m b bytes).kind ≡ kind_number T.kind = ap kind_number (added_kind m b bytes T) in
    elim (cases_eq (kind_number T.kind) 8) [
      | inl eight ↦
          let is : T.kind ≡ kinds.Close = kind_same T.kind kinds.Close eight in
          let C = closing m b bytes T is in
          close T is C (k ∙ eight) (starts_close (added m b bytes) b.taken (k ∙ eight)) (starts_phase_lem m b _ refl (omega (arith, C.high)))
      | inr other ↦
          let S = by_seat m b bytes T.kind T.silent other in
          let lo = S.middle.low in
          let hi = S.middle.high in
          let home = S.home in
          let st : starts b.taken ≡ phase_number (phase_of m b) = starts_phase_lem m b _ refl (omega arith) in
          seat T S (omega arith) (starts_post (added m b bytes) b.taken (omega arith) (omega arith)) (omega arith) (omega arith)
    ]

-- earlier are the calls up to some point of calls
abbrev pub Prior : List Call → List Call → Type 0
Prior earlier [] = earlier ≡ []
Prior earlier (call ∷ calls) = (earlier ≡ (call ∷ calls)) ⊎ Prior earlier calls

pub prior_self : (calls : List Call) → Prior calls calls
prior_self [] = refl
prior_self (c ∷ h) = inl refl

pub prior_trans : (d e h : List Call) → Prior d e → Prior e h → Prior d h
prior_trans d e [] p q = rw q at p
prior_trans d e (c ∷ h) p q = elim q [ inl r ↦ rw r at p | inr r ↦ inr (prior_trans d e h p r) ]

module _ (m : Meaning) (made : Made) where
  abbrev pub board_after : List Call → Board
  board_after calls = (after m made calls).board

  -- what each call keeps, a history keeps
  pub carry : (Q : State → Type 0) → ((s : State) (c : Call) → Q s → Q (after_call m made s c)) → (e h : List Call) → Prior e h → Q (after m made e) → Q (after m made h)
  unfolding after
  carry Q s e [] p q = rw p at q
  carry Q s e (c ∷ h) p q = elim p [ inl r ↦ rw r at q | inr r ↦ s (after m made h) c (carry Q s e h r q) ]

  -- n, t, the label and what is on the board are fixed from the opening on
  pub record Fixed (b d : Board) : Type 0 where
    pub started : 1 ≤ starts d.taken
    pub more : starts b.taken ≤ starts d.taken
    pub n : d.n ≡ b.n
    pub t : d.t ≡ b.t
    pub label : d.label ≡ b.label
    pub stays : (k : Kind) (i j : ℕ) (x : List ℕ) → entry b.taken k i j ≡ Some x → entry d.taken k i j ≡ Some x

  pub fixed : (e h : List Call) → Prior e h → 1 ≤ starts (board_after e).taken → Fixed (board_after e) (board_after h)
  fixed e h p s =
      carry (λ state. Fixed (board_after e) state.board) (λ state c q. step state c q (view m made state c)) e h p
      (record { started = s; more = omega arith; n = refl; t = refl; label = refl; stays = λ k i j x a. a })
    where
      step : (state : State) (c : Call) → Fixed (board_after e) state.board → View m made state c → Fixed (board_after e) (after_call m made state c).board
      step state c q (still e) = rw e q
      step state c q (begins bytes o e) = absurd (omega (arith, starts_phase_lem m state.board 0 o.before (omega arith), q.started))
      step state c q (takes bytes d f e g) =
          let b : Board = state.board in
          let up : starts b.taken ≤ starts (posted m b bytes).taken = elim (sort m b bytes f) [ close T k C u v w ↦ omega (arith, v) | seat T S u v w x ↦ omega (arith, v) ] in
          rw e (record {
            started = omega (arith, q.started, up);
            more = omega (arith, q.more, up);
            n = q.n;
            t = q.t;
            label = q.label;
            stays = λ k i j x a. kept (added m b bytes) b.taken k i j x (q.stays k i j x a);
          })

  -- an opened ceremony keeps its limits, and has seven phases at most
  pub record Limits (b : Board) : Type 0 where
    pub last : starts b.taken ≤ 7
    pub few : 1 ≤ starts b.taken → 2 * b.t < b.n
    pub small : 1 ≤ starts b.taken → b.n ≤ 32
    pub long : 1 ≤ starts b.taken → length b.label ≡ 16

  pub limits : (calls : List Call) → Limits (board_after calls)
  unfolding after starts
  limits [] = record { last = omega arith; few = λ s. absurd (omega arith); small = λ s. absurd (omega arith); long = λ s. absurd (omega arith) }
  limits (c ∷ h) = go (view m made (after m made h) c) (limits h)
    where
      go : View m made (after m made h) c → Limits (board_after h) → Limits (after_call m made (after m made h) c).board
      go (still e) l = rw e l
      go (begins bytes o e) l = rw e (record { last = omega (arith, opened_starts bytes); few = λ s. o.few; small = λ s. o.small; long = λ s. o.long })
      go (takes bytes d f e g) l =
          rw e (elim (sort m (board_after h) bytes f) [
            | close T k C u v w ↦
                let lo = C.low in let hi = C.high in
                record { last = omega arith; few = λ s. l.few (omega arith); small = λ s. l.small (omega arith); long = λ s. l.long (omega arith) }
            | seat T S u v w x ↦ record { last = omega arith; few = λ s. l.few w; small = λ s. l.small w; long = λ s. l.long w }
          ])

  -- where a record on the board came from
  pub record Origin (P : List Call → List ℕ → Type 0) (calls : List Call) (k : Kind) (i j : ℕ) (x : List ℕ) : Type 0 where
    pub past : List Call
    pub bytes : List ℕ
    pub prior : Prior past calls
    pub none : posting_fault m (board_after past) bytes ≡ None
    pub kind : kind_number (added m (board_after past) bytes).kind ≡ kind_number k
    pub writer : (added m (board_after past) bytes).writer ≡ i
    pub second : (added m (board_after past) bytes).second ≡ j
    pub codes : (added m (board_after past) bytes).codes ≡ x
    pub holds : P past bytes

  further : (P : List Call → List ℕ → Type 0) (c : Call) (h : List Call) (k : Kind) (i j : ℕ) (x : List ℕ) → Origin P h k i j x → Origin P (c ∷ h) k i j x
  further P c h k i j x o =
      record { past = o.past; bytes = o.bytes; prior = inr o.prior; none = o.none; kind = o.kind; writer = o.writer; second = o.second; codes = o.codes; holds = o.holds }

  opened_none : (bytes : List ℕ) (k : Kind) (i j : ℕ) → Middle k → entry (opened bytes).taken k i j ≡ None
  unfolding entry
  opened_none bytes k i j mid =
      let r : Posted = record { kind = kinds.Opening; writer = 0; second = 0; codes = [] } in
      let lo = mid.low in
      ap (λ (b : Bool). cond b (Some []) None) (by_kind r k i j (λ (e : 1 ≡ kind_number k). omega arith))

  pub origin : (P : List Call → List ℕ → Type 0) (calls : List Call) → EachPosted m made P calls → (k : Kind) (i j : ℕ) → Middle k
      → (x : List ℕ) → entry (board_after calls).taken k i j ≡ Some x → Origin P calls k i j x
  unfolding after entry
  origin P [] a k i j mid x s = none_some x s
  origin P (c ∷ h) a k i j mid x s = go (view m made (after m made h) c) (origin P h a.1 k i j mid x)
    where
      b : Board
      b = board_after h

      go : View m made (after m made h) c → (entry b.taken k i j ≡ Some x → Origin P h k i j x) → Origin P (c ∷ h) k i j x
      go (still e) ih = further P c h k i j x (ih (rw e at s))
      go (begins bytes o e) ih = none_some x (sym (opened_none bytes k i j mid) ∙ (rw e at s))
      go (takes bytes d f e g) ih = elim (cases_Bool (is_by r k i j)) [
        | inr q ↦ further P c h k i j x (ih (sym (entry_other r b.taken k i j q) ∙ s'))
        | inl q ↦ first_time q (entry b.taken k i j) refl
      ]
        where
          r : Posted
          r = added m b bytes

          s' : entry (b.taken ++ r ∷ []) k i j ≡ Some x
          s' = rw e at s

          first_time : is_by r k i j ≡ true → (o : Option (List ℕ)) → entry b.taken k i j ≡ o → Origin P (c ∷ h) k i j x
          first_time q (Some y) v = further P c h k i j x (ih (v ∙ sym (kept r b.taken k i j y v) ∙ s'))
          first_time q None v =
              let u = by_parts r k i j q in
              let w : r.codes ≡ x = same_some _ _ (sym (entry_this r b.taken k i j q v) ∙ s') in
              record { past = h; bytes = bytes; prior = inr (prior_self h); none = f; kind = u.0; writer = u.1; second = u.2; codes = w; holds = a.0 bytes d f }

  -- the state at the Close that ended phase p
  pub record Closed (P : List Call → List ℕ → Type 0) (calls : List Call) (p : ℕ) : Type 0 where
    pub past : List Call
    pub bytes : List ℕ
    pub prior : Prior past calls
    pub none : posting_fault m (board_after past) bytes ≡ None
    pub is_close : kind_field bytes ≡ 8
    pub holds : P past bytes
    pub closing : Closing m (board_after past)
    pub in_that_phase : phase_number (phase_of m (board_after past)) ≡ p
    pub custodians : (after m made past).custodians ≡ (after m made calls).custodians
    pub n : (board_after past).n ≡ (board_after calls).n
    pub t : (board_after past).t ≡ (board_after calls).t
    pub same : (k : Kind) (i j : ℕ) → 2 ≤ kind_number k → kind_number k ≤ suc p → entry (board_after past).taken k i j ≡ entry (board_after calls).taken k i j

  pub closed : (P : List Call → List ℕ → Type 0) (calls : List Call) → EachPosted m made P calls → (p : ℕ) → 1 ≤ p → p ≤ 6 → p < starts (board_after calls).taken → Closed P calls p
  unfolding after starts
  closed P [] a p l u h = absurd (omega arith)
  closed P (c ∷ h) a p l u more = go (view m made (after m made h) c) (closed P h a.1 p l u)
    where
      s : State
      s = after m made h

      b : Board
      b = board_after h

      not_one : p < starts b.taken → phase_number (phase_of m b) ≡ 1 → ⊥
      not_one q e = let z = starts_phase_lem m b 1 e (omega arith) in omega arith

      on_from : Closed P h p → (after_call m made s c).custodians ≡ s.custodians → (after_call m made s c).board.n ≡ b.n → (after_call m made s c).board.t ≡ b.t
          → ((k : Kind) (i j : ℕ) → 2 ≤ kind_number k → kind_number k ≤ suc p → entry (after_call m made s c).board.taken k i j ≡ entry b.taken k i j) → Closed P (c ∷ h) p
      on_from C cs n t same =
          record {
            past = C.past;
            bytes = C.bytes;
            prior = inr C.prior;
            none = C.none;
            is_close = C.is_close;
            holds = C.holds;
            closing = C.closing;
            in_that_phase = C.in_that_phase;
            custodians = C.custodians ∙ sym cs;
            n = C.n ∙ sym n;
            t = C.t ∙ sym t;
            same = λ k i j lo hi. C.same k i j lo hi ∙ sym (same k i j lo hi);
          }

      go : View m made s c → (p < starts b.taken → Closed P h p) → Closed P (c ∷ h) p
      go (still e) ih =
          let q : p < starts b.taken = rw e at more in
          on_from (ih q) (shut m made s c (not_one q)) (ap (λ (x : Board). x.n) e) (ap (λ (x : Board). x.t) e) (λ k i j _ _. ap (λ (x : Board). entry x.taken k i j) e)
      go (begins bytes o e) ih = let q : p < starts (opened bytes).taken = rw e at more in absurd (omega (arith, opened_starts bytes))
      go (takes bytes d f e g) ih = at (sort m b bytes f)
        where
          q : p < starts (posted m b bytes).taken
          q = rw e at more

          en : (after_call m made s c).board.n ≡ b.n
          en = ap (λ (x : Board). x.n) e

          et : (after_call m made s c).board.t ≡ b.t
          et = ap (λ (x : Board). x.t) e

          other : (k : Kind) (i j : ℕ) → (kind_number (added m b bytes).kind ≡ kind_number k → ⊥) → entry (after_call m made s c).board.taken k i j ≡ entry b.taken k i j
          other k i j n = ap (λ (x : Board). entry x.taken k i j) e ∙ entry_other (added m b bytes) b.taken k i j (by_kind (added m b bytes) k i j n)

          at : Sort m b bytes → Closed P (c ∷ h) p
          at (seat T S v w x y) = on_from (ih (omega (arith, q))) g en et (λ k i j lo hi. other k i j (λ (z : kind_number (added m b bytes).kind ≡ kind_number k). omega (arith, q)))
          at (close T k C v w x) =
              elim (cases_lt p (starts b.taken)) [
                | inl r ↦ on_from (ih r) g en et (λ k i j lo hi. other k i j (λ (z : kind_number (added m b bytes).kind ≡ kind_number k). omega (arith, q)))
                | inr r ↦
                    record {
                      past = h;
                      bytes = bytes;
                      prior = inr (prior_self h);
                      none = f;
                      is_close = T.number ∙ ap kind_number k;
                      holds = a.0 bytes d f;
                      closing = C;
                      in_that_phase = omega (arith, q);
                      custodians = sym g;
                      n = sym en;
                      t = sym et;
                      same = λ k i j lo hi. sym (other k i j (λ (z : kind_number (added m b bytes).kind ≡ kind_number k). omega (arith, q)));
                    }
              ]

  pub anything : (calls : List Call) → EachPosted m made (λ _ _. Unit {0}) calls
  anything [] = tt
  anything (c ∷ h) = (λ _ _ _. tt, anything h)
