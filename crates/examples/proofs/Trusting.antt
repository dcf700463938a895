-- A test of a history. Where it passes, the seats 1 to k are faithful, and the custodian of each has the seat's number.
use Rattle.std.proofs.Common.{◌≡◌, ℕ, Bool, true, false, cond, not, ◌&&◌, ◌||◌, eqb, List, [], ◌∷◌, is_some, Some, None, Option, sym, refl, ap, ◌∙◌, inl, inr}
use Rattle.std.proofs.lemmas.Bool.{cases_Bool, and_parts, or_cases, eqb-true, eq-eqb, not-true, cond-true, cond-false}
use Rattle.group.specs.Meaning.{Meaning}
use Rattle.protocol.specs.declared.phase.Phase.{Phase}
use Rattle.protocol.specs.declared.phase.Phase.TheVariants.{Dealing}
use Rattle.protocol.specs.declared.fault.CustodianFault.{CustodianFault}
use Rattle.protocol.specs.Seats.{is_seat, every, holds, mapped}
use Rattle.protocol.specs.Record.{kind_field, writer_of}
use Rattle.protocol.specs.Board.{Board, phase_of, phase_number}
use Rattle.protocol.specs.Custodian.{Custodian, in_phase, seating_fault, seated, writing_fault, write_letter, letter_to, taking_fault, read_letter, with_letter, owing_fault, owed_bytes, owed, same_bytes}
use Rattle.protocol.specs.History.{Call, Open, Post, SeatAt, WriteLetter, TakeLetter, Owe, DrawSheet, Recover, Made, State, with_custodian, unless_refused, after_call, after, DrewUp, Wrote, EachPosted, EachLetter, IsClose, Faithful}
use Rattle.protocol.proofs.Counting.{clash, seat_parts, every_is, some_of, none_some, same_some, holds_true}
use Rattle.protocol.proofs.Faults.{mapped_some}
use Rattle.protocol.proofs.SheetBytes.{same_bytes_lem}

-- The tests.

-- the call has the custodian k draw up these bytes of a record
abbrev draws_up : Meaning → State → ℕ → List ℕ → Call → Bool
draws_up m state k bytes (Open other) = false
draws_up m state k bytes (Post other) = false
draws_up m state k bytes (SeatAt j seat coefficients) = false
draws_up m state k bytes (WriteLetter j addressee room) = false
draws_up m state k bytes (TakeLetter j other) = false
draws_up m state k bytes (Owe j room) =
    eqb j k && (not (is_some (owing_fault m state.board (state.custodians k) room)) && holds (owed_bytes m state.board (state.custodians k)) (λ drawn. same_bytes drawn bytes))
draws_up m state k bytes (DrawSheet j room) = false
draws_up m state k bytes (Recover scratch other) = false

unfoldable pub drew_up : Meaning → Made → List Call → ℕ → List ℕ → Bool
drew_up m made [] k bytes = false
drew_up m made (call ∷ earlier) k bytes = draws_up m (after m made earlier) k bytes call || drew_up m made earlier k bytes

-- the call has the custodian k write these bytes of a letter
abbrev writes : Meaning → State → ℕ → List ℕ → Call → Bool
writes m state k bytes (Open other) = false
writes m state k bytes (Post other) = false
writes m state k bytes (SeatAt j seat coefficients) = false
writes m state k bytes (WriteLetter j addressee room) =
    eqb j k && holds (state.custodians k)
    (λ c. not (is_some (writing_fault m state.board (Some c) addressee room)) && same_bytes bytes (write_letter m (letter_to m state.board c addressee)))
writes m state k bytes (TakeLetter j other) = false
writes m state k bytes (Owe j room) = false
writes m state k bytes (DrawSheet j room) = false
writes m state k bytes (Recover scratch other) = false

unfoldable pub wrote : Meaning → Made → List Call → ℕ → List ℕ → Bool
wrote m made [] k bytes = false
wrote m made (call ∷ earlier) k bytes = writes m (after m made earlier) k bytes call || wrote m made earlier k bytes

abbrev owes_nothing : Meaning → Board → Option Custodian → Bool
owes_nothing m b None = true
owes_nothing m b (Some c) = not (is_some (owed m b c))

-- none of the custodians 1 to k owes anything
abbrev quiet : Meaning → State → ℕ → Bool
quiet m state k = every k (λ i. owes_nothing m state.board (state.custodians i))

-- in phase 1, each of them has the letter of every other
abbrev heard_all : Meaning → State → ℕ → Bool
heard_all m state k =
    not (in_phase m state.board Dealing) || every k (λ i. every k (λ j. eqb i j || holds (state.custodians j) (λ c. is_some (c.letters i))))

-- the call keeps the rules for the seats 1 to k
abbrev allowed : Meaning → Made → ℕ → List Call → Call → Bool
allowed m made k earlier (Open bytes) = true
allowed m made k earlier (Post bytes) =
    cond (eqb (kind_field bytes) 8) (quiet m (after m made earlier) k && heard_all m (after m made earlier) k)
    (not (is_seat k (writer_of bytes)) || drew_up m made earlier (writer_of bytes) bytes)
allowed m made k earlier (SeatAt j seat coefficients) = eqb j seat
allowed m made k earlier (WriteLetter j addressee room) = true
allowed m made k earlier (TakeLetter j bytes) = not (is_seat k (read_letter m bytes).writer) || wrote m made earlier (read_letter m bytes).writer bytes
allowed m made k earlier (Owe j room) = true
allowed m made k earlier (DrawSheet j room) = true
allowed m made k earlier (Recover scratch bytes) = true

unfoldable pub all_allowed : Meaning → Made → ℕ → List Call → Bool
all_allowed m made k [] = true
all_allowed m made k (call ∷ earlier) = allowed m made k earlier call && all_allowed m made k earlier

-- What they say.

none_of : {A : Type 0} (o : Option A) → not (is_some o) ≡ true → o ≡ None
none_of None e = refl
none_of (Some a) e = clash false e refl

draws_up_lem : (m : Meaning) (state : State) (k : ℕ) (bytes : List ℕ) (call : Call) → draws_up m state k bytes call ≡ true
    → (room : ℕ) × (call ≡ Owe k room) × (owing_fault m state.board (state.custodians k) room ≡ None) × (owed_bytes m state.board (state.custodians k) ≡ Some bytes)
draws_up_lem m state k bytes (Open other) e = clash false e refl
draws_up_lem m state k bytes (Post other) e = clash false e refl
draws_up_lem m state k bytes (SeatAt j seat coefficients) e = clash false e refl
draws_up_lem m state k bytes (WriteLetter j addressee room) e = clash false e refl
draws_up_lem m state k bytes (TakeLetter j other) e = clash false e refl
draws_up_lem m state k bytes (Owe j room) e =
    let p = and_parts _ _ e in
    let q = and_parts _ _ p.1 in
    let h = holds_true (owed_bytes m state.board (state.custodians k)) (λ drawn. same_bytes drawn bytes) q.1 in
    (room, ap (λ (x : ℕ). Owe x room) (eqb-true j k p.0), none_of _ q.0, h.1 ∙ ap (λ (x : List ℕ). Some x) (same_bytes_lem h.0 bytes h.2))
draws_up_lem m state k bytes (DrawSheet j room) e = clash false e refl
draws_up_lem m state k bytes (Recover scratch other) e = clash false e refl

drew_up_lem : (m : Meaning) (made : Made) (calls : List Call) (k : ℕ) (bytes : List ℕ) → drew_up m made calls k bytes ≡ true → DrewUp m made calls k bytes
unfolding drew_up
drew_up_lem m made [] k bytes e = clash false e refl
drew_up_lem m made (call ∷ earlier) k bytes e =
    elim (or_cases (draws_up m (after m made earlier) k bytes call) (drew_up m made earlier k bytes) e) [
      | inl now ↦ inl (draws_up_lem m (after m made earlier) k bytes call now)
      | inr before ↦ inr (drew_up_lem m made earlier k bytes before)
    ]

has_written : (m : Meaning) (state : State) (k : ℕ) (bytes : List ℕ) (call : Call) → writes m state k bytes call ≡ true
    → (addressee : ℕ) × (room : ℕ) × (c : Custodian) × (call ≡ WriteLetter k addressee room) × (state.custodians k ≡ Some c)
    × (writing_fault m state.board (Some c) addressee room ≡ None) × (bytes ≡ write_letter m (letter_to m state.board c addressee))
has_written m state k bytes (Open other) e = clash false e refl
has_written m state k bytes (Post other) e = clash false e refl
has_written m state k bytes (SeatAt j seat coefficients) e = clash false e refl
has_written m state k bytes (WriteLetter j addressee room) e =
    let p = and_parts _ _ e in
    let h = holds_true (state.custodians k)
    (λ c. not (is_some (writing_fault m state.board (Some c) addressee room)) && same_bytes bytes (write_letter m (letter_to m state.board c addressee))) p.1 in
    let q = and_parts _ _ h.2 in
    (addressee, room, h.0, ap (λ (x : ℕ). WriteLetter x addressee room) (eqb-true j k p.0), h.1, none_of _ q.0, same_bytes_lem _ _ q.1)
has_written m state k bytes (TakeLetter j other) e = clash false e refl
has_written m state k bytes (Owe j room) e = clash false e refl
has_written m state k bytes (DrawSheet j room) e = clash false e refl
has_written m state k bytes (Recover scratch other) e = clash false e refl

had_written : (m : Meaning) (made : Made) (calls : List Call) (k : ℕ) (bytes : List ℕ) → wrote m made calls k bytes ≡ true → Wrote m made calls k bytes
unfolding wrote
had_written m made [] k bytes e = clash false e refl
had_written m made (call ∷ earlier) k bytes e =
    elim (or_cases (writes m (after m made earlier) k bytes call) (wrote m made earlier k bytes) e) [
      | inl now ↦ inl (has_written m (after m made earlier) k bytes call now)
      | inr before ↦ inr (had_written m made earlier k bytes before)
    ]

each_posted : (m : Meaning) (made : Made) (k : ℕ) (P : List Call → List ℕ → Type 0)
    → ((earlier : List Call) (bytes : List ℕ) → allowed m made k earlier (Post bytes) ≡ true → P earlier bytes)
    → (calls : List Call) → all_allowed m made k calls ≡ true → EachPosted m made P calls
unfolding all_allowed
each_posted m made k P f [] e = tt
each_posted m made k P f (call ∷ earlier) e =
    let p = and_parts (allowed m made k earlier call) (all_allowed m made k earlier) e in
    (λ bytes is taken. f earlier bytes (ap (allowed m made k earlier) (sym is) ∙ p.0), each_posted m made k P f earlier p.1)

each_letter : (m : Meaning) (made : Made) (k : ℕ) (P : List Call → List ℕ → Type 0)
    → ((earlier : List Call) (j : ℕ) (bytes : List ℕ) → allowed m made k earlier (TakeLetter j bytes) ≡ true → P earlier bytes)
    → (calls : List Call) → all_allowed m made k calls ≡ true → EachLetter m made P calls
unfolding all_allowed
each_letter m made k P f [] e = tt
each_letter m made k P f (call ∷ earlier) e =
    let p = and_parts (allowed m made k earlier call) (all_allowed m made k earlier) e in
    (λ j bytes is taken. f earlier j bytes (ap (allowed m made k earlier) (sym is) ∙ p.0), each_letter m made k P f earlier p.1)

-- Every custodian sits at the seat of its number.

abbrev OwnSeats : State → Type 0
OwnSeats state = (j : ℕ) (c : Custodian) → state.custodians j ≡ Some c → c.seat ≡ j

own_seats_more : (m : Meaning) (made : Made) (k : ℕ) (earlier : List Call) (call : Call) → allowed m made k earlier call ≡ true → OwnSeats (after m made earlier) → OwnSeats (after_call m made (after m made earlier) call)
unfolding after_call
own_seats_more m made k earlier (Open bytes) a ih j c e = ih j c e
own_seats_more m made k earlier (Post bytes) a ih j c e = ih j c e
own_seats_more m made k earlier (SeatAt i seat coefficients) a ih j c e = go (seating_fault m state.board (state.custodians i) (made.store i) seat coefficients) (eqb j i) refl e
  where
    state : State
    state = after m made earlier

    new : Custodian
    new = seated m state.board seat coefficients

    go : (o : Option CustodianFault) (d : Bool) → eqb j i ≡ d → (unless_refused o (with_custodian state i (Some new)) state).custodians j ≡ Some c → c.seat ≡ j
    go (Some f) d q e = ih j c e
    go None true q e =
        let w : new ≡ c = same_some new c (sym (cond-true _ _ _ q) ∙ e) in
        sym (ap (λ (x : Custodian). x.seat) w) ∙ sym (eqb-true i seat a) ∙ sym (eqb-true j i q)
    go None false q e = ih j c (sym (cond-false _ _ _ q) ∙ e)
own_seats_more m made k earlier (WriteLetter i addressee room) a ih j c e = ih j c e
own_seats_more m made k earlier (TakeLetter i bytes) a ih j c e = go (taking_fault m state.board (state.custodians i) bytes) (eqb j i) refl e
  where
    state : State
    state = after m made earlier

    go : (o : Option CustodianFault) (d : Bool) → eqb j i ≡ d
        → (unless_refused o (with_custodian state i (mapped (with_letter (read_letter m bytes)) (state.custodians i))) state).custodians j ≡ Some c → c.seat ≡ j
    go (Some f) d q e = ih j c e
    go None true q e =
        let w = mapped_some (with_letter (read_letter m bytes)) (state.custodians i) c (sym (cond-true _ _ _ q) ∙ e) in
        sym (ap (λ (x : Custodian). x.seat) w.2) ∙ ih i w.0 w.1 ∙ sym (eqb-true j i q)
    go None false q e = ih j c (sym (cond-false _ _ _ q) ∙ e)
own_seats_more m made k earlier (Owe i room) a ih j c e = ih j c e
own_seats_more m made k earlier (DrawSheet i room) a ih j c e = ih j c e
own_seats_more m made k earlier (Recover scratch bytes) a ih j c e = ih j c e

own_seats : (m : Meaning) (made : Made) (k : ℕ) (calls : List Call) → all_allowed m made k calls ≡ true → OwnSeats (after m made calls)
unfolding all_allowed after
own_seats m made k [] a j c e = none_some c e
own_seats m made k (call ∷ earlier) a j c e =
    let p = and_parts (allowed m made k earlier call) (all_allowed m made k earlier) a in
    own_seats_more m made k earlier call p.0 (own_seats m made k earlier p.1) j c e

-- The seats 1 to k are faithful.

own_record : (m : Meaning) (made : Made) (k : ℕ) (earlier : List Call) (bytes : List ℕ) → allowed m made k earlier (Post bytes) ≡ true
    → (IsClose bytes → ⊥) → is_seat k (writer_of bytes) ≡ true → DrewUp m made earlier (writer_of bytes) bytes
own_record m made k earlier bytes a n s =
    elim (cases_Bool (eqb (kind_field bytes) 8)) [
      | inl t ↦ absurd (n (eqb-true _ _ t))
      | inr f ↦
          elim (or_cases (not (is_seat k (writer_of bytes))) (drew_up m made earlier (writer_of bytes) bytes) (sym (cond-false _ _ _ f) ∙ a)) [
            | inl x ↦ clash (is_seat k (writer_of bytes)) s (not-true _ x)
            | inr d ↦ drew_up_lem m made earlier (writer_of bytes) bytes d
          ]
    ]

own_letter : (m : Meaning) (made : Made) (k : ℕ) (earlier : List Call) (j : ℕ) (bytes : List ℕ) → allowed m made k earlier (TakeLetter j bytes) ≡ true
    → is_seat k (read_letter m bytes).writer ≡ true → Wrote m made earlier (read_letter m bytes).writer bytes
own_letter m made k earlier j bytes a s =
    elim (or_cases (not (is_seat k (read_letter m bytes).writer)) (wrote m made earlier (read_letter m bytes).writer bytes) a) [
      | inl x ↦ clash (is_seat k (read_letter m bytes).writer) s (not-true _ x)
      | inr d ↦ had_written m made earlier (read_letter m bytes).writer bytes d
    ]

at_close : (m : Meaning) (made : Made) (k : ℕ) (earlier : List Call) (bytes : List ℕ) → allowed m made k earlier (Post bytes) ≡ true → IsClose bytes
    → (quiet m (after m made earlier) k ≡ true) × (heard_all m (after m made earlier) k ≡ true)
at_close m made k earlier bytes a c =
    and_parts (quiet m (after m made earlier) k) (heard_all m (after m made earlier) k) (sym (cond-true _ _ _ (eq-eqb (kind_field bytes) 8 c)) ∙ a)

owes_nothing_lem : (m : Meaning) (made : Made) (k : ℕ) (earlier : List Call) (bytes : List ℕ) → allowed m made k earlier (Post bytes) ≡ true → IsClose bytes
    → (i : ℕ) → is_seat k i ≡ true → (c : Custodian) → (after m made earlier).custodians i ≡ Some c → owed m (after m made earlier).board c ≡ None
owes_nothing_lem m made k earlier bytes a close i s c e =
    let p = seat_parts k i s in
    let q = every_is k (λ x. owes_nothing m (after m made earlier).board ((after m made earlier).custodians x)) (at_close m made k earlier bytes a close).0 i p.0 p.1 in
    none_of _ (ap (owes_nothing m (after m made earlier).board) (sym e) ∙ q)

all_heard : (m : Meaning) (made : Made) (k : ℕ) (earlier : List Call) (bytes : List ℕ) → allowed m made k earlier (Post bytes) ≡ true → IsClose bytes
    → phase_of m (after m made earlier).board ≡ Dealing → (i j : ℕ) → is_seat k i ≡ true → is_seat k j ≡ true → (i ≡ j → ⊥)
    → (c : Custodian) × ((after m made earlier).custodians j ≡ Some c) × (is_some (c.letters i) ≡ true)
all_heard m made k earlier bytes a close phase i j s t d =
    let state : State = after m made earlier in
    let heard : ℕ → ℕ → Bool = λ x y. eqb x y || holds (state.custodians y) (λ c. is_some (c.letters x)) in
    elim (or_cases (not (in_phase m state.board Dealing)) (every k (λ x. every k (heard x))) (at_close m made k earlier bytes a close).1) [
      | inl x ↦ clash (in_phase m state.board Dealing) (ap (λ (z : Phase). eqb (phase_number z) 1) phase) (not-true _ x)
      | inr all ↦
          let p = seat_parts k i s in
          let q = seat_parts k j t in
          let both = every_is k (heard i) (every_is k (λ x. every k (heard x)) all i p.0 p.1) j q.0 q.1 in
          elim (or_cases (eqb i j) (holds (state.custodians j) (λ c. is_some (c.letters i))) both) [
            | inl same ↦ absurd (d (eqb-true i j same))
            | inr there ↦ holds_true (state.custodians j) (λ c. is_some (c.letters i)) there
          ]
    ]

pub faithful : (m : Meaning) (made : Made) (k : ℕ) (calls : List Call) → all_allowed m made k calls ≡ true → every k (λ i. is_some ((after m made calls).custodians i)) ≡ true
    → Faithful m made calls (λ i. is_seat k i) (λ i. i)
faithful m made k calls a there = record {
  seated_one = λ i s.
      let p = seat_parts k i s in
      let c = some_of ((after m made calls).custodians i) (every_is k (λ x. is_some ((after m made calls).custodians x)) there i p.0 p.1) in
      (c.0, c.1, own_seats m made k calls a i c.0 c.1);
  no_other = λ i s j c e q. sym (own_seats m made k calls a j c e) ∙ q;
  own_records = each_posted m made k _ (own_record m made k) calls a;
  own_letters = each_letter m made k _ (own_letter m made k) calls a;
  nothing_owed = each_posted m made k _ (owes_nothing_lem m made k) calls a;
  letters_taken = each_posted m made k _ (all_heard m made k) calls a;
}
