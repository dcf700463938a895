-- What the tests of a taken record, and of an opening, imply.
use Rattle.std.proofs.Common.{◌≡◌, ℕ, ◌+◌, ◌*◌, ◌<◌, ◌≤◌, true, not, ◌&&◌, eqb, leb, List, length, Some, None, Option, sym, refl, ap, ◌∙◌, subst, inl, inr, arith, length-drop, length-take}
use Rattle.std.specs.List.{AllByRecursion}
use Rattle.std.proofs.lemmas.Bool.{and_parts, or_cases, eqb-true, leb-true, ltb-true, eq-eqb, not-true}
use Rattle.group.specs.Meaning.{Meaning}
use Rattle.protocol.specs.declared.kind.Kind.{Kind}
use Rattle.protocol.specs.declared.kind.Kind.TheVariants as kinds
use Rattle.protocol.specs.Seats.{is_seat}
use Rattle.protocol.specs.Record.{Posted, kind_number, kind_with, kind_field, length_field, writer_of, read_record}
use Rattle.protocol.specs.Board.{Board, phase_of, phase_number, starts, all_revealed}
use Rattle.protocol.specs.Refusals.{phase_test, seat_test, tests_of, tests_for, posting_fault, opening_fault, opened, n_field, t_field, label_field, kind_or}
use Rattle.protocol.proofs.Counting.{clash, none_some, seat_parts}
use Rattle.protocol.proofs.Faults.{passed, unless_true}
use Rattle.protocol.proofs.Entries.{Middle, kind_number_lem}

abbrev pub Silent : Meaning → Board → List ℕ → Kind → Type 0
Silent m b bytes kind = AllByRecursion (λ f. f ≡ None) (tests_of m b bytes kind)

-- a taken record: its kind, and no test says anything
pub record Took (m : Meaning) (b : Board) (bytes : List ℕ) : Type 0 where
  pub kind : Kind
  pub named : kind_with (kind_field bytes) ≡ Some kind
  pub number : kind_field bytes ≡ kind_number kind
  pub silent : Silent m b bytes kind

pub took : (m : Meaning) (b : Board) (bytes : List ℕ) → posting_fault m b bytes ≡ None → Took m b bytes
unfolding posting_fault
took m b bytes e = go (kind_with (kind_field bytes)) refl (passed _ e).1.1
  where
    go : (o : Option Kind) → kind_with (kind_field bytes) ≡ o → AllByRecursion (λ f. f ≡ None) (tests_for m b bytes o) → Took m b bytes
    go None q a = none_some _ (sym a.0)
    go (Some kind) q a = record { kind = kind; named = q; number = kind_number_lem (kind_field bytes) kind q; silent = a }

-- the record that it adds
abbrev pub added : Meaning → Board → List ℕ → Posted
added m b bytes = read_record m b.t (kind_or kinds.Close (kind_with (kind_field bytes))) bytes

pub added_is : (m : Meaning) (b : Board) (bytes : List ℕ) (T : Took m b bytes) → added m b bytes ≡ read_record m b.t T.kind bytes
added_is m b bytes T = ap (λ (o : Option Kind). read_record m b.t (kind_or kinds.Close o) bytes) T.named

pub read_kind : (m : Meaning) (t : ℕ) (k : Kind) (bytes : List ℕ) → (read_record m t k bytes).kind ≡ k
read_kind m t kinds.Opening bytes = refl
read_kind m t kinds.Deal bytes = refl
read_kind m t kinds.Complaint bytes = refl
read_kind m t kinds.Answer bytes = refl
read_kind m t kinds.Exposure bytes = refl
read_kind m t kinds.Objection bytes = refl
read_kind m t kinds.Reveal bytes = refl
read_kind m t kinds.Close bytes = refl
read_kind m t kinds.Letter bytes = refl
read_kind m t kinds.Sheet bytes = refl

pub read_writer : (m : Meaning) (t : ℕ) (k : Kind) (bytes : List ℕ) → (read_record m t k bytes).writer ≡ writer_of bytes
read_writer m t kinds.Opening bytes = refl
read_writer m t kinds.Deal bytes = refl
read_writer m t kinds.Complaint bytes = refl
read_writer m t kinds.Answer bytes = refl
read_writer m t kinds.Exposure bytes = refl
read_writer m t kinds.Objection bytes = refl
read_writer m t kinds.Reveal bytes = refl
read_writer m t kinds.Close bytes = refl
read_writer m t kinds.Letter bytes = refl
read_writer m t kinds.Sheet bytes = refl

pub added_kind : (m : Meaning) (b : Board) (bytes : List ℕ) (T : Took m b bytes) → (added m b bytes).kind ≡ T.kind
added_kind m b bytes T = ap (λ (r : Posted). r.kind) (added_is m b bytes T) ∙ read_kind m b.t T.kind bytes

-- a record of a seat
pub record BySeat (m : Meaning) (b : Board) (bytes : List ℕ) (kind : Kind) : Type 0 where
  pub home : phase_number (phase_of m b) + 1 ≡ kind_number kind
  pub middle : Middle kind
  pub seated : is_seat b.n (writer_of bytes) ≡ true

-- what the tests of phase and seat say of it
seat_posts : (m : Meaning) (b : Board) (bytes : List ℕ) (kind : Kind) → 2 ≤ kind_number kind → kind_number kind ≤ 7
    → phase_test m b kind ≡ None → seat_test b (writer_of bytes) 4 ≡ None → BySeat m b bytes kind
seat_posts m b bytes kind low high phase seat =
    record { home = eqb-true _ _ (unless_true _ _ phase); middle = record { low = low; high = high }; seated = unless_true _ _ seat }

pub by_seat : (m : Meaning) (b : Board) (bytes : List ℕ) (kind : Kind) → Silent m b bytes kind → (kind_number kind ≡ 8 → ⊥) → BySeat m b bytes kind
unfolding tests_of
by_seat m b bytes kinds.Opening a n = none_some _ (sym a.0)
by_seat m b bytes kinds.Deal a n = seat_posts m b bytes kinds.Deal (omega arith) (omega arith) a.1.0 a.1.1.0
by_seat m b bytes kinds.Complaint a n = seat_posts m b bytes kinds.Complaint (omega arith) (omega arith) a.1.0 a.1.1.0
by_seat m b bytes kinds.Answer a n = seat_posts m b bytes kinds.Answer (omega arith) (omega arith) a.1.0 a.1.1.0
by_seat m b bytes kinds.Exposure a n = seat_posts m b bytes kinds.Exposure (omega arith) (omega arith) a.1.0 a.1.1.0
by_seat m b bytes kinds.Objection a n = seat_posts m b bytes kinds.Objection (omega arith) (omega arith) a.1.0 a.1.1.0
by_seat m b bytes kinds.Reveal a n = seat_posts m b bytes kinds.Reveal (omega arith) (omega arith) a.1.0 a.1.1.0
by_seat m b bytes kinds.Close a n = absurd (n refl)
by_seat m b bytes kinds.Letter a n = none_some _ (sym a.0)
by_seat m b bytes kinds.Sheet a n = none_some _ (sym a.0)

-- a Close ends one of the phases 1 to 6, the last only when all is revealed
pub record Closing (m : Meaning) (b : Board) : Type 0 where
  pub low : 1 ≤ phase_number (phase_of m b)
  pub high : phase_number (phase_of m b) ≤ 6
  pub revealed : phase_number (phase_of m b) ≡ 6 → all_revealed m b ≡ true

closing_as : (m : Meaning) (b : Board) (bytes : List ℕ) (kind : Kind) → Silent m b bytes kind → kind ≡ kinds.Close → Closing m b
unfolding tests_of
closing_as m b bytes kind a e =
    let s : Silent m b bytes kinds.Close = subst (λ (k : Kind). Silent m b bytes k) e a in
    let phase = phase_number (phase_of m b) in
    let p = and_parts (leb 1 phase) (leb phase 6) (unless_true _ _ s.1.0) in
    record {
      low = leb-true _ _ p.0;
      high = leb-true _ _ p.1;
      revealed = λ six. elim (or_cases (not (eqb phase 6)) (all_revealed m b) (unless_true _ _ s.1.1.1.0)) [
        | inl n ↦ clash (eqb phase 6) (eq-eqb _ _ six) (not-true _ n)
        | inr y ↦ y
      ];
    }

pub closing : (m : Meaning) (b : Board) (bytes : List ℕ) (T : Took m b bytes) → T.kind ≡ kinds.Close → Closing m b
closing m b bytes T e = closing_as m b bytes T.kind T.silent e

-- an opening
pub record Opens (m : Meaning) (b : Board) (bytes : List ℕ) : Type 0 where
  pub before : phase_number (phase_of m b) ≡ 0
  pub few : 2 * t_field bytes < n_field bytes
  pub small : n_field bytes ≤ 32
  pub long : length (label_field bytes) ≡ 16

pub opens : (m : Meaning) (b : Board) (area : ℕ) (bytes : List ℕ) → opening_fault m b area bytes ≡ None → Opens m b bytes
unfolding opening_fault
opens m b area bytes e =
    let a = passed _ e in
    let f = and_parts (leb 4 (length bytes)) (leb 2 (length_field bytes) && eqb (2 + length_field bytes) (length bytes)) (unless_true _ _ a.0) in
    let whole : 2 + length_field bytes ≡ length bytes = eqb-true _ _ (and_parts (leb 2 (length_field bytes)) (eqb (2 + length_field bytes) (length bytes)) f.1).1 in
    let field : length_field bytes ≡ 22 = eqb-true _ _ (unless_true _ _ a.1.1.0) in
    record {
      before = eqb-true _ _ (unless_true _ _ a.1.1.1.0);
      few = ltb-true _ _ (unless_true _ _ a.1.1.1.1.1.1.0);
      small = (seat_parts 32 (n_field bytes) (unless_true _ _ a.1.1.1.1.1.0)).1;
      long = simp (length-take, length-drop) (omega arith);
    }

pub opened_starts : (bytes : List ℕ) → starts (opened bytes).taken ≡ 1
unfolding starts
opened_starts bytes = refl
