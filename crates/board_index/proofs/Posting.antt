-- What holds of the board when a record is taken, whatever its kind.
use Rattle.std.proofs.Common.{◌≡◌, ℕ, ◌+◌, ◌≤◌, Bool, true, false, ◌⊎◌, List, [], ◌∷◌, ◌++◌, length, take, is_some, Some, None, Option, sym, refl, ap, ◌∙◌, subst, inl, inr, arith, length-append, length-take-le}
use lib.Seq.{take-length, take-paste}
use Rattle.std.proofs.lemmas.Bool.{not-true, eqb-false, cases_eq}
use Rattle.group.specs.Meaning.{Meaning}
use Rattle.sharing.specs.Commitment.{equation1}
use Rattle.protocol.specs.declared.kind.Kind.{Kind}
use Rattle.protocol.specs.declared.kind.Kind.TheVariants as kinds
use Rattle.protocol.specs.declared.phase.Phase.TheVariants.{Unopened}
use Rattle.protocol.specs.Seats.{holds}
use Rattle.protocol.specs.Record.{Posted, kind_number, kind_with, kind_field, length_field, writer_of, second_of, layout_of, read_record}
use Rattle.protocol.specs.Board.{Board, is_by, entry, has, deal_of, complained, share_in, passes1, answered, starts, phase_after, phase_of, phase_number}
use Rattle.protocol.specs.Refusals.{tests_of, posting_fault, posted}
use Rattle.protocol.proofs.Counting.{some_of}
use Rattle.protocol.proofs.Faults.{passed, unless_true}
use Rattle.protocol.proofs.Frames.{framed_long}
use Rattle.protocol.proofs.Entries.{number_kind, kind_same, by_parts, entry_other, kept}
use Rattle.protocol.proofs.Taking.{Silent, added}
use Rattle.protocol.proofs.Taking as taking
use Rattle.board_index.specs.Frames.{records_after, are_records, board_in}
use Rattle.board_index.specs.State.{State, filled, board_of, appended}
use Rattle.board_index.specs.Room.{record_size}
use Rattle.board_index.specs.Kept.{Indexed, Opened, Kept}
use Rattle.board_index.proofs.JoinedCodes.{codes_left, judged_left}
use Rattle.board_index.proofs.JoinedRecords.{records_behind, board_behind}

-- no bytes say the board of an unopened ceremony
pub unopened : (m : Meaning) (s : State) → s.used ≡ 0 → phase_of m (board_of m s) ≡ Unopened
unfolding board_in phase_of phase_after starts records_after
unopened m s none = ap (λ (k : ℕ). phase_of m (board_in m (take k s.area))) none

-- a record of a kind that is taken: the ceremony is open, the frame is whole, and no test of the kind says anything
pub record Takes (m : Meaning) (b : Board) (bytes : List ℕ) (kind : Kind) : Type 0 where
  pub started : phase_number (phase_of m b) ≡ 0 → ⊥
  pub alone : 2 + length_field bytes ≡ length bytes
  pub named : kind_with (kind_field bytes) ≡ Some kind
  pub number : kind_field bytes ≡ kind_number kind
  pub silent : Silent m b bytes kind

pub takes : (m : Meaning) (b : Board) (bytes : List ℕ) (kind : Kind) → posting_fault m b bytes ≡ None → kind_field bytes ≡ kind_number kind → Takes m b bytes kind
unfolding posting_fault
takes m b bytes kind e is =
    let tests = passed _ e in
    let T = taking.took m b bytes e in
    record {
      started = eqb-false _ 0 (not-true _ (unless_true _ _ tests.0));
      alone = (framed_long bytes (unless_true _ _ tests.1.0)).1;
      named = ap kind_with is ∙ number_kind kind;
      number = is;
      silent = subst (λ (k : Kind). Silent m b bytes k) (kind_same T.kind kind (sym T.number ∙ is)) T.silent;
    }

-- Entries.

has_after : (r : Posted) (b : List Posted) (k : Kind) (i j : ℕ) → has (b ++ r ∷ []) k i j ≡ true → (has b k i j ≡ true) ⊎ (is_by r k i j ≡ true)
has_after r b k i j e = go (is_by r k i j) refl
  where
    go : (this : Bool) → is_by r k i j ≡ this → (has b k i j ≡ true) ⊎ (is_by r k i j ≡ true)
    go true q = inr q
    go false q = inl (sym (ap is_some (entry_other r b k i j q)) ∙ e)

has_still : (r : Posted) (b : List Posted) (k : Kind) (i j : ℕ) → has b k i j ≡ true → has (b ++ r ∷ []) k i j ≡ true
has_still r b k i j e = let found = some_of (entry b k i j) e in ap is_some (kept r b k i j found.0 found.1)

module _ (m : Meaning) (b : Board) (bytes : List ℕ) (kind : Kind) (T : Takes m b bytes kind) where
  pub added_is : added m b bytes ≡ read_record m b.t kind bytes
  added_is = taking.added_is m b bytes (record { kind = kind; named = T.named; number = T.number; silent = T.silent })

  pub added_kind : (added m b bytes).kind ≡ kind
  added_kind = ap (λ (r : Posted). r.kind) added_is ∙ taking.read_kind m b.t kind bytes

  pub added_writer : (added m b bytes).writer ≡ writer_of bytes
  added_writer = ap (λ (r : Posted). r.writer) added_is ∙ taking.read_writer m b.t kind bytes

  -- an Opening is never posted
  no_opening : kind_field bytes ≡ 1 → ⊥
  no_opening one =
      let number = T.number in
      elim (cases_eq (kind_number kind) 8) [
        | inl close ↦ omega arith
        | inr other ↦ let low = (taking.by_seat m b bytes kind T.silent other).middle.low in omega arith
      ]

  -- where the record is of a kind, its tests were passed
  as_kind : (k : Kind) (i j : ℕ) → is_by (added m b bytes) k i j ≡ true → (kind ≡ k) × (writer_of bytes ≡ i) × ((read_record m b.t k bytes).second ≡ j) × Silent m b bytes k
  as_kind k i j e =
      let p = by_parts (added m b bytes) k i j e in
      let same : kind ≡ k = kind_same kind k (ap kind_number (sym added_kind) ∙ p.0) in
      let second : (read_record m b.t k bytes).second ≡ (added m b bytes).second =
      ap (λ (x : Kind). (read_record m b.t x bytes).second) (sym same) ∙ ap (λ (r : Posted). r.second) (sym added_is) in
      (same, sym added_writer ∙ p.1, second ∙ p.2, subst (λ (x : Kind). Silent m b bytes x) same T.silent)

  module _ (complaints : (i j : ℕ) → complained b j i ≡ true → is_some (deal_of b i) ≡ true) (answers : (i j : ℕ) → has b.taken kinds.Answer i j ≡ true → complained b j i ≡ true) where
    pub complaints_after : (i j : ℕ) → complained (posted m b bytes) j i ≡ true → is_some (deal_of (posted m b bytes) i) ≡ true
    unfolding tests_of
    complaints_after i j e =
        has_still (added m b bytes) b.taken kinds.Deal i 0 (
        elim (has_after (added m b bytes) b.taken kinds.Complaint j i e) [
          | inl old ↦ complaints i j old
          | inr new ↦
              let p = as_kind kinds.Complaint j i new in
              subst (λ (x : ℕ). is_some (deal_of b x) ≡ true) p.2 (unless_true _ _ p.3.1.1.1.1.1.0)
        ])

    pub answers_after : (i j : ℕ) → has (posted m b bytes).taken kinds.Answer i j ≡ true → complained (posted m b bytes) j i ≡ true
    unfolding tests_of
    answers_after i j e =
        has_still (added m b bytes) b.taken kinds.Complaint j i (
        elim (has_after (added m b bytes) b.taken kinds.Answer i j e) [
          | inl old ↦ answers i j old
          | inr new ↦
              let p = as_kind kinds.Answer i j new in
              subst (λ (x : ℕ). complained b x i ≡ true) p.2
              (subst (λ (x : ℕ). complained b (second_of bytes) x ≡ true) p.1 (unless_true _ _ p.3.1.1.1.1.1.0))
        ])

    -- a taken Answer has its Deal before it, so that a later record does not change whether it is true
    pub answered_still : (i j : ℕ) → is_by (added m b bytes) kinds.Answer i j ≡ false → answered m b i j ≡ answered m (posted m b bytes) i j
    unfolding answered passes1
    answered_still i j other =
        go (entry b.taken kinds.Answer i j) refl ∙ ap (λ (o : Option (List ℕ)). holds o (λ codes. passes1 m (posted m b bytes) i j (share_in codes))) (sym (entry_other (added m b bytes) b.taken kinds.Answer i j other))
      where
        go : (o : Option (List ℕ)) → entry b.taken kinds.Answer i j ≡ o
            → holds o (λ codes. passes1 m b i j (share_in codes)) ≡ holds o (λ codes. passes1 m (posted m b bytes) i j (share_in codes))
        go None e = refl
        go (Some codes) e =
            let deal = some_of (deal_of b i) (complaints i j (answers i j (ap is_some e))) in
            ap (λ (d : Option (List ℕ)). holds d (λ C. equation1 m C j (share_in codes))) (deal.1 ∙ sym (kept (added m b bytes) b.taken kinds.Deal i 0 deal.0 deal.1))

  -- what the index has of an entry that stays as it was
  pub indexed_still : (u : List ℕ) (k : Kind) (i j : ℕ) → is_by (added m b bytes) k i j ≡ false
      → (o : Option ℕ) → Indexed m b u k i j o → Indexed m (posted m b bytes) (u ++ bytes) k i j o
  unfolding Indexed
  indexed_still u k i j other None h = entry_other (added m b bytes) b.taken k i j other ∙ h
  indexed_still u k i j other (Some place) h =
      let within : place + record_size m b.t k ≤ length u = h.within in
      let long = length-append u bytes in
      record {
        codes = entry_other (added m b bytes) b.taken k i j other ∙ h.codes ∙ ap (λ (x : List ℕ). Some x) (sym (codes_left m b.t u bytes (layout_of k) place within));
        within = omega arith;
        judged = judged_left m b.t u bytes (layout_of k) place within ∙ h.judged;
      }

-- The bytes, where the record is put behind the others.

module _ (m : Meaning) (s : State) (bytes : List ℕ) (k : Kept m s) where
  pub filled_behind : take (s.used + length bytes) (appended s bytes) ≡ filled s ++ bytes
  filled_behind = take-paste s.area s.used bytes (length bytes) k.fits (omega arith) ∙ ap (λ (x : List ℕ). filled s ++ x) (take-length bytes)

  module _ (kind : Kind) (T : Takes m (board_of m s) bytes kind) where
    pub is_open : Opened m s
    is_open = elim k.opened [
      | inl none ↦ absurd (T.started (ap phase_number (unopened m s none)))
      | inr o ↦ o
    ]

    pub board_after_lem : board_in m (take (s.used + length bytes) (appended s bytes)) ≡ posted m (board_of m s) bytes
    board_after_lem =
        let long = length-take-le s.used s.area k.fits in
        let opening = is_open.opening in
        ap (board_in m) filled_behind
        ∙ board_behind (filled s) bytes k.records T.alone m (omega arith) (no_opening m (board_of m s) bytes kind T)

    pub records_after_lem : are_records (filled s ++ bytes) ≡ true
    records_after_lem = records_behind (filled s) bytes k.records T.alone
