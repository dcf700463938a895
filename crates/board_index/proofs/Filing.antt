-- A record of a kind 2 to 7 is taken: there is room for it, and what is kept of the ceremony is kept.
use Rattle.std.proofs.Common.{◌≡◌, ℕ, ◌+◌, ◌^◌, ◌<◌, ◌≤◌, Bool, true, false, List, ◌++◌, length, set, is_some, Some, None, Option, sym, refl, ap, ◌∙◌, subst, ap₂, arith, length-append, length-set, length-take-le}
use lib.Seq.{length-paste}
use Rattle.std.proofs.lemmas.Bool.{eq-eqb, and_from}
use Rattle.group.specs.Meaning.{Meaning, Lawful}
use Rattle.protocol.specs.declared.kind.Kind.{Kind}
use Rattle.protocol.specs.declared.kind.Kind.TheVariants as kinds
use Rattle.protocol.specs.Seats.{holds}
use Rattle.protocol.specs.Record.{Posted, kind_number, layout_of, read_record}
use Rattle.protocol.specs.Board.{Board, is_by, entry, has, share_in, passes1, answered}
use Rattle.protocol.specs.Refusals.{posted}
use Rattle.protocol.proofs.Counting.{clash}
use Rattle.protocol.proofs.Entries.{kind_same, by_parts, entry_other, entry_this}
use Rattle.protocol.proofs.Taking.{added}
use Rattle.protocol.proofs.Unchanged.{passes1_same}
use Rattle.board_index.specs.State.{State, filled, board_of, is_indexed, slot, look, truth_at, noted_truths, filed_at}
use Rattle.board_index.specs.Room.{may_name, record_size, left}
use Rattle.board_index.specs.Kept.{Stored, Indexed, Kept}
use Rattle.board_index.specs.Deeds.{Files}
use Rattle.board_index.proofs.Leaving.{left_filed, area_narrow, named_low}
use Rattle.board_index.proofs.Looking.{Apart, look_same, look_other, truth_same, noted_length, noted_other}
use Rattle.board_index.proofs.JoinedCodes.{codes_right, judged_right, codes_read}
use Rattle.board_index.proofs.Keeping.{kept_as}
use Rattle.board_index.proofs.Passing.{Fits, fits}
use Rattle.board_index.proofs.SamePhase.{same_entries, starts_still, phase_still}
use Rattle.board_index.proofs.Posting as posting

none_of : {A : Type 0} (o : Option A) → is_some o ≡ false → o ≡ None
none_of None e = refl
none_of (Some a) e = clash true refl e

by_from : (r : Posted) (k : Kind) (i j : ℕ) → kind_number r.kind ≡ kind_number k → r.writer ≡ i → r.second ≡ j → is_by r k i j ≡ true
by_from r k i j a b c = and_from _ _ (eq-eqb _ _ a) (and_from _ _ (eq-eqb _ _ b) (eq-eqb _ _ c))

module _ (m : Meaning) (laws : Lawful m) (s : State) (bytes : List ℕ) (kind : Kind) (i j : ℕ) (truth : Bool) (k : Kept m s) (f : Files m s bytes kind i j truth) where
  abbrev before : Board
  before = board_of m s

  abbrev after : Board
  after = posted m (board_of m s) bytes

  abbrev new : Posted
  new = added m (board_of m s) bytes

  T : posting.Takes m before bytes kind
  T = posting.takes m before bytes kind f.taken f.is

  F : Fits m before bytes kind
  F = fits m before bytes kind f.indexed T.silent

  pub file_board : board_of m (filed_at s bytes kind i j truth) ≡ posted m (board_of m s) bytes
  file_board = posting.board_after_lem m s bytes k kind T

  -- The record: its size, and the key under which it is entered.

  size : length bytes ≡ record_size m before.t kind
  size = let field = F.long in omega (arith, T.alone)

  named : may_name before.n kind i j ≡ true
  named = ap₂ (may_name before.n kind) (sym f.writer) (sym f.second) ∙ F.named

  absent : has before.taken kind i j ≡ false
  absent = ap₂ (has before.taken kind) (sym f.writer) (sym f.second) ∙ F.fresh

  number : kind_number new.kind ≡ kind_number kind
  number = ap kind_number (posting.added_kind m before bytes kind T)

  writer : new.writer ≡ i
  writer = posting.added_writer m before bytes kind T ∙ f.writer

  second : new.second ≡ j
  second = ap (λ (r : Posted). r.second) (posting.added_is m before bytes kind T) ∙ f.second

  entered : entry after.taken kind i j ≡ Some (read_record m before.t kind bytes).codes
  entered =
      entry_this new before.taken kind i j (by_from new kind i j number writer second) (none_of _ absent)
      ∙ ap (λ (r : Posted). Some r.codes) (posting.added_is m before bytes kind T)

  low : (i ≤ 32) × (j ≤ 32)
  low = let p = named_low before.n kind i j named in (omega (arith, p.0, k.n, k.few), omega (arith, p.1, k.n, k.few))

  -- every other key
  other_by : (x : Kind) (y z : ℕ) → Apart x y z kind i j → is_by new x y z ≡ false
  other_by x y z apart = go (is_by new x y z) refl
    where
      go : (this : Bool) → is_by new x y z ≡ this → this ≡ false
      go true e = let p = by_parts new x y z e in absurd (apart (sym p.0 ∙ number) (sym p.1 ∙ writer) (sym p.2 ∙ second))
      go false e = refl

  -- Room.

  less : left m after + record_size m before.t kind ≡ left m before
  less =
      left_filed m before after kind i j f.indexed refl refl (starts_still m before bytes kind T f.indexed) named absent (ap is_some entered)
      (λ x y z indexed apart. ap is_some (entry_other new before.taken x y z (other_by x y z apart)))

  pub file_room : s.used + length bytes ≤ length s.area
  file_room = let o = posting.is_open m s bytes k kind T in omega (arith, less, size, o.room, o.area)

  pub file_slot : (i ≤ 32) × (j ≤ 32) × (s.used < 2 ^ 32)
  file_slot =
      let o = posting.is_open m s bytes k kind T in
      (low.0, low.1, omega (arith, o.room, area_narrow m laws s.n s.t k.few k.low))

  -- The index.

  long : length (filled s) ≡ s.used
  long = length-take-le s.used s.area k.fits

  stored : Stored m after (filled s ++ bytes) kind i j s.used
  stored = subst (Stored m after (filled s ++ bytes) kind i j) long (record {
    codes = entered ∙ ap (λ (x : List ℕ). Some x) (codes_read m before.t kind (layout_of kind) bytes ∙ sym (codes_right m before.t (filled s) bytes (layout_of kind)));
    within = omega (arith, length-append (filled s) bytes, size);
    judged = judged_right m before.t (filled s) bytes (layout_of kind) F.judged;
  })

  abbrev Has : Kind → ℕ → ℕ → Type 0
  Has x y z = Indexed m after (filled s ++ bytes) x y z (look (set s.places (slot kind i j) s.used) x y z)

  index_here : Has kind i j
  unfolding Indexed
  index_here =
      let used = (posting.is_open m s bytes k kind T).opening in
      subst (Indexed m after (filled s ++ bytes) kind i j) (sym (look_same s.places kind i j s.used k.places f.indexed low.0 low.1 (omega arith))) stored

  index_after : (x : Kind) (y z : ℕ) → is_indexed x ≡ true → Has x y z
  index_after x y z indexed = go (is_by new x y z) refl
    where
      go : (this : Bool) → is_by new x y z ≡ this → Has x y z
      go true e =
          let p = by_parts new x y z e in
          let same : kind ≡ x = kind_same kind x (sym number ∙ p.0) in
          subst (λ (v : ℕ). Has x y v) (sym second ∙ p.2) (subst (λ (v : ℕ). Has x v j) (sym writer ∙ p.1) (subst (λ (v : Kind). Has v i j) same index_here))
      go false e =
          let apart : Apart x y z kind i j = λ a b c. clash (is_by new x y z) (by_from new x y z (number ∙ sym a) (writer ∙ sym b) (second ∙ sym c)) e in
          subst (Indexed m after (filled s ++ bytes) x y z) (sym (look_other s.places kind i j s.used x y z f.indexed low.0 low.1 indexed apart))
          (posting.indexed_still m before bytes kind T (filled s) x y z e (look s.places x y z) (k.index x y z indexed))

  -- The Answers.

  true_here : kind ≡ kinds.Answer → truth_at (noted_truths kind s.truths i j truth) i j ≡ answered m after i j
  unfolding answered
  true_here is =
      let codes = (read_record m before.t kinds.Answer bytes).codes in
      let entry_is : entry after.taken kinds.Answer i j ≡ Some codes = subst (λ (x : Kind). entry after.taken x i j ≡ Some (read_record m before.t x bytes).codes) is entered in
      ap (λ (x : Kind). truth_at (noted_truths x s.truths i j truth) i j) is
      ∙ truth_same s.truths i j truth k.truths low.0 low.1
      ∙ f.true_answer is
      ∙ sym (ap (λ (o : Option (List ℕ)). holds o (λ x. passes1 m after i j (share_in x))) entry_is
      ∙ passes1_same m after before (same_entries m before bytes kind T kinds.Deal (λ e. omega (arith, ap kind_number is))) i j (share_in codes))

  true_after : (y z : ℕ) → truth_at (noted_truths kind s.truths i j truth) y z ≡ answered m after y z
  true_after y z = go (is_by new kinds.Answer y z) refl
    where
      go : (this : Bool) → is_by new kinds.Answer y z ≡ this → truth_at (noted_truths kind s.truths i j truth) y z ≡ answered m after y z
      go true e =
          let p = by_parts new kinds.Answer y z e in
          let same : kind ≡ kinds.Answer = kind_same kind kinds.Answer (sym number ∙ p.0) in
          let i_is : i ≡ y = sym writer ∙ p.1 in
          let j_is : j ≡ z = sym second ∙ p.2 in
          subst (λ (v : ℕ). truth_at (noted_truths kind s.truths i j truth) y v ≡ answered m after y v) j_is
          (subst (λ (v : ℕ). truth_at (noted_truths kind s.truths i j truth) v j ≡ answered m after v j) i_is (true_here same))
      go false e =
          let apart : Apart kinds.Answer y z kind i j = λ a b c. clash (is_by new kinds.Answer y z) (by_from new kinds.Answer y z (number ∙ sym a) (writer ∙ sym b) (second ∙ sym c)) e in
          noted_other kind s.truths i j truth y z low.0 low.1 apart
          ∙ k.true_answers y z
          ∙ posting.answered_still m before bytes kind T k.complaints k.answers y z e

  pub file_kept : Kept m (filed_at s bytes kind i j truth)
  file_kept =
      let o = posting.is_open m s bytes k kind T in
      let area_size = length-paste s.area s.used bytes (length bytes) file_room (omega arith) in
      kept_as m (filed_at s bytes kind i j truth) after (filled s ++ bytes) file_board (posting.filled_behind m s bytes k) (record {
        fits = omega (arith, file_room);
        records = posting.records_after_lem m s bytes k kind T;
        n = k.n;
        t = k.t;
        phase = k.phase ∙ sym (phase_still m before bytes kind T f.indexed);
        few = k.few;
        low = k.low;
        places = length-set s.places (slot kind i j) s.used ∙ k.places;
        truths = noted_length kind s.truths i j truth ∙ k.truths;
        index = index_after;
        true_answers = true_after;
        complaints = posting.complaints_after m before bytes kind T k.complaints k.answers;
        answers = posting.answers_after m before bytes kind T k.complaints k.answers;
        started = omega (arith, starts_still m before bytes kind T f.indexed, o.started);
        opening = omega (arith, o.opening);
        room = omega (arith, o.room, less, size);
        area = omega (arith, o.area);
      })
