-- A ceremony is made and opened: there is room for the Opening, and what is kept holds from then on.
use Rattle.std.proofs.Common.{◌≡◌, ℕ, ◌+◌, ◌≤◌, true, false, eqb, List, [], ◌∷◌, ◌++◌, map, length, take, replicate, is_some, Some, None, Option, sym, refl, ap, ◌∙◌, subst, inl, inr, arith}
use lib.ListN.{length-replicate}
use lib.Seq.{length-paste}
use Rattle.std.proofs.lemmas.Bool.{eqb-true, eq-eqb, leb-true, cond-true, cond-false}
use Rattle.group.specs.Meaning.{Meaning, Lawful}
use Rattle.protocol.specs.declared.kind.Kind.{Kind}
use Rattle.protocol.specs.declared.kind.Kind.TheVariants as kinds
use Rattle.protocol.specs.declared.phase.Phase.TheVariants.{Unopened}
use Rattle.protocol.specs.Seats.{holds}
use Rattle.protocol.specs.Record.{Posted, kind_number, kind_field, length_field}
use Rattle.protocol.specs.Board.{Board, entry, share_in, passes1, answered, starts, phase_after, phase_of}
use Rattle.protocol.specs.Refusals.{area_needed, n_field, t_field, opening_fault, opened}
use Rattle.protocol.proofs.Counting.{clash, none_some, seat_parts}
use Rattle.protocol.proofs.Entries.{by_kind}
use Rattle.protocol.proofs.Faults.{passed, unless_true}
use Rattle.protocol.proofs.Frames.{framed_long}
use Rattle.protocol.proofs.Phases.{starts_phase_lem}
use Rattle.protocol.proofs.Taking.{opens}
use Rattle.board_index.specs.Frames.{records_after, ends_after, records_in, said, board_in}
use Rattle.board_index.specs.State.{State, filled, board_of, is_indexed, look, opened_at}
use Rattle.board_index.specs.Kept.{Indexed, Kept}
use Rattle.board_index.proofs.Leaving.{left_opened}
use Rattle.board_index.proofs.Looking.{indexed_parts, look_empty, truth_empty}
use Rattle.board_index.proofs.JoinedRecords.{one_record, one_ends}
use Rattle.board_index.proofs.Keeping.{kept_as}
use Rattle.board_index.proofs.Posting.{unopened, filled_behind}

abbrev fresh : List ℕ → State
fresh area = record { area = area; used = 0; n = 0; t = 0; phase = Unopened; places = replicate 6534 0; truths = replicate 1089 false }

pub fresh_kept : (m : Meaning) (area : List ℕ) → Kept m (record { area = area; used = 0; n = 0; t = 0; phase = Unopened; places = replicate 6534 0; truths = replicate 1089 false })
unfolding board_in Indexed ends_after records_after entry answered
fresh_kept m area = record {
  fits = omega arith;
  records = refl;
  n = refl;
  t = refl;
  phase = sym (unopened m (fresh area) refl);
  few = omega arith;
  low = omega arith;
  places = length-replicate {A = ℕ} 6534 0;
  truths = length-replicate 1089 false;
  index = λ kind i j indexed. subst (Indexed m (board_of m (fresh area)) [] kind i j) (sym (look_empty kind i j indexed)) refl;
  true_answers = truth_empty;
  complaints = λ i j e. clash false e refl;
  answers = λ i j e. clash false e refl;
  opened = inl refl;
}

-- what the tests of an opening leave: a record of 24 bytes, for an unopened ceremony whose area suffices
pub record Begins (m : Meaning) (s : State) (bytes : List ℕ) : Type 0 where
  pub alone : 2 + length_field bytes ≡ length bytes
  pub kind : kind_field bytes ≡ 1
  pub long : length bytes ≡ 24
  pub unused : s.used ≡ 0
  pub nobody_less : 1 ≤ n_field bytes
  pub few : n_field bytes ≤ 32
  pub low : t_field bytes ≤ 15
  pub area : area_needed m (n_field bytes) (t_field bytes) ≤ length s.area

pub begins : (m : Meaning) (s : State) (bytes : List ℕ) → Kept m s → opening_fault m (board_of m s) (length s.area) bytes ≡ None → Begins m s bytes
unfolding opening_fault
begins m s bytes k e =
    let tests = passed _ e in
    let whole = framed_long bytes (unless_true _ _ tests.0) in
    let field : length_field bytes ≡ 22 = eqb-true _ _ (unless_true _ _ tests.1.1.0) in
    let seats = seat_parts 32 (n_field bytes) (unless_true _ _ tests.1.1.1.1.1.0) in
    let o = opens m (board_of m s) (length s.area) bytes e in
    record {
      alone = whole.1;
      kind = eqb-true _ _ (unless_true _ _ tests.1.0);
      long = omega arith;
      unused = elim k.opened [
        | inl none ↦ none
        | inr already ↦ let none = starts_phase_lem m (board_of m s) 0 o.before (omega arith) in absurd (omega (arith, already.started))
      ];
      nobody_less = seats.0;
      few = seats.1;
      low = omega (arith, o.few, seats.1);
      area = leb-true _ _ (unless_true _ _ tests.1.1.1.1.1.1.1.0);
    }

-- the board of the Opening alone
opening_board : (m : Meaning) (bytes : List ℕ) → 2 + length_field bytes ≡ length bytes → kind_field bytes ≡ 1 → board_in m bytes ≡ opened bytes
unfolding board_in
opening_board m bytes alone one =
    let taken : map (said m (t_field bytes)) (records_in bytes) ≡ (opened bytes).taken =
    ap (map (said m (t_field bytes))) (one_record bytes alone) ∙ ap (λ (r : Posted). r ∷ []) (cond-true (eqb (kind_field bytes) 1) _ _ (eq-eqb (kind_field bytes) 1 one)) in
    ap (λ (x : List Posted). record { n = n_field bytes; t = t_field bytes; label = (opened bytes).label; taken = x }) taken

opening_bytes : (m : Meaning) (s : State) (bytes : List ℕ) → Kept m s → s.used ≡ 0 → filled (opened_at s bytes) ≡ bytes
opening_bytes m s bytes k none = filled_behind m s bytes k ∙ ap (λ (n : ℕ). take n s.area ++ bytes) none

pub open_board : (m : Meaning) → Lawful m → (s : State) (bytes : List ℕ) → Kept m s → opening_fault m (board_of m s) (length s.area) bytes ≡ None
    → board_of m (opened_at s bytes) ≡ opened bytes
open_board m laws s bytes k e =
    let B = begins m s bytes k e in
    ap (board_in m) (opening_bytes m s bytes k B.unused) ∙ opening_board m bytes B.alone B.kind

pub open_room : (m : Meaning) → Lawful m → (s : State) (bytes : List ℕ) → Kept m s → opening_fault m (board_of m s) (length s.area) bytes ≡ None
    → s.used + length bytes ≤ length s.area
open_room m laws s bytes k e = let B = begins m s bytes k e in omega (arith, B.unused, B.long, B.area)

-- the board of the Opening has no record of a seat
no_entries : (bytes : List ℕ) (kind : Kind) (i j : ℕ) → is_indexed kind ≡ true → entry (opened bytes).taken kind i j ≡ None
unfolding entry
no_entries bytes kind i j indexed =
    let low = (indexed_parts kind indexed).0 in
    let differ : kind_number kinds.Opening ≡ kind_number kind → ⊥ = λ e. omega arith in
    cond-false _ _ None (by_kind (record { kind = kinds.Opening; writer = 0; second = 0; codes = [] }) kind i j differ)

-- nor has that of an unopened ceremony
nothing_taken : (m : Meaning) (s : State) (kind : Kind) (i j : ℕ) → s.used ≡ 0 → entry (board_of m s).taken kind i j ≡ None
unfolding board_in records_after entry
nothing_taken m s kind i j none = ap (λ (n : ℕ). entry (board_in m (take n s.area)).taken kind i j) none

no_answer : (m : Meaning) (b : Board) (i j : ℕ) → entry b.taken kinds.Answer i j ≡ None → answered m b i j ≡ false
unfolding answered
no_answer m b i j none = ap (λ (o : Option (List ℕ)). holds o (λ codes. passes1 m b i j (share_in codes))) none

pub open_kept : (m : Meaning) → Lawful m → (s : State) (bytes : List ℕ) → Kept m s → opening_fault m (board_of m s) (length s.area) bytes ≡ None
    → Kept m (opened_at s bytes)
unfolding Indexed phase_of phase_after starts
open_kept m laws s bytes k e =
    let B = begins m s bytes k e in
    let size = length-paste s.area s.used bytes (length bytes) (open_room m laws s bytes k e) (omega arith) in
    let used : s.used + length bytes ≡ 24 = omega (arith, B.unused, B.long) in
    let all = left_opened m (opened bytes) B.nobody_less refl (λ kind x y indexed. ap is_some (no_entries bytes kind x y indexed)) in
    kept_as m (opened_at s bytes) (opened bytes) bytes (open_board m laws s bytes k e) (opening_bytes m s bytes k B.unused) (record {
      fits = omega (arith, open_room m laws s bytes k e);
      records = one_ends bytes B.alone;
      n = refl;
      t = refl;
      phase = refl;
      few = B.few;
      low = B.low;
      places = k.places;
      truths = k.truths;
      index = λ kind i j indexed. index B kind i j indexed (look s.places kind i j) (k.index kind i j indexed);
      true_answers = λ i j. k.true_answers i j ∙ no_answer m (board_of m s) i j (nothing_taken m s kinds.Answer i j B.unused) ∙ sym (no_answer m (opened bytes) i j (no_entries bytes kinds.Answer i j refl));
      complaints = λ i j c. clash (is_some (entry (opened bytes).taken kinds.Complaint j i)) c (ap is_some (no_entries bytes kinds.Complaint j i refl));
      answers = λ i j c. clash (is_some (entry (opened bytes).taken kinds.Answer i j)) c (ap is_some (no_entries bytes kinds.Answer i j refl));
      started = omega arith;
      opening = omega arith;
      room = omega arith;
      area = omega (arith, B.area);
    })
  where
    -- the index of an unopened ceremony finds nothing
    index : Begins m s bytes → (kind : Kind) (i j : ℕ) → is_indexed kind ≡ true → (o : Option ℕ) → Indexed m (board_of m s) (filled s) kind i j o → Indexed m (opened bytes) bytes kind i j o
    index B kind i j indexed None h = no_entries bytes kind i j indexed
    index B kind i j indexed (Some place) h = none_some _ (sym (nothing_taken m s kind i j B.unused) ∙ h.codes)
