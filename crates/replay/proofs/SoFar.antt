-- What the frames so far came to, and what is left.
use Rattle.std.proofs.Common.{◌≡◌, ℕ, ◌+◌, ◌-◌, ◌≤◌, true, List, [], ◌∷◌, length, take, drop, Some, None, Ok, Err, Option, Result, sym, refl, ap, ◌∙◌, subst, ap₂, zero-add, arith, length-drop, drop-drop}
use Rattle.group.specs.Meaning.{Meaning}
use Rattle.protocol.specs.declared.kind.Kind.{Kind}
use Rattle.protocol.specs.declared.kind.Kind.TheVariants as kinds
use Rattle.protocol.specs.declared.fault.Equation.{Equation}
use Rattle.protocol.specs.declared.fault.Equation.TheVariants.{First, Second}
use Rattle.protocol.specs.declared.fault.CeremonyFault.{CeremonyFault}
use Rattle.protocol.specs.declared.fault.CeremonyFault.TheVariants.{Record, OutOfPhase, NoSeat, EqualSeats, Missing, Repeated, Unequal, FewReveals, Parameter, SmallArea, SmallOutput}
use Rattle.protocol.specs.Record.{length_field, kind_with, kind_field}
use Rattle.protocol.specs.Board.{Board}
use Rattle.protocol.specs.Refusals.{posting_fault, posted, unless_fault, equation_number, equations_by, after_posting, replayed, equations_taken, equations_refused, equations_tested, equations_replayed}
use Rattle.board_index.specs.State.{State, board_of, appended}
use Rattle.board.specs.Posting.{answer_of, posting_answer, AfterPosting}
use Rattle.replay.specs.Files.{begins_whole, broken_after, frames_of, broken_at, or_refused, taken_of, refused_of, Area, area_of, area_unless, area_after, area_replayed}
use Rattle.replay.proofs.Stepping.{whole_long, frames_whole, broken_whole}

-- `at` bytes are posted, and posting the rest leads to what posting all leads to
pub record SoFar (m : Meaning) (first now : State) (file : List ℕ) (at taken refused equations : ℕ) : Type 0 where
  pub within : at ≤ length file
  pub board : replayed m (board_of m now) (frames_of (drop at file)) ≡ replayed m (board_of m first) (frames_of file)
  pub area : area_replayed m (area_of now) (frames_of (drop at file)) ≡ area_replayed m (area_of first) (frames_of file)
  pub tested : equations + equations_replayed m (board_of m now) (frames_of (drop at file)) ≡ equations_replayed m (board_of m first) (frames_of file)
  pub taking : taken + taken_of m (board_of m now) (frames_of (drop at file)) ≡ taken_of m (board_of m first) (frames_of file)
  pub refusing : refused + refused_of m (board_of m now) (frames_of (drop at file)) ≡ refused_of m (board_of m first) (frames_of file)
  pub broken : broken_after at 0 (drop at file) ≡ broken_at file
  pub few_tested : equations ≤ at
  pub few_taken : taken ≤ at
  pub few_refused : refused ≤ at

-- what a posting came to
abbrev pub tested_by : Result ℕ CeremonyFault → ℕ
tested_by (Ok equations) = equations
tested_by (Err fault) = equations_refused fault

abbrev pub taken_by : Result ℕ CeremonyFault → ℕ
taken_by (Ok equations) = 1
taken_by (Err fault) = 0

abbrev pub refused_by : Result ℕ CeremonyFault → ℕ
refused_by (Ok equations) = 0
refused_by (Err fault) = 1

pub record Came (m : Meaning) (s : State) (bytes : List ℕ) (r : Result ℕ CeremonyFault) (after : State) : Type 0 where
  pub board : board_of m after ≡ after_posting m (board_of m s) bytes
  pub area : area_of after ≡ area_after m (area_of s) bytes
  pub tested : tested_by r ≡ equations_tested m (board_of m s) bytes
  pub taking : taken_by r ≡ or_refused (posting_fault m (board_of m s) bytes) 1 0
  pub refusing : refused_by r ≡ or_refused (posting_fault m (board_of m s) bytes) 0 1

same_area : (a b : List ℕ) (x y : ℕ) → a ≡ b → x ≡ y → ◌≡◌ {A = Area} (record { bytes = a; used = x }) (record { bytes = b; used = y })
same_area a b x y e f = ap₂ (λ (l : List ℕ) (n : ℕ). record { bytes = l; used = n }) e f

pub came : (m : Meaning) (s : State) (bytes : List ℕ) (r : Result ℕ CeremonyFault) (after : State) → r ≡ posting_answer m (board_of m s) bytes
    → AfterPosting m s bytes r after → Came m s bytes r after
came m s bytes r after answer h = go (posting_fault m (board_of m s) bytes) refl r answer h
  where
    go : (o : Option CeremonyFault) → posting_fault m (board_of m s) bytes ≡ o → (x : Result ℕ CeremonyFault)
        → x ≡ answer_of (posting_fault m (board_of m s) bytes) (equations_taken (kind_with (kind_field bytes))) → AfterPosting m s bytes x after → Came m s bytes x after
    go None e (Ok n) a h =
        let is : Ok n ≡ answer_of None (equations_taken (kind_with (kind_field bytes))) = a ∙ ap (λ (o : Option CeremonyFault). answer_of o (equations_taken (kind_with (kind_field bytes)))) e in
        record {
          board = h.1 ∙ sym (ap (λ (o : Option CeremonyFault). unless_fault o (posted m (board_of m s) bytes) (board_of m s)) e);
          area = same_area after.area (appended s bytes) after.used (s.used + length bytes) h.0.area h.0.used
              ∙ sym (ap (λ (o : Option CeremonyFault). area_unless o (record { bytes = appended s bytes; used = s.used + length bytes }) (area_of s)) e);
          tested = (let n_is : n ≡ equations_taken (kind_with (kind_field bytes)) = cc in n_is) ∙ sym (ap (λ (o : Option CeremonyFault). equations_by o (kind_with (kind_field bytes))) e);
          taking = sym (ap (λ (o : Option CeremonyFault). or_refused o 1 0) e);
          refusing = sym (ap (λ (o : Option CeremonyFault). or_refused o 0 1) e);
        }
    go None e (Err f) a h =
        let is : Err f ≡ answer_of None (equations_taken (kind_with (kind_field bytes))) = a ∙ ap (λ (o : Option CeremonyFault). answer_of o (equations_taken (kind_with (kind_field bytes)))) e in
        absurd (let z : ◌≡◌ {A = ℕ} 0 1 = cc in omega arith)
    go (Some g) e (Ok n) a h =
        let is : Ok n ≡ answer_of (Some g) (equations_taken (kind_with (kind_field bytes))) = a ∙ ap (λ (o : Option CeremonyFault). answer_of o (equations_taken (kind_with (kind_field bytes)))) e in
        absurd (let z : ◌≡◌ {A = ℕ} 0 1 = cc in omega arith)
    go (Some g) e (Err f) a h =
        let is : Err f ≡ answer_of (Some g) (equations_taken (kind_with (kind_field bytes))) = a ∙ ap (λ (o : Option CeremonyFault). answer_of o (equations_taken (kind_with (kind_field bytes)))) e in
        let same : f ≡ g = cc in
        record {
          board = ap (board_of m) h ∙ sym (ap (λ (o : Option CeremonyFault). unless_fault o (posted m (board_of m s) bytes) (board_of m s)) e);
          area = ap area_of h ∙ sym (ap (λ (o : Option CeremonyFault). area_unless o (record { bytes = appended s bytes; used = s.used + length bytes }) (area_of s)) e);
          tested = ap equations_refused same ∙ sym (ap (λ (o : Option CeremonyFault). equations_by o (kind_with (kind_field bytes))) e);
          taking = sym (ap (λ (o : Option CeremonyFault). or_refused o 1 0) e);
          refusing = sym (ap (λ (o : Option CeremonyFault). or_refused o 0 1) e);
        }

-- a posting tests two equations at most
equation_low : (e : Equation) → equation_number e ≤ 2
equation_low First = omega arith
equation_low Second = omega arith

refused_low : (f : CeremonyFault) → equations_refused f ≤ 2
refused_low (Record fault) = omega arith
refused_low (OutOfPhase place) = omega arith
refused_low (NoSeat place) = omega arith
refused_low (EqualSeats place) = omega arith
refused_low (Missing place) = omega arith
refused_low (Repeated place) = omega arith
refused_low (Unequal place equation) = equation_low equation
refused_low (FewReveals place) = omega arith
refused_low (Parameter place) = omega arith
refused_low SmallArea = omega arith
refused_low SmallOutput = omega arith

taken_low : (k : Option Kind) → equations_taken k ≤ 2
taken_low None = omega arith
taken_low (Some kinds.Opening) = omega arith
taken_low (Some kinds.Deal) = omega arith
taken_low (Some kinds.Complaint) = omega arith
taken_low (Some kinds.Answer) = omega arith
taken_low (Some kinds.Exposure) = omega arith
taken_low (Some kinds.Objection) = omega arith
taken_low (Some kinds.Reveal) = omega arith
taken_low (Some kinds.Close) = omega arith
taken_low (Some kinds.Letter) = omega arith
taken_low (Some kinds.Sheet) = omega arith

tested_low : (m : Meaning) (b : Board) (bytes : List ℕ) → equations_tested m b bytes ≤ 2
tested_low m b bytes = go (posting_fault m b bytes) (kind_with (kind_field bytes))
  where
    go : (o : Option CeremonyFault) (k : Option Kind) → equations_by o k ≤ 2
    go None k = taken_low k
    go (Some f) k = refused_low f

one_low : (o : Option CeremonyFault) → (or_refused o 1 0 ≤ 1) × (or_refused o 0 1 ≤ 1)
one_low None = (omega arith, omega arith)
one_low (Some f) = (omega arith, omega arith)

module _ (m : Meaning) (first now : State) (file : List ℕ) (at taken refused equations : ℕ) (S : SoFar m first now file at taken refused equations) where
  -- at a whole frame
  module _ (size : ℕ) (whole : begins_whole (drop at file) ≡ true) (is : size ≡ 2 + length_field (drop at file)) where
    pub fits : (4 ≤ size) × (at + size ≤ length file)
    fits = let h = whole_long (drop at file) whole in let d = length-drop at file in (omega (arith, h.0), omega (arith, h.1, S.within))

    module _ (r : Result ℕ CeremonyFault) (after : State) (C : Came m now (take size (drop at file)) r after) where
      abbrev bytes : List ℕ
      bytes = take size (drop at file)

      rest : frames_of (drop at file) ≡ (bytes ∷ frames_of (drop (at + size) file))
      rest =
          frames_whole (drop at file) whole
          ∙ ap (λ (n : ℕ). take n (drop at file) ∷ frames_of (drop n (drop at file))) (sym is)
          ∙ ap (λ (l : List ℕ). bytes ∷ frames_of l) (drop-drop size at file)

      pub next : SoFar m first after file (at + size) (taken + taken_by r) (refused + refused_by r) (equations + tested_by r)
      unfolding replayed area_replayed equations_replayed taken_of refused_of
      next =
          let b = board_of m now in
          let later = frames_of (drop (at + size) file) in
          let low = tested_low m b bytes in
          let one = one_low (posting_fault m b bytes) in
          record {
            within = fits.1;
            board = ap (λ (x : Board). replayed m x later) C.board ∙ sym (ap (replayed m b) rest) ∙ S.board;
            area = ap (λ (x : Area). area_replayed m x later) C.area ∙ sym (ap (area_replayed m (area_of now)) rest) ∙ S.area;
            tested =
                let e : equations_replayed m b (frames_of (drop at file)) ≡ equations_tested m b bytes + equations_replayed m (after_posting m b bytes) later = ap (equations_replayed m b) rest in
                let f : equations_replayed m (board_of m after) later ≡ equations_replayed m (after_posting m b bytes) later = ap (λ (x : Board). equations_replayed m x later) C.board in
                omega (arith, e, f, C.tested, S.tested);
            taking =
                let e : taken_of m b (frames_of (drop at file)) ≡ or_refused (posting_fault m b bytes) 1 0 + taken_of m (after_posting m b bytes) later = ap (taken_of m b) rest in
                let f : taken_of m (board_of m after) later ≡ taken_of m (after_posting m b bytes) later = ap (λ (x : Board). taken_of m x later) C.board in
                omega (arith, e, f, C.taking, S.taking);
            refusing =
                let e : refused_of m b (frames_of (drop at file)) ≡ or_refused (posting_fault m b bytes) 0 1 + refused_of m (after_posting m b bytes) later = ap (refused_of m b) rest in
                let f : refused_of m (board_of m after) later ≡ refused_of m (after_posting m b bytes) later = ap (λ (x : Board). refused_of m x later) C.board in
                omega (arith, e, f, C.refusing, S.refusing);
            broken = sym (broken_whole at (drop at file) whole ∙ ap (λ (n : ℕ). broken_after (at + n) 0 (drop n (drop at file))) (sym is)
                ∙ ap (broken_after (at + size) 0) (drop-drop size at file)) ∙ S.broken;
            few_tested = omega (arith, C.tested, low, S.few_tested, fits.0);
            few_taken = omega (arith, C.taking, one.0, S.few_taken, fits.0);
            few_refused = omega (arith, C.refusing, one.1, S.few_refused, fits.0);
          }

  -- one frame is split off the rest, and posted
  module _ (rest frame behind : List ℕ) (left : at ≡ length file - length rest) (is : rest ≡ drop at file) (whole : begins_whole rest ≡ true)
      (frame_is : frame ≡ take (2 + length_field rest) rest) (behind_is : behind ≡ drop (2 + length_field rest) rest) where
    abbrev size : ℕ
    size = 2 + length_field rest

    size_is : size ≡ 2 + length_field (drop at file)
    size_is = ap (λ (l : List ℕ). 2 + length_field l) is

    whole_at : begins_whole (drop at file) ≡ true
    whole_at = sym (ap begins_whole is) ∙ whole

    at_behind : length file - length behind ≡ at + size
    at_behind =
        let F = fits size whole_at size_is in
        let l : length behind ≡ length rest - size = ap length behind_is ∙ length-drop size rest in
        let n : length rest ≡ length file - at = ap length is ∙ length-drop at file in
        omega (arith, F.1, S.within)

    pub behind_there : behind ≡ drop (length file - length behind) file
    behind_there =
        behind_is ∙ ap (drop size) is ∙ drop-drop size at file ∙ ap (λ (n : ℕ). drop n file) (sym at_behind)

    pub behind_within : length behind ≤ length file
    behind_within =
        let l : length behind ≡ length rest - size = ap length behind_is ∙ length-drop size rest in
        let n : length rest ≡ length file - at = ap length is ∙ length-drop at file in
        omega arith

    pub posted_on : (r : Result ℕ CeremonyFault) (after : State) → Came m now frame r after
        → SoFar m first after file (length file - length behind) (taken + taken_by r) (refused + refused_by r) (equations + tested_by r)
    posted_on r after C =
        subst (λ (n : ℕ). SoFar m first after file n (taken + taken_by r) (refused + refused_by r) (equations + tested_by r)) (sym at_behind)
        (next size whole_at size_is r after (subst (λ (l : List ℕ). Came m now l r after) (frame_is ∙ ap (take size) is) C))

  -- where nothing is left to post
  module _ (none : frames_of (drop at file) ≡ []) where
    pub all_board : board_of m now ≡ replayed m (board_of m first) (frames_of file)
    unfolding replayed
    all_board = sym (ap (replayed m (board_of m now)) none) ∙ S.board

    pub all_area : area_of now ≡ area_replayed m (area_of first) (frames_of file)
    unfolding area_replayed
    all_area = sym (ap (area_replayed m (area_of now)) none) ∙ S.area

    pub all_tested : equations ≡ equations_replayed m (board_of m first) (frames_of file)
    unfolding equations_replayed
    all_tested = let e : equations_replayed m (board_of m now) (frames_of (drop at file)) ≡ 0 = ap (equations_replayed m (board_of m now)) none in omega (arith, e, S.tested)

    pub all_taken : taken ≡ taken_of m (board_of m first) (frames_of file)
    unfolding taken_of
    all_taken = let e : taken_of m (board_of m now) (frames_of (drop at file)) ≡ 0 = ap (taken_of m (board_of m now)) none in omega (arith, e, S.taking)

    pub all_refused : refused ≡ refused_of m (board_of m first) (frames_of file)
    unfolding refused_of
    all_refused = let e : refused_of m (board_of m now) (frames_of (drop at file)) ≡ 0 = ap (refused_of m (board_of m now)) none in omega (arith, e, S.refusing)

pub start : (m : Meaning) (s : State) (file : List ℕ) → SoFar m s s file 0 0 0 0
start m s file = record {
  within = omega arith;
  board = refl;
  area = refl;
  tested = zero-add _;
  taking = zero-add _;
  refusing = zero-add _;
  broken = refl;
  few_tested = omega arith;
  few_taken = omega arith;
  few_refused = omega arith;
}
