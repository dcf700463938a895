-- What is kept of an opened ceremony, said of its board and its bytes: so that it can be shown of a board that is known in another form.
use Rattle.std.proofs.Common.{◌≡◌, ℕ, ◌+◌, ◌≤◌, true, List, length, is_some, sym, subst, inr}
use Rattle.group.specs.Meaning.{Meaning}
use Rattle.protocol.specs.declared.kind.Kind.{Kind}
use Rattle.protocol.specs.declared.kind.Kind.TheVariants as kinds
use Rattle.protocol.specs.Board.{Board, has, deal_of, complained, answered, starts, phase_of}
use Rattle.protocol.specs.Refusals.{area_needed}
use Rattle.board_index.specs.Frames.{are_records}
use Rattle.board_index.specs.State.{State, filled, board_of, is_indexed, look, truth_at}
use Rattle.board_index.specs.Room.{left}
use Rattle.board_index.specs.Kept.{Indexed, Kept}

pub record KeptAs (m : Meaning) (s : State) (b : Board) (bytes : List ℕ) : Type 0 where
  pub fits : s.used ≤ length s.area
  pub records : are_records bytes ≡ true
  pub n : s.n ≡ b.n
  pub t : s.t ≡ b.t
  pub phase : s.phase ≡ phase_of m b
  pub few : s.n ≤ 32
  pub low : s.t ≤ 15
  pub places : length s.places ≡ 6534
  pub truths : length s.truths ≡ 1089
  pub index : (kind : Kind) (i j : ℕ) → is_indexed kind ≡ true → Indexed m b bytes kind i j (look s.places kind i j)
  pub true_answers : (i j : ℕ) → truth_at s.truths i j ≡ answered m b i j
  pub complaints : (i j : ℕ) → complained b j i ≡ true → is_some (deal_of b i) ≡ true
  pub answers : (i j : ℕ) → has b.taken kinds.Answer i j ≡ true → complained b j i ≡ true
  pub started : 1 ≤ starts b.taken
  pub opening : 24 ≤ s.used
  pub room : s.used + left m b ≡ area_needed m s.n s.t
  pub area : area_needed m s.n s.t ≤ length s.area

kept_here : (m : Meaning) (s : State) → KeptAs m s (board_of m s) (filled s) → Kept m s
kept_here m s k = record {
  fits = k.fits;
  records = k.records;
  n = k.n;
  t = k.t;
  phase = k.phase;
  few = k.few;
  low = k.low;
  places = k.places;
  truths = k.truths;
  index = k.index;
  true_answers = k.true_answers;
  complaints = k.complaints;
  answers = k.answers;
  opened = inr (record { started = k.started; opening = k.opening; room = k.room; area = k.area });
}

pub kept_as : (m : Meaning) (s : State) (b : Board) (bytes : List ℕ) → board_of m s ≡ b → filled s ≡ bytes → KeptAs m s b bytes → Kept m s
kept_as m s b bytes board bytes_are k =
    kept_here m s (subst (λ (x : Board). KeptAs m s x (filled s)) (sym board) (subst (KeptAs m s b) (sym bytes_are) k))
