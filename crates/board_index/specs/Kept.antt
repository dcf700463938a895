-- What holds of every ceremony, from its making on. Definitions.
use Rattle.std.specs.Prelude.{◌≡◌, ℕ, ◌+◌, ◌≤◌, true, ◌⊎◌, List, [], length, is_some, Some, None, Option}
use Rattle.group.specs.Code.{code_at}
use Rattle.group.specs.Meaning.{Meaning}
use Rattle.group.specs.declared.fault.GroupFault.{GroupFault}
use Rattle.sharing.specs.Codes.{decoded_from, refused_from, element_refused, scalar_refused}
use Rattle.protocol.specs.declared.kind.Kind.{Kind}
use Rattle.protocol.specs.declared.kind.Kind.TheVariants as kinds
use Rattle.protocol.specs.Record.{Layout, Elements, Second, SecondAndShare, Nothing, layout_of}
use Rattle.protocol.specs.Board.{Board, entry, has, deal_of, complained, answered, starts, phase_of}
use Rattle.protocol.specs.Refusals.{area_needed}
use Rattle.board_index.specs.State.{State, filled, board_of, is_indexed, look, truth_at}
use Rattle.board_index.specs.Room.{record_size, left}

-- the codes of a record that begins at a place, and what is said against them
abbrev pub codes_as : Meaning → ℕ → Layout → List ℕ → ℕ → List ℕ
codes_as m t Elements bytes at = decoded_from (λ place. code_at bytes m.w place) m.w (at + 5) (t + 1)
codes_as m t Second bytes at = []
codes_as m t SecondAndShare bytes at = decoded_from (λ place. code_at bytes m.s place) m.s (at + 6) 2
codes_as m t Nothing bytes at = []

abbrev pub refused_as : Meaning → ℕ → Layout → List ℕ → ℕ → Option GroupFault
refused_as m t Elements bytes at = refused_from (element_refused m bytes) m.w (at + 5) (t + 1)
refused_as m t Second bytes at = None
refused_as m t SecondAndShare bytes at = refused_from (scalar_refused m bytes) m.s (at + 6) 2
refused_as m t Nothing bytes at = None

-- the taken record of a kind, a writer and a second seat begins at a place, and its codes were judged
pub record Stored (m : Meaning) (b : Board) (bytes : List ℕ) (kind : Kind) (i j place : ℕ) : Type 0 where
  pub codes : entry b.taken kind i j ≡ Some (codes_as m b.t (layout_of kind) bytes place)
  pub within : place + record_size m b.t kind ≤ length bytes
  pub judged : refused_as m b.t (layout_of kind) bytes place ≡ None

-- what the index has of it
unfoldable pub Indexed : Meaning → Board → List ℕ → Kind → ℕ → ℕ → Option ℕ → Type 0
Indexed m b bytes kind i j None = entry b.taken kind i j ≡ None
Indexed m b bytes kind i j (Some place) = Stored m b bytes kind i j place

-- an opened ceremony: the Opening is there, and the area holds all that can still be taken
pub record Opened (m : Meaning) (s : State) : Type 0 where
  pub started : 1 ≤ starts (board_of m s).taken
  pub opening : 24 ≤ s.used
  pub room : s.used + left m (board_of m s) ≡ area_needed m s.n s.t
  pub area : area_needed m s.n s.t ≤ length s.area

pub record Kept (m : Meaning) (s : State) : Type 0 where
  pub fits : s.used ≤ length s.area
  pub records : Rattle.board_index.specs.Frames.are_records (filled s) ≡ true
  pub n : s.n ≡ (board_of m s).n
  pub t : s.t ≡ (board_of m s).t
  pub phase : s.phase ≡ phase_of m (board_of m s)
  pub few : s.n ≤ 32
  pub low : s.t ≤ 15
  pub places : length s.places ≡ 6534
  pub truths : length s.truths ≡ 1089
  pub index : (kind : Kind) (i j : ℕ) → is_indexed kind ≡ true → Indexed m (board_of m s) (filled s) kind i j (look s.places kind i j)
  pub true_answers : (i j : ℕ) → truth_at s.truths i j ≡ answered m (board_of m s) i j
  pub complaints : (i j : ℕ) → complained (board_of m s) j i ≡ true → is_some (deal_of (board_of m s) i) ≡ true
  pub answers : (i j : ℕ) → has (board_of m s).taken kinds.Answer i j ≡ true → complained (board_of m s) j i ≡ true
  pub opened : (s.used ≡ 0) ⊎ Opened m s
