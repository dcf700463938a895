-- The state of a ceremony, and the board that its bytes say. Definitions.
use Rattle.group.specs.declared.group.Group.{Ghosts}
use Rattle.protocol.specs.Board.{Board}
use Rattle.board_index.specs.State.{State, board_of}
use Rattle.board.specs.declared.ceremony.Ceremony.{Ceremony}

abbrev pub state_of : {G E S : Type 0} {g : Ghosts G E S} {e : _} → Ceremony G E S g e → State
state_of c = record {
  area = c.area.now;
  used = c.used;
  n = c.n;
  t = c.t;
  phase = c.phase;
  places = c.index.places;
  truths = c.index.truths;
}

abbrev pub board : {G E S : Type 0} {g : Ghosts G E S} {e : _} → Ceremony G E S g e → Board
board {g = g} c = board_of g.meaning (state_of c)
