use Rattle.std.proofs.Common.{◌≡◌, ◌-◌, ◌≤◌, length, drop, None}
use Rattle.board.specs.State.{state_of}
use Rattle.replay.proofs.SoFar.{SoFar}
use Rattle.replay.proofs.replay.replay.Given as goal

abbrev pub invariant-loop-rest : goal.invariant-loop-rest
invariant-loop-rest g l = record {
  so_far : SoFar g.G.Group.meaning (state_of l.initial.ceremony) (state_of l.ceremony) l.file (length l.file - length l.rest) l.replayed.taken l.replayed.refused l.replayed.equations;
  within : length l.rest ≤ length l.file;
  behind : l.rest ≡ drop (length l.file - length l.rest) l.file;
  none_broken : l.replayed.broken ≡ None;
  lender : l.ceremony.area.ghost_name ≡ l.initial.ceremony.area.ghost_name;
}

abbrev pub decreases-loop-rest : goal.decreases-loop-rest
decreases-loop-rest g l = length l.rest
