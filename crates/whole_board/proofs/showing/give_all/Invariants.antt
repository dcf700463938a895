use Rattle.std.proofs.Common.{◌≡◌}
use Rattle.whole_board.proofs.showing.give_all.Given as goal

abbrev pub invariant-loop-bytes : goal.invariant-loop-bytes
invariant-loop-bytes g l = l.ceremony.area.ghost_name ≡ l.initial.ceremony.area.ghost_name
