use Rattle.std.proofs.Common.{◌≡◌}
use Rattle.board_trials.proofs.twins.post_turns.Given as goal

abbrev pub invariant-loop-turn : goal.invariant-loop-turn
invariant-loop-turn g l =
    (l.first.area.ghost_name ≡ l.initial.first.area.ghost_name)
    × (l.second.area.ghost_name ≡ l.initial.second.area.ghost_name)
