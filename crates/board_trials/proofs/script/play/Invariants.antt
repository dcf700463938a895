use Rattle.std.proofs.Common.{◌≡◌}
use Rattle.board_trials.proofs.script.play.Given as goal

abbrev pub invariant-loop-step : goal.invariant-loop-step
invariant-loop-step g l = l.ceremony.area.ghost_name ≡ l.initial.ceremony.area.ghost_name
