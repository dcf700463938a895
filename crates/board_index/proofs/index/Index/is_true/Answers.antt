use Rattle.std.proofs.Common.{rules}
use Rattle.board_index.specs.State.{truth_at}
use Rattle.board_index.proofs.index.Index.is_true.Goals as goal

pub returns-then-dealer-gt32 : goal.returns-then-dealer-gt32
unfolding truth_at
returns-then-dealer-gt32 c = search rules

pub returns : goal.returns
unfolding truth_at
returns c = search rules
