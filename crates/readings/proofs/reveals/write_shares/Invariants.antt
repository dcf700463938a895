use Rattle.std.proofs.Common.{◌≡◌, map, take}
use Rattle.protocol.specs.Custodian.{pair_codes}
use Rattle.board.specs.State.{board}
use Rattle.readings.specs.Outputs.{written_in}
use Rattle.readings.specs.Serving.{share_of}
use Rattle.readings.proofs.reveals.write_shares.Given as goal

abbrev pub invariant-loop-k : goal.invariant-loop-k
invariant-loop-k g l =
    l.out ≡ written_in l.initial.out (pair_codes g.G.Group.meaning.s (map (share_of (board l.ceremony) l.dealer) (take l.k l.seats)))
