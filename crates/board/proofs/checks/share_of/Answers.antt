use Rattle.std.proofs.Common.{◌∙◌, arith}
use Rattle.board.proofs.StoredCodes.{pair_taken, pair_decoded}
use Rattle.board.proofs.checks.share_of.Goals as goal

pub known-requires : goal.known-requires
known-requires g c = record { within = omega (arith, c.requires.within); taken = pair_taken g.G.Group.meaning c.args.bytes.now 6 c.requires.judged }

pub returns : goal.returns
returns g c = c.known.ensures ∙ pair_decoded g.G.Group.meaning c.args.bytes.now 6
