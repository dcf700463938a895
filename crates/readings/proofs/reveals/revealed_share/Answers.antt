use Rattle.std.proofs.Common.{map, replicate, sym, ap, ◌∙◌, subst}
use Rattle.sharing.specs.Interpolation.{Seats, interpolated}
use Rattle.protocol.specs.Board.{reveals, shares}
use Rattle.board.specs.State.{board, state_of}
use Rattle.readings.specs.Serving.{share_of}
use Rattle.readings.proofs.Revealed.{revealed_below, serving_seats_lem}
use Rattle.readings.proofs.Shares.{read_back}
use Rattle.readings.proofs.reveals.revealed_share.Goals as goal

pub interpolate_known-requires-clause-seats : goal.interpolate_known-requires-clause-seats
interpolate_known-requires-clause-seats g c =
    let ceremony = c.args.ceremony.now in
    subst Seats (sym (c.as_slice-seats.ensures ∙ c.find_serving-serving.ensures))
    (serving_seats_lem g.G.Group.meaning g.G.Group.lawful (state_of ceremony) ceremony.kept c.args.dealer)

pub interpolate_known-requires-clause-taken : goal.interpolate_known-requires-clause-taken
interpolate_known-requires-clause-taken g c =
    let m = g.G.Group.meaning in
    let ceremony = c.args.ceremony.now in
    let below = revealed_below m g.G.Group.lawful (state_of ceremony) ceremony.kept c.args.dealer in
    (read_back m g.G.Group.lawful (share_of (board ceremony) c.args.dealer) below c.write_shares.new.out c.as_slice-seats.result.now (replicate 128 0) c.write_shares.ensures).taken

pub returns : goal.returns
unfolding reveals
returns g c =
    let m = g.G.Group.meaning in
    let ceremony = c.args.ceremony.now in
    let f = share_of (board ceremony) c.args.dealer in
    let below = revealed_below m g.G.Group.lawful (state_of ceremony) ceremony.kept c.args.dealer in
    let read = read_back m g.G.Group.lawful f below c.write_shares.new.out c.as_slice-seats.result.now (replicate 128 0) c.write_shares.ensures in
    c.interpolate_known.ensures
    ∙ ap (interpolated (shares m) m.q) (read.entries ∙ ap (map (λ j. (j, f j))) (c.as_slice-seats.ensures ∙ c.find_serving-serving.ensures))
