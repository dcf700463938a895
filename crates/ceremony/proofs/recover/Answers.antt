use Rattle.std.proofs.Common.{◌+◌, ◌≤◌, length, mul-le-mul, arith}
use Rattle.ceremony.proofs.recover.Goals as goal

pub interpolate-requires : goal.interpolate-requires
interpolate-requires g c =
    let few : length c.args.seats.now ≤ 16 = omega (arith, c.if-seats-gt16.false) in
    let narrow : g.G.Group.meaning.s + g.G.Group.meaning.s ≤ 8 = omega (arith, g.G.Group.lawful.s_to) in
    let all = mul-le-mul few narrow in
    record {
      seats = c.are_different_seats.ensures.0 c.if-not-are_different_seats.false;
      within = omega (arith, all, c.fill_shares.auto.shares);
    }
