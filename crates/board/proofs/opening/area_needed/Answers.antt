use Rattle.std.proofs.Common.{◌+◌, ◌*◌, ◌≤◌, mul-le-mul, arith}
use Rattle.board.proofs.opening.area_needed.Goals as goal

pub overflow_add-result-3 : goal.overflow_add-result-3
overflow_add-result-3 g c =
    let w = c.W.result in
    let s = c.S.result in
    let wide : w ≤ 4 = omega (arith, c.W.ensures, g.met.G.Group.width_is, g.G.Group.lawful.w_to) in
    let narrow : s ≤ 4 = omega (arith, c.S.ensures, g.met.G.Group.scalar_width_is, g.G.Group.lawful.s_to) in
    let n : c.args.n ≤ 255 = omega arith in
    let t : c.args.t + 1 ≤ 256 = omega arith in
    let elements : (c.args.t + 1) * w ≤ 256 * 4 = mul-le-mul t wide in
    let wider : 5 + (c.args.t + 1) * w ≤ 1029 = omega arith in
    let twice : 2 * c.args.n ≤ 510 = omega arith in
    let deals : 2 * c.args.n * (5 + (c.args.t + 1) * w) ≤ 510 * 1029 = mul-le-mul twice wider in
    let six : 6 * c.args.n ≤ 1530 = omega arith in
    let others : c.saturating_sub.result ≤ 255 = omega (arith, c.saturating_sub.ensures) in
    let complaints : 6 * c.args.n * c.saturating_sub.result ≤ 1530 * 255 = mul-le-mul six others in
    let three : 3 * c.args.n ≤ 765 = omega arith in
    let pairs : 3 * c.args.n * c.args.n ≤ 765 * 255 = mul-le-mul three n in
    let fewer : c.saturating_sub-2.result ≤ 195075 = omega (arith, c.saturating_sub-2.ensures) in
    let share : 6 + 2 * s ≤ 14 = omega arith in
    let shares : c.saturating_sub-2.result * (6 + 2 * s) ≤ 195075 * 14 = mul-le-mul fewer share in
    omega arith
