use Rattle.std.proofs.Common.{ℕ, ◌+◌, ◌*◌, ◌%◌, ◌<◌, drop, sym, ap, ◌∙◌, mul-one, one-mul, mod-eq_of_lt, arith, rules}
use Rattle.group.specs.ModularLaws.{mod_mul}
use Rattle.sharing.specs.Interpolation.{weight}
use Rattle.sharing.proofs.SeatWalk.{seat_low, weight_below, weight_none, weight_next}
use Rattle.sharing.proofs.interpolation.weight_of.Goals as goal

pub factor_of-requires : goal.factor_of-requires
factor_of-requires g c = let low = seat_low c.args.seats.now c.requires.0 c.loop-l.l-index c.loop-l-test.true in search rules

pub loop-l-init : goal.loop-l-init
loop-l-init g c =
    let q = g.G.Group.meaning.q in
    let above = g.G.Group.lawful.q_above in
    let one : 1 < q = omega arith in
    let all = weight q c.args.seats.now c.args.m in
    ap (λ (x : ℕ). (x * all) % q) c.reduced-product.ensures
    ∙ mod_mul 1 all q
    ∙ ap (λ (x : ℕ). x % q) (one-mul all)
    ∙ mod-eq_of_lt (weight_below q one c.args.seats.now c.args.m)

pub loop-l-preserved : goal.loop-l-preserved
loop-l-preserved g c =
    let q = g.G.Group.meaning.q in
    let k = c.loop-l.l-index in
    let seats = c.args.seats.now in
    let scalar_of = g.G.Group.scalar_of in
    ap (λ (x : ℕ). (x * weight q (drop (k + 1) seats) c.args.m) % q) c.multiply-product.ensures
    ∙ weight_next q seats c.args.m k (scalar_of c.loop-l.product) (scalar_of c.factor_of.result) c.loop-l-test.true c.factor_of.ensures
    ∙ c.loop-l.invariant

pub returns : goal.returns
returns g c =
    let q = g.G.Group.meaning.q in
    let p = g.G.Group.scalar_of c.loop-l.product in
    sym (ap (λ (x : ℕ). (p * x) % q) (weight_none q c.args.seats.now c.args.m c.loop-l.l-index c.loop-l-test.false)
    ∙ ap (λ (x : ℕ). x % q) (mul-one p) ∙ mod-eq_of_lt (g.G.Group.below c.loop-l.product))
    ∙ c.loop-l.invariant
