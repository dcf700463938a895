use Rattle.std.proofs.Common.{ℕ, ◌*◌, ◌%◌, ◌<◌, eqb, sym, ap, ◌∙◌, ap₂, mod-eq_of_lt, arith}
use Rattle.std.proofs.lemmas.Bool.{cond-true, cond-false, eq-eqb, ne_eqb}
use Rattle.sharing.specs.Interpolation.{minus, inverse, factor}
use Rattle.sharing.proofs.Differences.{minus_below, minus_positive}
use Rattle.sharing.proofs.Inverses.{inverse_unique}
use Rattle.sharing.proofs.interpolation.factor_of.Goals as goal

pub returns-then-l-m : goal.returns-then-l-m
unfolding factor
returns-then-l-m g c =
    let above = g.G.Group.lawful.q_above in
    let one : 1 < g.G.Group.meaning.q = omega arith in
    c.reduced.ensures ∙ mod-eq_of_lt one ∙ sym (cond-true (eqb c.args.l c.args.m) 1 _ (eq-eqb _ _ c.if-l-m.true))

pub unreachable-requires : goal.unreachable-requires
unreachable-requires g c =
    let above = g.G.Group.lawful.q_above in
    let some = minus_positive g.G.Group.meaning.q c.args.l c.args.m (omega (arith, c.requires.0)) (omega (arith, c.requires.1)) c.if-l-m.false in
    omega (arith, c.in-None.ensures, c.difference_of.ensures)

pub returns : goal.returns
unfolding factor
returns g c =
    let m = g.G.Group.meaning in
    let q = m.q in
    let l = c.args.l in
    let above = g.G.Group.lawful.q_above in
    let below : l < q = omega (arith, c.requires.0) in
    let d = minus q l c.args.m in
    let some = minus_positive q l c.args.m below (omega (arith, c.requires.1)) c.if-l-m.false in
    let y = g.G.Group.scalar_of c.in-Some.inverse in
    let one = sym (ap (λ (x : ℕ). (y * x) % q) c.difference_of.ensures) ∙ c.in-Some.ensures in
    let is = inverse_unique q g.G.Group.lawful.q_prime d some (minus_below q l c.args.m (omega arith)) y (g.G.Group.below c.in-Some.inverse) one in
    c.multiply.ensures
    ∙ ap₂ (λ (x i : ℕ). (x * i) % q) (c.reduced-in-Some.ensures ∙ mod-eq_of_lt below) is
    ∙ sym (cond-false (eqb l c.args.m) 1 ((l * inverse q d) % q) (ne_eqb _ _ c.if-l-m.false))
