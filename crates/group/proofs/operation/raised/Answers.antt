use Rattle.std.proofs.Common.{◌≡◌, ℕ, ◌/◌, sym, ap, ◌∙◌, ap₂, arith}
use Rattle.group.specs.Monoid.{power}
use Rattle.group.specs.PowerLaws.{neutral_right, turn_even, turn_odd, power_member, power_zero}
use Rattle.group.proofs.operation.raised.Goals as goal
use Rattle.group.proofs.operation.raised.Goals.{then-left-eq1, else-left-eq1}

pub loop-left-init : goal.loop-left-init
loop-left-init g c =
    let o = g.O.Operation in
    let laws = o.commutative in
    let u = o.number_of c.args.u in
    ap (λ (x : ℕ). o.monoid.op x (power o.monoid u c.args.n)) c.unit-acc.ensures
    ∙ laws.neutral (power o.monoid u c.args.n) (power_member laws u c.args.n (o.inside c.args.u))

pub loop-left-preserved : goal.loop-left-preserved
loop-left-preserved g c =
    let o = g.O.Operation in
    let number = o.number_of in
    let laws = o.commutative in
    let base = c.loop-left.base in
    let acc = c.loop-left.acc in
    let n = c.loop-left.left in
    elim c.if-left-eq1.branch [
      | then-left-eq1 w ↦
          ap₂ (λ (x y : ℕ). o.monoid.op x (power o.monoid y (n / 2))) (ap number w.acc-is ∙ w.combine-acc.ensures) c.combine-base.ensures
          ∙ turn_odd laws (number acc) (number base) n (o.inside acc) (o.inside base) w.if-left-eq1.true ∙ c.loop-left.invariant
      | else-left-eq1 w ↦
          let odd = w.if-left-eq1.false in
          ap₂ (λ (x y : ℕ). o.monoid.op x (power o.monoid y (n / 2))) (ap number w.acc-is) c.combine-base.ensures
          ∙ turn_even laws (number acc) (number base) n (o.inside base) (omega (arith, odd)) ∙ c.loop-left.invariant
    ]

pub returns : goal.returns
returns g c =
    let o = g.O.Operation in
    let laws = o.commutative in
    let acc = c.loop-left.acc in
    let base = o.number_of c.loop-left.base in
    let none : ◌≡◌ {A = ℕ} 0 c.loop-left.left = omega arith in
    sym (neutral_right laws (o.number_of acc) (o.inside acc))
    ∙ ap (o.monoid.op (o.number_of acc)) (sym (power_zero laws base) ∙ ap (power o.monoid base) none)
    ∙ c.loop-left.invariant
