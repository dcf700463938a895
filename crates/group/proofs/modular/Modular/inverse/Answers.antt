use Rattle.std.proofs.Common.{ℕ, ◌*◌, ◌%◌, ◌<◌, ap, ◌∙◌, ⊎_elim, mod-lt, arith}
use Rattle.std.proofs.lemmas.Bool.{cases_eq}
use Rattle.group.specs.ModularLaws.{inverse_turn}
use Rattle.group.proofs.modular.Modular.inverse.Goals as goal

pub loop-rest-preserved : goal.loop-rest-preserved
loop-rest-preserved g c =
    let inv = c.loop-rest.invariant in
    let q = g.row.Q in
    let b = c.loop-rest.rest in
    let t = c.loop-rest.inverse.value in
    let a = c.args.self.value in
    let rest = mod-lt q inv.0 in
    let pos : 0 < q % b = ⊎_elim (λ e. absurd (c.requires.no_divisor b c.loop-rest-test.true inv.1 e)) (λ ne. omega (arith, ne)) (cases_eq (q % b) 0) in
    (pos, omega arith, ap (λ (x : ℕ). (x * a) % q) (c.mul-inverse.ensures ∙ ap (λ (x : ℕ). (t * x) % q) c.new.ensures) ∙ inverse_turn q t b a inv.0 inv.1 inv.2)
