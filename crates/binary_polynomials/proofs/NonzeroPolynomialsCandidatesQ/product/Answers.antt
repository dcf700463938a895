use Rattle.std.proofs.Common.{ℕ, ◌+◌, ◌-◌, ◌*◌, ◌/◌, ◌%◌, ◌<◌, sym, ap, ◌∙◌, subst, arith}
use lib.Bits.{bit_xor}
use Rattle.binary_polynomials.specs.Polynomials.{sum_of_shifts}
use Rattle.binary_polynomials.specs.PolynomialLaws.{bit_lt, times_z_lt, sum_turn, sum_end}
use Rattle.binary_polynomials.proofs.NonzeroPolynomialsCandidatesQ.product.Goals as goal

pub overflow_mul-sum : goal.overflow_mul-sum
overflow_mul-sum c = let b = bit_lt (c.loop-k.y % 2) c.loop-k.x c.loop-k.invariant.0 (omega arith) in omega arith

pub loop-k-preserved : goal.loop-k-preserved
loop-k-preserved c =
    let x = c.loop-k.x in
    let y = c.loop-k.y in
    let k = c.loop-k._k in (
      subst (λ (v : ℕ). v < 131072) (sym c.shifted-x.ensures) (times_z_lt x c.loop-k.invariant.0),
      ap (λ (v : ℕ). bit_xor (bit_xor c.loop-k.sum (y % 2 * x)) (sum_of_shifts (17 - (k + 1)) v (y / 2))) c.shifted-x.ensures
          ∙ sum_turn c.loop-k.sum (17 - (k + 1)) (17 - k) x y (omega arith) ∙ c.loop-k.invariant.1,
    )

pub returns : goal.returns
returns c = sym (sum_end c.loop-k.sum (17 - c.loop-k._k) c.loop-k.x c.loop-k.y (omega arith)) ∙ c.loop-k.invariant.1
