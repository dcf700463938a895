use Rattle.std.proofs.Common.{◌≡◌, ◌-◌, ◌<◌}
use lib.Bits.{bit_xor}
use Rattle.binary_polynomials.specs.Polynomials.{sum_of_shifts}
use Rattle.binary_polynomials.proofs.NonzeroPolynomialsCandidatesQ.product.Given as goal

abbrev pub invariant-loop-k : goal.invariant-loop-k
invariant-loop-k l = (l.x < 131072) × (bit_xor l.sum (sum_of_shifts (17 - l._k) l.x l.y) ≡ sum_of_shifts 17 l.initial.x l.initial.y)
