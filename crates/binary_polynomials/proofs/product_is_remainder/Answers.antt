use Rattle.binary_polynomials.proofs.Remainders.{product_is_remainder_lem}
use Rattle.binary_polynomials.proofs.product_is_remainder.Goals as goal

pub returns : goal.returns
returns c = product_is_remainder_lem
