use Rattle.group.specs.PowerLaws.{power_add, power_mul, power_mod, power_op}
use Rattle.group.proofs.powers.powers_obey_laws.Goals as goal

pub returns : goal.returns
returns c m laws u v hu hv a b = let ab = laws.commutative in record {
  sum = power_add ab u a b hu;
  multiple = power_mul ab u a b hu;
  modulo = power_mod ab u a m.q hu (laws.order u hu);
  of_product = power_op ab u v a hu hv;
}
