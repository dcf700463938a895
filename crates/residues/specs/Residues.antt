-- Group 1: residues modulo 2039. Definitions.
use Rattle.std.specs.Prelude.{ℕ, ◌*◌, ◌%◌}
use Rattle.group.specs.Monoid.{Monoid}
use Rattle.group.specs.Meaning.{Meaning}
use Rattle.group.specs.Subgroup.{positive_below, roots}

abbrev pub times_modulo : Monoid ℕ
times_modulo = record { op = λ u v. (u * v) % 2039; unit = 1 }

abbrev pub residues : Meaning
residues = record {
  number = 1;
  w = 2;
  s = 2;
  q = 1019;
  candidate = positive_below 2039;
  member = roots (positive_below 2039) times_modulo 1019;
  product = times_modulo.op;
  unit = 1;
  g = 4;
  h = 9;
}
