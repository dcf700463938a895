use Rattle.std.specs.Slice.Iter.{iter_rest}
use Rattle.group.proofs.CodeSteps.{Read}
use Rattle.group.proofs.codes.read_code.Given as goal

abbrev pub invariant-loop-byte : goal.invariant-loop-byte
invariant-loop-byte l = Read l.bytes l.width l.at (iter_rest l.byte-iterator.iter) l.n
