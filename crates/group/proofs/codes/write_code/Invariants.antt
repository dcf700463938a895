use Rattle.std.proofs.Common.{◌≡◌, ◌-◌, ◌++◌, take}
use Rattle.group.specs.Code.{code}
use Rattle.group.proofs.codes.write_code.Given as goal

abbrev pub invariant-loop-byte : goal.invariant-loop-byte
invariant-loop-byte l = take l.byte-index l.byte-items ++ code (l.width - l.byte-index) l.left ≡ code l.width l.n
