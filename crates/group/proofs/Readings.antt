-- What the two ways out of a reading tell.
use Rattle.std.proofs.Common.{◌≡◌, Some, None, Ok, Err, Option, Result, subst}
use Rattle.group.specs.declared.fault.GroupFault.{GroupFault}
use Rattle.group.specs.Reading.{Reads}

module _ {E V : Type 0} (refusal : Option GroupFault) (of : E → V) (v : V) (r : Result E GroupFault) where
  pub read_taken : (x : E) → Reads refusal of v r → r ≡ Ok x → (refusal ≡ None) × (of x ≡ v)
  read_taken x h e = subst (Reads refusal of v) e h

  pub read_refused : (fault : GroupFault) → Reads refusal of v r → r ≡ Err fault → refusal ≡ Some fault
  read_refused fault h e = subst (Reads refusal of v) e h
