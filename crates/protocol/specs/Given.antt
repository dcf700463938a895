-- A seated custodian's calls give it what it owes and its sheet. Statement.
use Rattle.std.specs.Prelude.{◌≡◌, ℕ, ◌<◌, ◌≤◌, List, length, Some, None, Option}
use Rattle.group.specs.Meaning.{Meaning}
use Rattle.protocol.specs.declared.phase.Phase.TheVariants.{Finished}
use Rattle.protocol.specs.declared.fault.CustodianFault.{CustodianFault}
use Rattle.protocol.specs.declared.fault.CustodianFault.TheVariants.{TooSmall}
use Rattle.protocol.specs.Record.{Posted, write_record}
use Rattle.protocol.specs.Board.{phase_of}
use Rattle.protocol.specs.Custodian.{Custodian, Sheet, owed, owed_bytes, owing_fault, sheet_of, write_sheet, sheet_bytes, sheet_fault}
use Rattle.protocol.specs.History.{Call, Made, State, after}

-- a call gives these bytes wherever they fit, and is refused for want of room elsewhere
pub record Gives (answer : Option (List ℕ)) (fault : ℕ → Option CustodianFault) (bytes : List ℕ) : Type 0 where
  pub given : answer ≡ Some bytes
  pub fits : (room : ℕ) → length bytes ≤ room → fault room ≡ None
  pub too_small : (room : ℕ) → room < length bytes → fault room ≡ Some TooSmall

-- the call for the owed record gives the custodian k the record r
abbrev pub OwedGiven : Meaning → State → ℕ → Posted → Type 0
OwedGiven m state k r = Gives (owed_bytes m state.board (state.custodians k)) (owing_fault m state.board (state.custodians k)) (write_record m r)

-- the call for the sheet gives it the sheet s
abbrev pub SheetGiven : Meaning → State → ℕ → Sheet → Type 0
SheetGiven m state k s = Gives (sheet_bytes m state.board (state.custodians k)) (sheet_fault m state.board (state.custodians k)) (write_sheet m s)

abbrev pub CallsGiven : Type 0
CallsGiven =
    (m : Meaning) (made : Made) (calls : List Call) (k : ℕ) (c : Custodian) → (after m made calls).custodians k ≡ Some c
    → ((r : Posted) → owed m (after m made calls).board c ≡ Some r → OwedGiven m (after m made calls) k r)
    × (phase_of m (after m made calls).board ≡ Finished → (s : Sheet) → sheet_of m (after m made calls).board c ≡ Some s → SheetGiven m (after m made calls) k s)
