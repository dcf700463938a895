-- What a dealer makes of its coefficients a_0 .. a_t, b_0 .. b_t, which stand in bytes as scalar codes. Definitions.
use Rattle.std.specs.Prelude.{◌≡◌, ℕ, ◌+◌, ◌*◌, true, List}
use Rattle.group.specs.Code.{code_at}
use Rattle.group.specs.Meaning.{Meaning, Lawful}
use Rattle.protocol.specs.declared.kind.Kind.TheVariants.{Deal}
use Rattle.protocol.specs.Record.{Posted}
use Rattle.sharing.specs.Linear.{scalar_sum}
use Rattle.sharing.specs.Value.{value_at}
use Rattle.sharing.specs.Codes.{decoded_from}
use Rattle.sharing.specs.Commitment.{commitment, equation1}

-- `count` scalars from a place on
abbrev pub scalars_from : Meaning → List ℕ → ℕ → ℕ → List ℕ
scalars_from m bytes at count = decoded_from (λ place. code_at bytes m.s place) m.s at count

-- C_0 .. C_t, where C_k is the commitment to (a_k, b_k); `count` is t + 1, and the code of b_k stands `count` codes behind that of a_k
abbrev pub commitments_of : Meaning → List ℕ → ℕ → List ℕ
commitments_of m bytes count =
    decoded_from (λ place. commitment m (code_at bytes m.s place, code_at bytes m.s (place + count * m.s))) m.s 0 count

-- the Deal of a dealer
abbrev pub deal_of : ℕ → List ℕ → Posted
deal_of seat commitments = record { kind = Deal; writer = seat; second = 0; codes = commitments }

-- the share for a seat: the values there of a_0 .. a_t and of b_0 .. b_t
abbrev pub share_for : Meaning → List ℕ → ℕ → ℕ → ℕ × ℕ
share_for m bytes count seat =
    (value_at (scalar_sum m.q) (scalars_from m bytes 0 count) seat, value_at (scalar_sum m.q) (scalars_from m bytes (count * m.s) count) seat)

-- each share that is dealt passes equation 1, in every group
abbrev pub DealtSharesOpen : Type 0
DealtSharesOpen =
    (m : Meaning) → Lawful m → (bytes : List ℕ) (count seat : ℕ)
    → equation1 m (commitments_of m bytes count) seat (share_for m bytes count seat) ≡ true
