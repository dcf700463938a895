-- Codes that no test says anything against.
use Rattle.std.proofs.Common.{◌≡◌, ℕ, zero, suc, ◌+◌, true, ltb, List, length, None, refl, ap}
use Rattle.std.specs.List.{AllByRecursion}
use Rattle.std.proofs.lemmas.Bool.{ltb-true}
use Rattle.group.specs.Code.{code_at}
use Rattle.group.specs.Meaning.{Meaning}
use Rattle.sharing.specs.Codes.{decoded_from, refused_from, element_refused, scalar_refused}
use Rattle.sharing.specs.LinearLaws.{element_judged, scalar_judged}
use Rattle.sharing.specs.Interpolation.{Share}
use Rattle.sharing.proofs.CodeWalk.{decoded_members}
use Rattle.protocol.specs.Board.{share_in}

pub decoded_length : {V : Type 0} (decoded : ℕ → V) (w p k : ℕ) → length (decoded_from decoded w p k) ≡ k
unfolding decoded_from
decoded_length decoded w p zero = refl
decoded_length decoded w p (suc k) = ap suc (decoded_length decoded w (p + w) k)

pub elements_members : (m : Meaning) (bytes : List ℕ) (at count : ℕ) → refused_from (element_refused m bytes) m.w at count ≡ None
    → AllByRecursion (λ u. m.member u ≡ true) (decoded_from (λ place. code_at bytes m.w place) m.w at count)
elements_members m bytes at count e =
    decoded_members (λ place. code_at bytes m.w place) m.w m.member (element_refused m bytes) (element_judged m bytes) at count e

-- the share in two scalar codes
pub share_below_lem : (m : Meaning) (bytes : List ℕ) (at : ℕ) → refused_from (scalar_refused m bytes) m.s at 2 ≡ None
    → Share m.q (share_in (decoded_from (λ place. code_at bytes m.s place) m.s at 2))
unfolding decoded_from
share_below_lem m bytes at e =
    let a = decoded_members (λ place. code_at bytes m.s place) m.s (λ n. ltb n m.q) (scalar_refused m bytes) (scalar_judged m bytes) at 2 e in
    (ltb-true _ _ a.0, ltb-true _ _ a.1.0)
