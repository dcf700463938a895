-- A ceremony's fact has one proof at most, as a fact that a type carries must. Proofs.
use Rattle.std.specs.Prelude.{◌≡◌, ℕ, ◌⊎◌, List, Some, None, Option}
use Rattle.std.proofs.Props.{props}
use Rattle.std.proofs.Common.{ap, inl, inr, arith}
use mathlib.Core.Sum.{⊎_set}
use Rattle.group.specs.Meaning.{Meaning}
use Rattle.protocol.specs.declared.kind.Kind.{Kind}
use Rattle.protocol.specs.Board.{Board}
use Rattle.board_index.specs.State.{State}
use Rattle.board_index.specs.Kept.{Stored, Indexed, Opened, Kept}

stored_prop : (m : Meaning) (b : Board) (bytes : List ℕ) (kind : Kind) (i j place : ℕ) → IsProp (Stored m b bytes kind i j place)
stored_prop m b bytes kind i j place = hlevel (props, ⊎_set)

indexed_prop : (m : Meaning) (b : Board) (bytes : List ℕ) (kind : Kind) (i j : ℕ) (found : Option ℕ) → IsProp (Indexed m b bytes kind i j found)
unfolding Indexed
indexed_prop m b bytes kind i j None = hlevel (props, ⊎_set)
indexed_prop m b bytes kind i j (Some place) = stored_prop m b bytes kind i j place

either_prop : {A B : Type 0} → IsProp A → IsProp B → (A → B → ⊥) → IsProp (A ⊎ B)
either_prop a b apart (inl x) (inl y) = ap inl (a x y)
either_prop a b apart (inl x) (inr y) = absurd (apart x y)
either_prop a b apart (inr x) (inl y) = absurd (apart y x)
either_prop a b apart (inr x) (inr y) = ap inr (b x y)

pub kept_prop : (m : Meaning) (s : State) → IsProp (Kept m s)
kept_prop m s =
    let opened : IsProp ((s.used ≡ 0) ⊎ Opened m s) = either_prop (hlevel props) (hlevel props) (λ none o. omega (arith, o.opening)) in
    hlevel (props, ⊎_set, opened, indexed_prop)
