-- What the index says of a record: it is taken, and where it begins.
use Rattle.std.proofs.Common.{◌≡◌, ℕ, true, is_some, Some, None, Option, sym, ap, subst}
use Rattle.group.specs.Meaning.{Meaning}
use Rattle.protocol.specs.declared.kind.Kind.{Kind}
use Rattle.protocol.specs.Board.{entry, has}
use Rattle.board_index.specs.State.{State, filled, board_of, is_indexed, look}
use Rattle.board_index.specs.Kept.{Stored, Indexed, Kept}

pub has_found : (m : Meaning) (s : State) (kind : Kind) (i j : ℕ) → Kept m s → is_indexed kind ≡ true
    → is_some (look s.places kind i j) ≡ has (board_of m s).taken kind i j
unfolding Indexed
has_found m s kind i j kept indexed = go (look s.places kind i j) (kept.index kind i j indexed)
  where
    go : (o : Option ℕ) → Indexed m (board_of m s) (filled s) kind i j o → is_some o ≡ has (board_of m s).taken kind i j
    go None h = sym (ap is_some h)
    go (Some place) h = sym (ap is_some h.codes)

pub stored_at : (m : Meaning) (s : State) (kind : Kind) (i j place : ℕ) → Kept m s → is_indexed kind ≡ true
    → look s.places kind i j ≡ Some place → Stored m (board_of m s) (filled s) kind i j place
unfolding Indexed
stored_at m s kind i j place kept indexed e = subst (Indexed m (board_of m s) (filled s) kind i j) e (kept.index kind i j indexed)

pub not_stored : (m : Meaning) (s : State) (kind : Kind) (i j : ℕ) → Kept m s → is_indexed kind ≡ true
    → look s.places kind i j ≡ None → entry (board_of m s).taken kind i j ≡ None
unfolding Indexed
not_stored m s kind i j kept indexed e = subst (Indexed m (board_of m s) (filled s) kind i j) e (kept.index kind i j indexed)
