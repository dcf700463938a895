-- The serving Reveals of a ceremony: their seats, and that their scalars are below q.
use Rattle.std.proofs.Common.{◌≡◌, ℕ, ◌+◌, ◌<◌, Some, None, Option, sym, refl, ap, ◌∙◌, subst, arith}
use Rattle.std.proofs.lemmas.Bool.{ltb-true}
use Rattle.group.specs.Code.{code_at}
use Rattle.group.specs.Meaning.{Meaning, Lawful}
use Rattle.sharing.specs.Codes.{scalar_refused}
use Rattle.sharing.specs.Interpolation.{Seats, Share}
use Rattle.sharing.specs.LinearLaws.{first_none, scalar_judged}
use Rattle.protocol.specs.declared.kind.Kind.TheVariants.{Reveal}
use Rattle.protocol.specs.Seats.{those}
use Rattle.protocol.specs.Board.{revealed, share_or0}
use Rattle.protocol.proofs.SeatLists.{those_seats, seats_take}
use Rattle.board_index.specs.State.{State, filled, board_of, look}
use Rattle.board_index.specs.Kept.{Kept}
use Rattle.board_index.proofs.Stored.{not_stored}
use Rattle.board.proofs.StoredCodes.{share_at, pair_taken, pair_decoded}
use Rattle.readings.specs.Serving.{serving_seats, share_of}

-- a revealed share has scalars below q, for its codes were judged
module _ (m : Meaning) (laws : Lawful m) (s : State) (kept : Kept m s) where
  pub revealed_below : (i j : ℕ) → Share m.q (share_of (board_of m s) i j)
  revealed_below i j = go (look s.places Reveal j i) refl
    where
      go : (o : Option ℕ) → look s.places Reveal j i ≡ o → Share m.q (share_of (board_of m s) i j)
      go None e =
          let zeros : ◌≡◌ {A = ℕ × ℕ} (0, 0) (share_of (board_of m s) i j) = sym (ap share_or0 (not_stored m s Reveal j i kept refl e)) in
          let above = laws.q_above in
          let pos : 0 < m.q = omega arith in
          subst (Share m.q) zeros (pos, pos)
      go (Some place) e =
          let S = share_at m s Reveal j i place kept refl refl e in
          let at = place + 6 in
          let bytes = filled s in
          let none = first_none (scalar_refused m bytes at) (scalar_refused m bytes (at + m.s)) (pair_taken m bytes at S.judged) in
          let is : ◌≡◌ {A = ℕ × ℕ} (code_at bytes m.s at, code_at bytes m.s (at + m.s)) (share_of (board_of m s) i j) = pair_decoded m bytes at ∙ sym (ap share_or0 S.codes) in
          subst (Share m.q) is (ltb-true _ _ (scalar_judged m bytes at none.0), ltb-true _ _ (scalar_judged m bytes (at + m.s) none.1))

  pub serving_seats_lem : (i : ℕ) → Seats (serving_seats (board_of m s) i)
  serving_seats_lem i =
      let n = kept.n in
      let few = kept.few in
      seats_take ((board_of m s).t + 1) (those (board_of m s).n (λ j. revealed (board_of m s) j i)) (those_seats (board_of m s).n (λ j. revealed (board_of m s) j i) (omega arith))
