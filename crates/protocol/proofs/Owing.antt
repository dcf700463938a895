-- What an owed record says, and what it says that none is owed.
use Rattle.std.proofs.Common.{◌≡◌, ℕ, suc, ◌≤◌, Bool, true, false, cond, not, ◌&&◌, List, [], map, is_some, Some, None, sym, refl, ap, ◌∙◌, inl, inr, arith}
use Rattle.std.proofs.lemmas.Bool.{cases_Bool, cond-false}
use Rattle.group.specs.Meaning.{Meaning}
use Rattle.sharing.specs.Commitment.{commitment}
use Rattle.protocol.specs.declared.kind.Kind.{Kind}
use Rattle.protocol.specs.declared.kind.Kind.TheVariants as kinds
use Rattle.protocol.specs.declared.phase.Phase.{Phase}
use Rattle.protocol.specs.declared.phase.Phase.TheVariants.{Unopened, Dealing, Complaining, Answering, Exposing, Objecting, Revealing, Finished, Void}
use Rattle.protocol.specs.Seats.{lowest}
use Rattle.protocol.specs.Record.{Posted, kind_number}
use Rattle.protocol.specs.Board.{Board, phase_of, phase_number, phase_after, deal_of, exposure_of, qualified}
use Rattle.protocol.specs.Custodian.{Custodian, own_share, exposed, share_from, to_complain_of, to_answer, to_object_to, to_reveal, share_codes, by, owed_in, owed}
use Rattle.protocol.proofs.Counting.{none_some, same_some, lowest_some, lowest_none}
use Rattle.protocol.proofs.Faults.{mapped_none, mapped_some}
use Rattle.protocol.proofs.Phases.{phase_is}

pub record Owes (m : Meaning) (b : Board) (c : Custodian) (r : Posted) (p : ℕ) : Type 0 where
  pub kind : kind_number r.kind ≡ suc p
  pub writer : r.writer ≡ c.seat
  pub deal : p ≡ 1 → r.codes ≡ map (commitment m) c.coefficients
  pub complaint : p ≡ 2 → to_complain_of m b c r.second ≡ true
  pub answer : p ≡ 3 → r.codes ≡ share_codes (Some (own_share m c r.second))
  pub exposure : p ≡ 4 → r.codes ≡ map (exposed m) c.coefficients

-- the record of a kind that belongs to another phase than these
other_kind : (m : Meaning) (b : Board) (c : Custodian) (kind : Kind) (j : ℕ) (codes : List ℕ) (p : ℕ) → kind_number kind ≡ suc p → 5 ≤ p → Owes m b c (by c kind j codes) p
other_kind m b c kind j codes p e h =
    record { kind = e; writer = refl; deal = λ q. absurd (omega arith); complaint = λ q. absurd (omega arith); answer = λ q. absurd (omega arith); exposure = λ q. absurd (omega arith) }

pub owes_is : (m : Meaning) (b : Board) (c : Custodian) (r : Posted) (phase : Phase) → owed_in m b c phase ≡ Some r → Owes m b c r (phase_number phase)
unfolding owed_in
owes_is m b c r Unopened e = none_some r e
owes_is m b c r Dealing e = go (is_some (deal_of b c.seat)) e
  where
    d : Posted
    d = by c kinds.Deal 0 (map (commitment m) c.coefficients)

    go : (x : Bool) → cond x None (Some d) ≡ Some r → Owes m b c r 1
    go true e = none_some r e
    go false e =
        let w : d ≡ r = same_some d r e in
        rw (← w) (record { kind = refl; writer = refl; deal = λ _. refl; complaint = λ q. absurd (omega arith); answer = λ q. absurd (omega arith); exposure = λ q. absurd (omega arith) })
owes_is m b c r Complaining e =
    let u = mapped_some (λ i. by c kinds.Complaint i []) (lowest b.n (to_complain_of m b c)) r e in
    rw (← u.2) (record { kind = refl; writer = refl; deal = λ q. absurd (omega arith); complaint = λ _. (lowest_some b.n (to_complain_of m b c) u.0 u.1).2; answer = λ q. absurd (omega arith); exposure = λ q. absurd (omega arith) })
owes_is m b c r Answering e =
    let u = mapped_some (λ j. by c kinds.Answer j (share_codes (Some (own_share m c j)))) (lowest b.n (to_answer b c)) r e in
    rw (← u.2) (record { kind = refl; writer = refl; deal = λ q. absurd (omega arith); complaint = λ q. absurd (omega arith); answer = λ q. refl; exposure = λ q. absurd (omega arith) })
owes_is m b c r Exposing e = go (qualified m b c.seat && not (is_some (exposure_of b c.seat))) e
  where
    d : Posted
    d = by c kinds.Exposure 0 (map (exposed m) c.coefficients)

    go : (x : Bool) → cond x (Some d) None ≡ Some r → Owes m b c r 4
    go false e = none_some r e
    go true e =
        let w : d ≡ r = same_some d r e in
        rw (← w) (record { kind = refl; writer = refl; deal = λ q. absurd (omega arith); complaint = λ q. absurd (omega arith); answer = λ q. absurd (omega arith); exposure = λ q. refl })
owes_is m b c r Objecting e =
    let u = mapped_some (λ i. by c kinds.Objection i (share_codes (share_from m b c i))) (lowest b.n (to_object_to m b c)) r e in
    rw (← u.2) (other_kind m b c kinds.Objection u.0 _ 5 refl (omega arith))
owes_is m b c r Revealing e =
    let u = mapped_some (λ i. by c kinds.Reveal i (share_codes (share_from m b c i))) (lowest b.n (to_reveal m b c)) r e in
    rw (← u.2) (other_kind m b c kinds.Reveal u.0 _ 6 refl (omega arith))
owes_is m b c r Finished e = none_some r e
owes_is m b c r Void e = none_some r e

module _ (m : Meaning) (b : Board) (c : Custodian) where
  owed_in_lem : (phase : Phase) → phase_of m b ≡ phase → owed m b c ≡ owed_in m b c phase
  unfolding owed
  owed_in_lem phase e = ap (owed_in m b c) e

  pub none_dealing : phase_number (phase_of m b) ≡ 1 → owed m b c ≡ None → is_some (deal_of b c.seat) ≡ true
  unfolding owed_in phase_after
  none_dealing p e =
      elim (cases_Bool (is_some (deal_of b c.seat))) [
        | inl h ↦ h
        | inr h ↦ none_some _ (sym (sym (owed_in_lem Dealing (phase_is m b 1 p (omega arith))) ∙ e) ∙ cond-false _ _ _ h)
      ]

  pub none_complaining : phase_number (phase_of m b) ≡ 2 → owed m b c ≡ None → (i : ℕ) → 1 ≤ i → i ≤ b.n → to_complain_of m b c i ≡ false
  unfolding owed_in phase_after
  none_complaining p e = lowest_none b.n (to_complain_of m b c) (mapped_none _ _ (sym (owed_in_lem Complaining (phase_is m b 2 p (omega arith))) ∙ e))

  pub none_answering : phase_number (phase_of m b) ≡ 3 → owed m b c ≡ None → (j : ℕ) → 1 ≤ j → j ≤ b.n → to_answer b c j ≡ false
  unfolding owed_in phase_after
  none_answering p e = lowest_none b.n (to_answer b c) (mapped_none _ _ (sym (owed_in_lem Answering (phase_is m b 3 p (omega arith))) ∙ e))

  pub none_objecting : phase_number (phase_of m b) ≡ 5 → owed m b c ≡ None → (i : ℕ) → 1 ≤ i → i ≤ b.n → to_object_to m b c i ≡ false
  unfolding owed_in phase_after
  none_objecting p e = lowest_none b.n (to_object_to m b c) (mapped_none _ _ (sym (owed_in_lem Objecting (phase_is m b 5 p (omega arith))) ∙ e))

  pub none_revealing : phase_number (phase_of m b) ≡ 6 → owed m b c ≡ None → (i : ℕ) → 1 ≤ i → i ≤ b.n → to_reveal m b c i ≡ false
  unfolding owed_in phase_after
  none_revealing p e = lowest_none b.n (to_reveal m b c) (mapped_none _ _ (sym (owed_in_lem Revealing (phase_is m b 6 p (omega arith))) ∙ e))
