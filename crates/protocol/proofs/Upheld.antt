-- Part (a): faithful seats stay qualified, the ceremony is never void, and its last Close waits only for their Reveals.
use Rattle.std.proofs.Common.{◌≡◌, ℕ, suc, ◌+◌, ◌≤◌, Bool, true, false, not, ◌||◌, leb, List, is_some, Some, None, Option, refl, ap, ◌∙◌, inl, inr, arith}
use Rattle.std.proofs.lemmas.Bool.{cases_Bool, and_from, or_cases, or_parts, leb-false, not-true, not-false, not_from_false}
use Rattle.group.specs.Meaning.{Meaning, Lawful}
use Rattle.protocol.specs.declared.kind.Kind.TheVariants as kinds
use Rattle.protocol.specs.declared.phase.Phase.TheVariants.{Void}
use Rattle.protocol.specs.declared.fault.CeremonyFault.TheVariants.{FewReveals}
use Rattle.protocol.specs.Seats.{count, every}
use Rattle.protocol.specs.Record.{Posted}
use Rattle.protocol.specs.Board.{Board, phase_of, phase_number, starts, revealed, qualified, contested, all_revealed}
use Rattle.protocol.specs.Refusals.{posting_fault}
use Rattle.protocol.specs.Custodian.{Custodian, share_from, to_reveal, owed_in, owed}
use Rattle.protocol.specs.History.{Call, Made, after}
use Rattle.protocol.specs.ReadBack.{RecordsReadBack, LettersReadBack}
use Rattle.protocol.specs.Guarantee.{Trusted, Upheld}
use Rattle.protocol.proofs.Counting.{clash, count_le, every_is, every_false}
use Rattle.protocol.proofs.Entries.{kind_same}
use Rattle.protocol.proofs.Phases.{starts_phase_lem, void_parts, late}
use Rattle.protocol.proofs.Histories.{board_after, limits}
use Rattle.protocol.proofs.Unchanged.{contested_qualified}
use Rattle.protocol.proofs.Owing.{owes_is, none_revealing}
use Rattle.protocol.proofs.Faith.{is_qualified_lem}
use Rattle.protocol.proofs.Holding.{held}
use Rattle.protocol.proofs.Wanting.{LastClose, last_close}

owes_reveal : (m : Meaning) (b : Board) (c : Custodian) → phase_number (phase_of m b) ≡ 6 → (i : ℕ) → 1 ≤ i → i ≤ b.n → to_reveal m b c i ≡ true
    → (r : Posted) × (owed m b c ≡ Some r) × (r.kind ≡ kinds.Reveal)
unfolding owed
owes_reveal m b c p i lo hi u = go (owed_in m b c (phase_of m b)) refl
  where
    go : (o : Option Posted) → owed_in m b c (phase_of m b) ≡ o → (r : Posted) × (owed_in m b c (phase_of m b) ≡ Some r) × (r.kind ≡ kinds.Reveal)
    go None e = clash (to_reveal m b c i) u (none_revealing m b c p e i lo hi)
    go (Some r) e = (r, e, kind_same r.kind kinds.Reveal ((owes_is m b c r (phase_of m b) e).kind ∙ ap suc p))

module _ (records_back : RecordsReadBack) (letters_back : LettersReadBack) (m : Meaning) (laws : Lawful m) (made : Made) (calls : List Call) (set : ℕ → Bool) (of : ℕ → ℕ) (trusted : Trusted m made calls set of) where
  abbrev b : Board
  b = board_after m made calls

  enough : b.n ≤ count b.n set + b.t
  enough = omega (arith, trusted.enough)

  stay_qualified : 4 ≤ starts b.taken → (i : ℕ) → set i ≡ true → qualified m b i ≡ true
  stay_qualified = is_qualified_lem records_back letters_back m laws made calls set of trusted.faithful enough

  never_void : phase_of m b ≡ Void → ⊥
  never_void v =
      let u = void_parts m b v in
      let c = count_le b.n set (qualified m b) (λ i _ _ f. stay_qualified (omega (arith, u.0)) i f) in
      omega (arith, c, (limits m made calls).few (omega (arith, u.0)), u.1, enough)

  module _ (bytes : List ℕ) (place : ℕ) (e : posting_fault m b bytes ≡ Some (FewReveals place)) where
    L : LastClose m b
    L = last_close m b bytes place e

    st : starts b.taken ≡ 6
    st = starts_phase_lem m b 6 L.phase (omega arith)

    short : (i : ℕ) × (1 ≤ i) × (i ≤ b.n) × ((not (contested m b i) || leb (b.t + 1) (count b.n (λ j. revealed b j i))) ≡ false)
    unfolding all_revealed
    short = every_false b.n (λ i. not (contested m b i) || leb (b.t + 1) (count b.n (λ j. revealed b j i))) L.few

    d : ℕ
    d = short.0

    parts : (not (contested m b d) ≡ false) × (leb (b.t + 1) (count b.n (λ j. revealed b j d)) ≡ false)
    unfolding d
    parts = or_parts (not (contested m b short.0)) (leb (b.t + 1) (count b.n (λ j. revealed b j short.0))) short.3

    contested_d : contested m b d ≡ true
    contested_d = not-false _ parts.0

    -- a faithful seat has revealed its share
    done : ℕ → Bool
    done j = not (set j) || revealed b j d

    not_all : every b.n done ≡ false
    unfolding done
    not_all =
        elim (cases_Bool (every b.n done)) [
          | inr a ↦ a
          | inl a ↦
              let c = count_le b.n set (λ j. revealed b j d)
              (λ j lo hi f. elim (or_cases (not (set j)) (revealed b j d) (every_is b.n done a j lo hi)) [ inl n ↦ clash (set j) f (not-true _ n) | inr r ↦ r ]) in
              absurd (omega (arith, c, leb-false _ _ parts.1, enough, (limits m made calls).few (omega (arith, st))))
        ]

    pub waits : (i : ℕ) × (c : Custodian) × (r : Posted) × (set i ≡ true) × ((after m made calls).custodians (of i) ≡ Some c) × (owed m b c ≡ Some r) × (r.kind ≡ kinds.Reveal)
    unfolding to_reveal done d
    waits =
        let w = every_false b.n done not_all in
        let j = w.0 in
        let u = or_parts (not (set j)) (revealed b j d) w.3 in
        let f = not-false _ u.0 in
        let S = trusted.faithful.seated_one j f in
        let H = held records_back letters_back m laws made calls set of trusted.faithful j f S.0 S.1 (omega (arith, st)) d (contested_qualified m b d contested_d) in
        let r = owes_reveal m b S.0 L.phase d short.1 short.2
        (and_from (contested m b d) _ contested_d (and_from (is_some (share_from m b S.0 d)) _ (ap is_some H.is) (not_from_false _ (ap (λ (k : ℕ). revealed b k d) S.2 ∙ u.1)))) in
        (j, S.0, r.0, f, S.1, r.1, r.2)

  pub upheld : Upheld m made calls set of
  upheld = record { stay_qualified = λ p. stay_qualified (late m b p); never_void = never_void; last_close = waits }
