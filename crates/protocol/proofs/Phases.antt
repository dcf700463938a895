-- Phases and the number of records that have started one.
use Rattle.std.proofs.Common.{◌≡◌, ℕ, zero, suc, ◌<◌, ◌≤◌, Bool, true, false, cond, eqb, leb, ◌⊎◌, refl, ap, ◌∙◌, inl, inr, arith}
use Rattle.std.proofs.lemmas.Bool.{and_parts, eqb-true, ne_eqb, leb-true, cond-false}
use Rattle.group.specs.Meaning.{Meaning}
use Rattle.protocol.specs.declared.phase.Phase.TheVariants.{Unopened, Dealing, Complaining, Answering, Exposing, Objecting, Revealing, Finished, Void}
use Rattle.protocol.specs.Seats.{count}
use Rattle.protocol.specs.Board.{Board, phase_number, starts, is_void, phase_after, phase_of, qualified}

last_phase : (n : ℕ) → 7 ≤ n → phase_after n ≡ Finished
unfolding phase_after
last_phase n h =
    cond-false _ Unopened _ (ne_eqb n 0 (λ e. omega arith)) ∙ cond-false _ Dealing _ (ne_eqb n 1 (λ e. omega arith)) ∙ cond-false _ Complaining _ (ne_eqb n 2 (λ e. omega arith))
    ∙ cond-false _ Answering _ (ne_eqb n 3 (λ e. omega arith)) ∙ cond-false _ Exposing _ (ne_eqb n 4 (λ e. omega arith)) ∙ cond-false _ Objecting _ (ne_eqb n 5 (λ e. omega arith))
    ∙ cond-false _ Revealing _ (ne_eqb n 6 (λ e. omega arith))

pub after_number : (n : ℕ) → ((n < 7) × (phase_number (phase_after n) ≡ n)) ⊎ ((7 ≤ n) × (phase_after n ≡ Finished))
unfolding phase_after
after_number zero = inl (omega arith, refl)
after_number (suc zero) = inl (omega arith, refl)
after_number (suc (suc zero)) = inl (omega arith, refl)
after_number (suc (suc (suc zero))) = inl (omega arith, refl)
after_number (suc (suc (suc (suc zero)))) = inl (omega arith, refl)
after_number (suc (suc (suc (suc (suc zero))))) = inl (omega arith, refl)
after_number (suc (suc (suc (suc (suc (suc zero)))))) = inl (omega arith, refl)
after_number (suc (suc (suc (suc (suc (suc (suc n))))))) = inr (omega arith, last_phase (suc (suc (suc (suc (suc (suc (suc n))))))) (omega arith))

-- a phase is void, or the one that the starts say
pub phase_cases : (m : Meaning) (b : Board) →
    ((phase_of m b ≡ Void) × (starts b.taken ≡ 4) × (count b.n (qualified m b) ≤ b.t)) ⊎ (phase_of m b ≡ phase_after (starts b.taken))
unfolding phase_of
phase_cases m b = go (is_void m b) refl
  where
    go : (v : Bool) → is_void m b ≡ v →
        ((cond v Void (phase_after (starts b.taken)) ≡ Void) × (starts b.taken ≡ 4) × (count b.n (qualified m b) ≤ b.t))
        ⊎ (cond v Void (phase_after (starts b.taken)) ≡ phase_after (starts b.taken))
    go true e = let p = and_parts (eqb (starts b.taken) 4) (leb (count b.n (qualified m b)) b.t) e in inl (refl, eqb-true _ _ p.0, leb-true _ _ p.1)
    go false e = inr refl

pub starts_phase_lem : (m : Meaning) (b : Board) (p : ℕ) → phase_number (phase_of m b) ≡ p → p < 7 → starts b.taken ≡ p
starts_phase_lem m b p e h =
    elim (phase_cases m b) [
      | inl v ↦ let z : phase_number (phase_of m b) ≡ 8 = ap phase_number v.0 in absurd (omega arith)
      | inr v ↦
          let z : phase_number (phase_of m b) ≡ phase_number (phase_after (starts b.taken)) = ap phase_number v in
          elim (after_number (starts b.taken)) [
            | inl u ↦ omega (arith, u.1)
            | inr u ↦ let y : phase_number (phase_after (starts b.taken)) ≡ 7 = ap phase_number u.1 in absurd (omega arith)
          ]
    ]

pub phase_is : (m : Meaning) (b : Board) (p : ℕ) → phase_number (phase_of m b) ≡ p → p < 7 → phase_of m b ≡ phase_after p
phase_is m b p e h =
    elim (phase_cases m b) [
      | inl v ↦ let z : phase_number (phase_of m b) ≡ 8 = ap phase_number v.0 in absurd (omega arith)
      | inr v ↦ v ∙ ap phase_after (starts_phase_lem m b p e h)
    ]

pub finished_starts : (m : Meaning) (b : Board) → phase_of m b ≡ Finished → 7 ≤ starts b.taken
finished_starts m b e =
    let f : phase_number (phase_of m b) ≡ 7 = ap phase_number e in
    elim (phase_cases m b) [
      | inl v ↦ let z : phase_number (phase_of m b) ≡ 8 = ap phase_number v.0 in absurd (omega arith)
      | inr v ↦
          let z : phase_number (phase_of m b) ≡ phase_number (phase_after (starts b.taken)) = ap phase_number v in
          elim (after_number (starts b.taken)) [
            | inl u ↦ absurd (omega (arith, u.1, u.0))
            | inr u ↦ u.0
          ]
    ]

pub void_parts : (m : Meaning) (b : Board) → phase_of m b ≡ Void → (starts b.taken ≡ 4) × (count b.n (qualified m b) ≤ b.t)
void_parts m b e =
    let f : phase_number (phase_of m b) ≡ 8 = ap phase_number e in
    elim (phase_cases m b) [
      | inl v ↦ (v.1, v.2)
      | inr v ↦
          let z : phase_number (phase_of m b) ≡ phase_number (phase_after (starts b.taken)) = ap phase_number v in
          elim (after_number (starts b.taken)) [
            | inl u ↦ absurd (omega (arith, u.1, u.0))
            | inr u ↦ let y : phase_number (phase_after (starts b.taken)) ≡ 7 = ap phase_number u.1 in absurd (omega arith)
          ]
    ]

-- from the close of the answers on
pub late : (m : Meaning) (b : Board) → 4 ≤ phase_number (phase_of m b) → 4 ≤ starts b.taken
late m b p =
    elim (phase_cases m b) [
      | inl v ↦ omega (arith, v.1)
      | inr v ↦
          let z : phase_number (phase_of m b) ≡ phase_number (phase_after (starts b.taken)) = ap phase_number v in
          elim (after_number (starts b.taken)) [
            | inl u ↦ omega (arith, u.1)
            | inr u ↦ omega (arith, u.0)
          ]
    ]
