-- The phase that a Close begins.
use Rattle.std.proofs.Common.{◌≡◌, ℕ, suc, ◌<◌, ◌≤◌, Bool, cond, ◌&&◌, eqb, leb, List, Some, None, sym, refl, ap, ◌∙◌, ap₂, arith}
use mathlib.Core.Path.{fun_ext}
use Rattle.std.proofs.lemmas.Bool.{ne_eqb}
use Rattle.group.specs.Meaning.{Meaning}
use Rattle.protocol.specs.declared.kind.Kind.{Kind}
use Rattle.protocol.specs.declared.kind.Kind.TheVariants as kinds
use Rattle.protocol.specs.declared.phase.Phase.{Phase}
use Rattle.protocol.specs.declared.phase.Phase.TheVariants.{Unopened, Dealing, Complaining, Answering, Exposing, Objecting, Revealing, Finished, Void}
use Rattle.protocol.specs.Seats.{count}
use Rattle.protocol.specs.Record.{kind_number, kind_with, kind_field}
use Rattle.protocol.specs.Board.{Board, starts, qualified, phase_after, phase_of, phase_number}
use Rattle.protocol.specs.Refusals.{posting_fault, posted}
use Rattle.protocol.proofs.Entries.{by_kind, entry_other, starts_close}
use Rattle.protocol.proofs.Phases.{starts_phase_lem}
use Rattle.protocol.proofs.Taking.{Took, took, added, added_kind, Closing, closing}
use Rattle.protocol.proofs.Unchanged.{Same, qualified_same}

-- what follows each phase; `few` says whether t or fewer dealers are qualified
abbrev pub following : Phase → Bool → Phase
following Unopened few = Dealing
following Dealing few = Complaining
following Complaining few = Answering
following Answering few = cond few Void Exposing
following Exposing few = Objecting
following Objecting few = Revealing
following Revealing few = Finished
following Finished few = Finished
following Void few = Void

module _ (m : Meaning) (b : Board) (bytes : List ℕ) (none : posting_fault m b bytes ≡ None) (named : kind_with (kind_field bytes) ≡ Some kinds.Close) where
  T : Took m b bytes
  T = took m b bytes none

  is_close : T.kind ≡ kinds.Close
  unfolding T
  is_close = let e = (took m b bytes none).named in cc

  number : kind_number (added m b bytes).kind ≡ 8
  number = ap kind_number (added_kind m b bytes T ∙ is_close)

  one_more : starts (posted m b bytes).taken ≡ suc (starts b.taken)
  one_more = starts_close (added m b bytes) b.taken number

  same : (k : Kind) → kind_number k ≤ 7 → Same b (posted m b bytes) k
  same k low i j = sym (entry_other (added m b bytes) b.taken k i j (by_kind (added m b bytes) k i j (λ e. omega (arith, number))))

  as_many : count b.n (qualified m (posted m b bytes)) ≡ count b.n (qualified m b)
  as_many = ap (count b.n) (sym (fun_ext (λ i. qualified_same m b (posted m b bytes) refl refl (same kinds.Deal (omega arith)) (same kinds.Complaint (omega arith)) (same kinds.Answer (omega arith)) i)))

  limits : Closing m b
  limits = closing m b bytes T is_close

  later : (p : ℕ) → phase_number (phase_of m b) ≡ p → p < 7 → (p ≡ 3 → ⊥) → phase_of m (posted m b bytes) ≡ phase_after (suc p)
  unfolding phase_of
  later p e low other =
      let s : starts (posted m b bytes).taken ≡ suc p = one_more ∙ ap suc (starts_phase_lem m b p e low) in
      ap₂ (λ (v : Bool) (n : ℕ). cond (v && leb (count b.n (qualified m (posted m b bytes))) b.t) Void (phase_after n))
      (ne_eqb (starts (posted m b bytes).taken) 4 (λ four. other (omega arith))) s

  answers_closed : phase_number (phase_of m b) ≡ 3 → phase_of m (posted m b bytes) ≡ cond (leb (count b.n (qualified m b)) b.t) Void Exposing
  unfolding phase_of phase_after
  answers_closed e =
      let s : starts (posted m b bytes).taken ≡ 4 = one_more ∙ ap suc (starts_phase_lem m b 3 e (omega arith)) in
      ap₂ (λ (k n : ℕ). cond (eqb k 4 && leb n b.t) Void (phase_after k)) s as_many

  pub next_is : (phase : Phase) → phase ≡ phase_of m b → following phase (leb (count b.n (qualified m b)) b.t) ≡ phase_of m (posted m b bytes)
  unfolding phase_after
  next_is Unopened e = absurd (let z = ap phase_number e in omega (arith, limits.low))
  next_is Dealing e = sym (later 1 (sym (ap phase_number e)) (omega arith) (λ x. omega arith))
  next_is Complaining e = sym (later 2 (sym (ap phase_number e)) (omega arith) (λ x. omega arith))
  next_is Answering e = sym (answers_closed (sym (ap phase_number e)))
  next_is Exposing e = sym (later 4 (sym (ap phase_number e)) (omega arith) (λ x. omega arith))
  next_is Objecting e = sym (later 5 (sym (ap phase_number e)) (omega arith) (λ x. omega arith))
  next_is Revealing e = sym (later 6 (sym (ap phase_number e)) (omega arith) (λ x. omega arith))
  next_is Finished e = absurd (let z = ap phase_number e in omega (arith, limits.high))
  next_is Void e = absurd (let z = ap phase_number e in omega (arith, limits.high))
