-- A record of a seat leaves the phase as it is: it starts none, and from the close of the answers on it changes nothing of who is qualified.
use Rattle.std.proofs.Common.{◌≡◌, ℕ, Bool, true, cond, ◌&&◌, eqb, leb, List, sym, refl, ap, ◌∙◌, ap₂, inl, inr, arith}
use mathlib.Core.Path.{fun_ext}
use Rattle.std.proofs.lemmas.Bool.{ne_eqb, and_left, cases_eq}
use Rattle.group.specs.Meaning.{Meaning}
use Rattle.protocol.specs.declared.kind.Kind.{Kind}
use Rattle.protocol.specs.declared.kind.Kind.TheVariants as kinds
use Rattle.protocol.specs.declared.phase.Phase.TheVariants.{Void}
use Rattle.protocol.specs.Seats.{count}
use Rattle.protocol.specs.Record.{kind_number}
use Rattle.protocol.specs.Board.{Board, qualified, starts, is_void, phase_after, phase_of, phase_number}
use Rattle.protocol.specs.Refusals.{posted}
use Rattle.protocol.proofs.Entries.{by_kind, entry_other, starts_post}
use Rattle.protocol.proofs.Phases.{starts_phase_lem}
use Rattle.protocol.proofs.Taking.{added, by_seat}
use Rattle.protocol.proofs.Unchanged.{Same, qualified_same}
use Rattle.board_index.specs.State.{is_indexed}
use Rattle.board_index.proofs.Looking.{indexed_parts}
use Rattle.board_index.proofs.Posting.{Takes, added_kind}

module _ (m : Meaning) (b : Board) (bytes : List ℕ) (kind : Kind) (T : Takes m b bytes kind) where
  number : kind_number (added m b bytes).kind ≡ kind_number kind
  number = ap kind_number (added_kind m b bytes kind T)

  pub same_entries : (k : Kind) → (kind_number kind ≡ kind_number k → ⊥) → Same (posted m b bytes) b k
  same_entries k differ i j = entry_other (added m b bytes) b.taken k i j (by_kind (added m b bytes) k i j (λ e. differ (sym number ∙ e)))

  module _ (indexed : is_indexed kind ≡ true) where
    pub starts_still : starts (posted m b bytes).taken ≡ starts b.taken
    starts_still =
        let p = indexed_parts kind indexed in
        starts_post (added m b bytes) b.taken (omega (arith, number, p.0)) (omega (arith, number, p.1))

    -- the kind of the phase with four starts is the Exposure
    fifth : starts b.taken ≡ 4 → kind_number kind ≡ 5
    fifth four =
        let high = (indexed_parts kind indexed).1 in
        let home = (by_seat m b bytes kind T.silent (λ e. omega arith)).home in
        let now = starts_phase_lem m b (phase_number (phase_of m b)) refl (omega arith) in
        omega arith

    void_still : is_void m (posted m b bytes) ≡ is_void m b
    void_still = elim (cases_eq (starts b.taken) 4) [
      | inl four ↦
          let five = fifth four in
          let same : (i : ℕ) → qualified m (posted m b bytes) i ≡ qualified m b i =
          qualified_same m (posted m b bytes) b refl refl (same_entries kinds.Deal (λ e. omega arith)) (same_entries kinds.Complaint (λ e. omega arith)) (same_entries kinds.Answer (λ e. omega arith)) in
          ap₂ ◌&&◌ (ap (λ (n : ℕ). eqb n 4) starts_still) (ap (λ (f : ℕ → Bool). leb (count b.n f) b.t) (fun_ext same))
      | inr other ↦
          and_left (eqb (starts (posted m b bytes).taken) 4) _ (ne_eqb _ 4 (λ e. other (sym starts_still ∙ e)))
          ∙ sym (and_left (eqb (starts b.taken) 4) _ (ne_eqb _ 4 other))
    ]

    pub phase_still : phase_of m (posted m b bytes) ≡ phase_of m b
    unfolding phase_of
    phase_still = ap₂ (λ (v : Bool) (n : ℕ). cond v Void (phase_after n)) void_still starts_still
