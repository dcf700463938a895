-- The records on the board: what their codes are, and what held when they were taken.
use Rattle.std.proofs.Common.{◌≡◌, ℕ, ◌+◌, ◌≤◌, true, List, length, is_some, Some, sym, ap, ◌∙◌, subst, arith}
use Rattle.std.specs.List.{AllByRecursion}
use Rattle.std.proofs.lemmas.Bool.{eqb-true}
use Rattle.group.specs.Meaning.{Meaning, products}
use Rattle.sharing.specs.Value.{value_at}
use Rattle.sharing.specs.Commitment.{commitment, equation1}
use Rattle.sharing.specs.Interpolation.{Share}
use Rattle.protocol.specs.declared.kind.Kind.{Kind}
use Rattle.protocol.specs.declared.kind.Kind.TheVariants as kinds
use Rattle.protocol.specs.Record.{Posted, kind_number, read_record, writer_of}
use Rattle.protocol.specs.Board.{Board, entry, share_in, deal_of, passes1}
use Rattle.protocol.specs.Refusals.{tests_of}
use Rattle.protocol.specs.History.{Call, Made}
use Rattle.protocol.proofs.Counting.{some_of, same_some, holds_true, seat_parts}
use Rattle.protocol.proofs.Faults.{unless_true, mapped_none}
use Rattle.protocol.proofs.Entries.{Middle, kind_same}
use Rattle.protocol.proofs.Taking.{Silent, added, added_is, added_kind, read_writer}
use Rattle.protocol.proofs.Histories.{Sort, close, seat, sort, board_after, Fixed, fixed, Origin, origin, anything}
use Rattle.protocol.proofs.CodesOnBoard.{decoded_length, elements_members, share_below_lem}

module _ (m : Meaning) (made : Made) where
  -- when a record was taken: the board then, what its tests said of its bytes, and what has not changed since
  pub record Was (calls : List Call) (k : Kind) (i j : ℕ) (x : List ℕ) : Type 0 where
    pub then : Board
    pub bytes : List ℕ
    pub silent : Silent m then bytes k
    pub seated : (1 ≤ i) × (i ≤ then.n)
    pub writer : writer_of bytes ≡ i
    pub second : (read_record m then.t k bytes).second ≡ j
    pub codes : (read_record m then.t k bytes).codes ≡ x
    pub fixed : Fixed m made then (board_after m made calls)

  pub was : (calls : List Call) (k : Kind) (i j : ℕ) → Middle k → (x : List ℕ) → entry (board_after m made calls).taken k i j ≡ Some x → Was calls k i j x
  was calls k i j mid x e = go (sort m b o.bytes o.none)
    where
      o : Origin m made (λ _ _. Unit {0}) calls k i j x
      o = origin m made (λ _ _. Unit {0}) calls (anything m made calls) k i j mid x e

      b : Board
      b = board_after m made o.past

      hi : kind_number k ≤ 7
      hi = mid.high

      go : Sort m b o.bytes → Was calls k i j x
      go (close T is C eight v w) = absurd (omega (arith, o.kind, hi))
      go (seat T S v w u y) =
          let same : T.kind ≡ k = kind_same T.kind k (ap kind_number (sym (added_kind m b o.bytes T)) ∙ o.kind) in
          let r : added m b o.bytes ≡ read_record m b.t k o.bytes = added_is m b o.bytes T ∙ ap (λ (z : Kind). read_record m b.t z o.bytes) same in
          let wr : writer_of o.bytes ≡ i = sym (read_writer m b.t k o.bytes) ∙ ap (λ (z : Posted). z.writer) (sym r) ∙ o.writer in
          let s = seat_parts b.n (writer_of o.bytes) S.seated in
          record {
            then = b;
            bytes = o.bytes;
            silent = subst (λ (z : Kind). Silent m b o.bytes z) same T.silent;
            seated = (omega (arith, s.0), omega (arith, s.1));
            writer = wr;
            second = ap (λ (z : Posted). z.second) (sym r) ∙ o.second;
            codes = ap (λ (z : Posted). z.codes) (sym r) ∙ o.codes;
            fixed = fixed m made o.past calls o.prior u;
          }

  module _ (calls : List Call) where
    abbrev b : Board
    b = board_after m made calls

    -- a writer is a seat
    pub writer_seat : (k : Kind) (i j : ℕ) → Middle k → is_some (entry b.taken k i j) ≡ true → (1 ≤ i) × (i ≤ b.n)
    writer_seat k i j mid d =
        let x = some_of _ d in
        let w = was calls k i j mid x.0 x.1 in
        let s = w.seated in
        let n = w.fixed.n in
        (s.0, omega (arith, s.1, n))

    abbrev Elements : List ℕ → Type 0
    Elements codes = (length codes ≡ b.t + 1) × AllByRecursion (λ u. m.member u ≡ true) codes

    pub deal_codes : (i : ℕ) (codes : List ℕ) → deal_of b i ≡ Some codes → Elements codes
    unfolding tests_of
    deal_codes i codes e =
        let w = was calls kinds.Deal i 0 (record { low = omega arith; high = omega arith }) codes e in
        let t = w.fixed.t in
        subst Elements w.codes (
          decoded_length _ m.w 5 (w.then.t + 1) ∙ ap (λ (z : ℕ). z + 1) (sym t),
          elements_members m w.bytes 5 (w.then.t + 1) (mapped_none _ _ w.silent.1.1.1.1.0),
        )

    pub exposure_codes : (i : ℕ) (codes : List ℕ) → entry b.taken kinds.Exposure i 0 ≡ Some codes → Elements codes
    unfolding tests_of
    exposure_codes i codes e =
        let w = was calls kinds.Exposure i 0 (record { low = omega arith; high = omega arith }) codes e in
        let t = w.fixed.t in
        subst Elements w.codes (
          decoded_length _ m.w 5 (w.then.t + 1) ∙ ap (λ (z : ℕ). z + 1) (sym t),
          elements_members m w.bytes 5 (w.then.t + 1) (mapped_none _ _ w.silent.1.1.1.1.1.0),
        )

    pub answer_below : (i j : ℕ) (codes : List ℕ) → entry b.taken kinds.Answer i j ≡ Some codes → Share m.q (share_in codes)
    unfolding tests_of
    answer_below i j codes e =
        let w = was calls kinds.Answer i j (record { low = omega arith; high = omega arith }) codes e in
        subst (λ (z : List ℕ). Share m.q (share_in z)) w.codes (share_below_lem m w.bytes 6 (mapped_none _ _ w.silent.1.1.1.1.1.1.1.0))

    -- a Reveal opens the value of the commitments
    pub reveal_opens : (i : ℕ) (commitments : List ℕ) → deal_of b i ≡ Some commitments → (j : ℕ) (codes : List ℕ) → entry b.taken kinds.Reveal j i ≡ Some codes
        → Share m.q (share_in codes) × (commitment m (share_in codes) ≡ value_at (products m) commitments j)
    unfolding tests_of passes1
    reveal_opens i commitments d j codes e =
        let w = was calls kinds.Reveal j i (record { low = omega arith; high = omega arith }) codes e in
        let p : passes1 m w.then i j (share_in codes) ≡ true =
        subst (λ (z : List ℕ). passes1 m w.then i j (share_in z) ≡ true) w.codes
        (subst (λ (z : ℕ). passes1 m w.then i z (share_in (read_record m w.then.t kinds.Reveal w.bytes).codes) ≡ true) w.writer
        (subst (λ (z : ℕ). passes1 m w.then z (writer_of w.bytes) (share_in (read_record m w.then.t kinds.Reveal w.bytes).codes) ≡ true) w.second
        (unless_true _ _ w.silent.1.1.1.1.1.1.1.0))) in
        let h = holds_true (deal_of w.then i) (λ c. equation1 m c j (share_in codes)) p in
        let c : h.0 ≡ commitments = same_some _ _ (sym (w.fixed.stays kinds.Deal i 0 h.0 h.1) ∙ d) in (
          subst (λ (z : List ℕ). Share m.q (share_in z)) w.codes (share_below_lem m w.bytes 6 (mapped_none _ _ w.silent.1.1.1.1.1.1.0)),
          eqb-true _ _ h.2 ∙ ap (λ (z : List ℕ). value_at (products m) z j) c,
        )
