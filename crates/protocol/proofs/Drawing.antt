-- Records and letters under a faithful seat: its custodian drew them up, and they say what it drew up.
use Rattle.std.proofs.Common.{◌≡◌, ℕ, ◌≤◌, Bool, true, List, [], ◌∷◌, Some, None, Option, sym, refl, ap, ◌∙◌, subst, ap₂, inl, inr, arith}
use Rattle.group.specs.Meaning.{Meaning, Lawful}
use Rattle.sharing.specs.Value.{value_at}
use Rattle.sharing.specs.Interpolation.{Share}
use Rattle.protocol.specs.declared.kind.Kind.{Kind}
use Rattle.protocol.specs.declared.kind.Kind.TheVariants as kinds
use Rattle.protocol.specs.Record.{Posted, kind_number, kind_field, writer_of, read_record, write_record}
use Rattle.protocol.specs.Board.{Board, entry, phase_of, phase_number, shares}
use Rattle.protocol.specs.Refusals.{kind_or}
use Rattle.protocol.specs.Custodian.{Custodian, Letter, owed, owed_bytes, own_share, letter_to, read_letter, write_letter, writing_fault}
use Rattle.protocol.specs.History.{Call, Made, after, DrewUp, Wrote, IsClose, Faithful}
use Rattle.protocol.specs.ReadBack.{Says, RecordsReadBack, LettersReadBack}
use Rattle.protocol.proofs.Counting.{none_some, seat_parts}
use Rattle.protocol.proofs.Faults.{passed, unless_true, mapped_some}
use Rattle.protocol.proofs.Entries.{Middle}
use Rattle.protocol.proofs.Taking.{Took, took, added, added_is, added_kind, read_writer}
use Rattle.protocol.proofs.Histories.{Prior, prior_self, prior_trans, board_after, fixed, limits, Origin, origin}
use Rattle.protocol.proofs.OwnShares.{own_below}
use Rattle.protocol.proofs.Custody.{InCeremony, in_ceremony_lem, still_sits, Sender, sender}
use Rattle.protocol.proofs.Owing.{Owes, owes_is}
use Rattle.protocol.proofs.Fitting.{owed_fits, seat_small}
use Rattle.protocol.proofs.Labels.{letter_reads}

module _ (m : Meaning) (made : Made) where
  pub record Drawn (calls : List Call) (k : ℕ) (bytes : List ℕ) : Type 0 where
    pub past : List Call
    pub prior : Prior past calls
    pub c : Custodian
    pub r : Posted
    pub there : (after m made past).custodians k ≡ Some c
    pub owes : owed m (board_after m made past) c ≡ Some r
    pub written : write_record m r ≡ bytes

  pub drawn : (calls : List Call) (k : ℕ) (bytes : List ℕ) → DrewUp m made calls k bytes → Drawn calls k bytes
  drawn [] k bytes d = absurd d
  drawn (call ∷ h) k bytes d =
      elim d [
        | inl u ↦ go ((after m made h).custodians k) refl u.3
        | inr u ↦ let v = drawn h k bytes u in record { past = v.past; prior = inr v.prior; c = v.c; r = v.r; there = v.there; owes = v.owes; written = v.written }
      ]
    where
      go : (o : Option Custodian) → (after m made h).custodians k ≡ o → owed_bytes m (board_after m made h) o ≡ Some bytes → Drawn (call ∷ h) k bytes
      go None q e = none_some bytes e
      go (Some c) q e =
          let w = mapped_some (write_record m) (owed m (board_after m made h) c) bytes e in
          record { past = h; prior = inr (prior_self h); c = c; r = w.0; there = q; owes = w.1; written = w.2 }

  pub record Written (calls : List Call) (k : ℕ) (bytes : List ℕ) : Type 0 where
    pub past : List Call
    pub prior : Prior past calls
    pub c : Custodian
    pub addressee : ℕ
    pub there : (after m made past).custodians k ≡ Some c
    pub small : addressee ≤ (board_after m made past).n
    pub written : bytes ≡ write_letter m (letter_to m (board_after m made past) c addressee)

  pub written : (calls : List Call) (k : ℕ) (bytes : List ℕ) → Wrote m made calls k bytes → Written calls k bytes
  unfolding writing_fault
  written [] k bytes d = absurd d
  written (call ∷ h) k bytes d =
      elim d [
        | inl u ↦ record {
          past = h;
          prior = inr (prior_self h);
          c = u.2;
          addressee = u.0;
          there = u.4;
          small = (seat_parts (board_after m made h).n u.0 (unless_true _ _ (passed _ u.5).1.1.1.0)).1;
          written = u.6;
        }
        | inr u ↦ let v = written h k bytes u in record { past = v.past; prior = inr v.prior; c = v.c; addressee = v.addressee; there = v.there; small = v.small; written = v.written }
      ]

-- what a faithful set says of a posted record, and of a letter
abbrev RecordDrawn : Meaning → Made → (ℕ → Bool) → (ℕ → ℕ) → List Call → List ℕ → Type 0
RecordDrawn m made set of earlier bytes = (IsClose bytes → ⊥) → set (writer_of bytes) ≡ true → DrewUp m made earlier (of (writer_of bytes)) bytes

abbrev LetterWritten : Meaning → Made → (ℕ → Bool) → (ℕ → ℕ) → List Call → List ℕ → Type 0
LetterWritten m made set of earlier bytes = set (read_letter m bytes).writer ≡ true → Wrote m made earlier (of (read_letter m bytes).writer) bytes

module _ (records_back : RecordsReadBack) (letters_back : LettersReadBack) (m : Meaning) (laws : Lawful m) (made : Made) (calls : List Call) (set : ℕ → Bool) (of : ℕ → ℕ) (faithful : Faithful m made calls set of)
    (i : ℕ) (f : set i ≡ true) (c : Custodian) (there : (after m made calls).custodians (of i) ≡ Some c) where
  -- a record of a faithful seat on the board, as its custodian drew it up
  pub record OwnRecord (k : Kind) (j : ℕ) (x : List ℕ) : Type 0 where
    pub past : List Call
    pub prior : Prior past calls
    pub was : Custodian
    pub had : (after m made past).custodians (of i) ≡ Some was
    pub seat : was.seat ≡ c.seat
    pub coefficients : was.coefficients ≡ c.coefficients
    pub r : Posted
    pub owes : Owes m (board_after m made past) was r (phase_number (phase_of m (board_after m made past)))
    pub kind : kind_number r.kind ≡ kind_number k
    pub second : r.second ≡ j
    pub codes : r.codes ≡ x

  pub own_record : (k : Kind) (j : ℕ) → Middle k → (x : List ℕ) → entry (board_after m made calls).taken k i j ≡ Some x → OwnRecord k j x
  unfolding owed
  own_record k j mid x e =
      record {
        past = D.past;
        prior = prior;
        was = D.c;
        had = D.there;
        seat = sits.0;
        coefficients = sits.1;
        r = D.r;
        owes = owes_is m (board_after m made D.past) D.c D.r (phase_of m (board_after m made D.past)) D.owes;
        kind = ap (λ (z : Posted). kind_number z.kind) (sym is) ∙ o.kind;
        second = ap (λ (z : Posted). z.second) (sym is) ∙ o.second;
        codes = ap (λ (z : Posted). z.codes) (sym is) ∙ o.codes;
      }
    where
      o : Origin m made (RecordDrawn m made set of) calls k i j x
      o = origin m made (RecordDrawn m made set of) calls faithful.own_records k i j mid x e

      b : Board
      b = board_after m made o.past

      T : Took m b o.bytes
      T = took m b o.bytes o.none

      writer : writer_of o.bytes ≡ i
      writer = sym (ap (λ (z : Posted). z.writer) (added_is m b o.bytes T) ∙ read_writer m b.t T.kind o.bytes) ∙ o.writer

      no_close : kind_field o.bytes ≡ 8 → ⊥
      no_close z = omega (arith, T.number, ap kind_number (added_kind m b o.bytes T), o.kind, mid.high)

      D : Drawn m made o.past (of i) o.bytes
      D = drawn m made o.past (of i) o.bytes (subst (λ (z : ℕ). DrewUp m made o.past (of z) o.bytes) writer (o.holds no_close (ap set writer ∙ f)))

      d : Board
      d = board_after m made D.past

      I : InCeremony m made d D.c
      I = in_ceremony_lem m made D.past (of i) D.c D.there

      small_t : d.t ≤ 15
      small_t = omega (arith, (limits m made D.past).few I.started, (limits m made D.past).small I.started)

      S : Says m d.t o.bytes D.r
      S = subst (λ (z : List ℕ). Says m d.t z D.r) D.written
          (records_back m laws d.t small_t D.r (owed_fits m laws made D.past (of i) D.c D.there D.r D.owes))

      is : added m b o.bytes ≡ D.r
      is =
          ap₂ (λ (t : ℕ) (z : Option Kind). read_record m t (kind_or kinds.Close z) o.bytes) (fixed m made D.past o.past D.prior I.started).t S.kind
          ∙ S.says

      prior : Prior D.past calls
      prior = prior_trans D.past o.past calls D.prior o.prior

      sits : (D.c.seat ≡ c.seat) × (D.c.coefficients ≡ c.coefficients)
      sits = still_sits m made (of i) D.past calls prior D.c c D.there there

  -- a letter of a faithful seat has its own share for the addressee
  pub letter_own : (k : ℕ) (y : Custodian) → (after m made calls).custodians k ≡ Some y → (p : ℕ × ℕ) → y.letters i ≡ Some p → p ≡ own_share m c y.seat
  letter_own k y there_y p s =
      sym S.share ∙ ap (λ (z : Letter). z.share) r
      ∙ ap₂ (λ (cs : List (ℕ × ℕ)) (j : ℕ). value_at (shares m) cs j) sits.1 (sym (ap (λ (z : Letter). z.addressee) r) ∙ S.to)
    where
      S : Sender m made (LetterWritten m made set of) calls y.seat i p
      S = sender m made (LetterWritten m made set of) calls faithful.own_letters k y there_y i p s

      W : Written m made S.past (of i) S.bytes
      W = written m made S.past (of i) S.bytes (subst (λ (z : ℕ). Wrote m made S.past (of z) S.bytes) S.from (S.holds (ap set S.from ∙ f)))

      w : Board
      w = board_after m made W.past

      I : InCeremony m made w W.c
      I = in_ceremony_lem m made W.past (of i) W.c W.there

      n32 : w.n ≤ 32
      n32 = (limits m made W.past).small I.started

      l : Letter
      l = letter_to m w W.c W.addressee

      below : Share m.q l.share
      below = own_below m laws W.c.coefficients W.addressee

      r : read_letter m S.bytes ≡ l
      r =
          ap (read_letter m) W.written
          ∙ letter_reads m laws letters_back l ((limits m made W.past).long I.started)
          (omega (arith, seat_small m laws made W.past (of i) W.c W.there)) (omega (arith, W.small, n32))
          (omega (arith, below.0, laws.scalar_fits)) (omega (arith, below.1, laws.scalar_fits))

      sits : (W.c.seat ≡ c.seat) × (W.c.coefficients ≡ c.coefficients)
      sits = still_sits m made (of i) W.past calls (prior_trans W.past S.past calls W.prior S.prior) W.c c W.there there
