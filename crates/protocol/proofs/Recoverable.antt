-- Part (c): recovery from any t + 1 passing sheets of different seats.
use Rattle.std.proofs.Common.{◌≡◌, ℕ, ◌+◌, ◌^◌, ◌<◌, ◌≤◌, true, false, ◌⊎◌, List, [], ◌∷◌, length, None, sym, refl, ap, ◌∙◌, inl, inr, arith}
use Rattle.std.specs.List.{AllByRecursion}
use Rattle.std.proofs.ByRecursion.{All-weaker}
use Rattle.std.proofs.lemmas.Bool.{eq-eqb, le-leb}
use Rattle.group.specs.Meaning.{Meaning, Lawful}
use Rattle.sharing.specs.Interpolation.{Share}
use Rattle.protocol.specs.Seats.{lowest}
use Rattle.protocol.specs.Board.{Board, phase_number, starts, qualified, dealers}
use Rattle.protocol.specs.Custodian.{Sheet}
use Rattle.protocol.specs.Recovery.{among, disagrees, sheet_passes, sheets_fault, recovery, recovery_fault, recovered_from, sheets_in}
use Rattle.protocol.specs.ReadBack.{SheetsReadBack}
use Rattle.protocol.specs.History.{Call, Made}
use Rattle.protocol.specs.Guarantee.{Agree, Found, Opened, Recoverable, sheets_written}
use Rattle.protocol.proofs.Counting.{seat_parts}
use Rattle.protocol.proofs.SeatLists.{length_those, count_below}
use Rattle.protocol.proofs.Faults.{all_passed, unless_none}
use Rattle.protocol.proofs.Phases.{finished_starts}
use Rattle.protocol.proofs.Histories.{board_after, limits}
use Rattle.protocol.proofs.Recovering.{Sound, sound, Logged, Twice, result}
use Rattle.protocol.proofs.SheetBytes.{same_bytes_lem, SheetReads, SheetSmall, shares_length, shares_below, sheets_none}
use Rattle.protocol.proofs.Labels.{sheet_reads}

module _ (read_back : SheetsReadBack) (m : Meaning) (laws : Lawful m) (made : Made) (calls : List Call) where
  abbrev b : Board
  b = board_after m made calls

  few_dealers : b.n ≤ 32 → length (dealers m b) ≤ 32
  few_dealers h = omega (arith, length_those b.n (qualified m b), count_below b.n (qualified m b))

  small : b.n ≤ 32 → length b.label ≡ 16 → (s : Sheet) → Sound m b s → SheetSmall m s
  small h l s S =
      let fits = laws.scalar_fits in
      record {
        label = ap length (same_bytes_lem s.label b.label S.label) ∙ l;
        seat = omega (arith, (seat_parts b.n s.seat S.seat).1);
        many = omega (arith, shares_length m b s.seat (dealers m b) s.shares S.shares, few_dealers h);
        shares = All-weaker (Share m.q) (λ p. (p.0 < 256 ^ m.s) × (p.1 < 256 ^ m.s)) (λ p u. (omega (arith, u.0), omega (arith, u.1))) s.shares
            (shares_below m b s.seat (dealers m b) s.shares S.shares);
      }

  nobody : (sheets : List Sheet) → AllByRecursion (λ s. among s.seat [] ≡ false) sheets
  unfolding among
  nobody [] = tt
  nobody (s ∷ sheets) = (refl, nobody sheets)

  pub recoverable : Recoverable m b
  unfolding recovery_fault
  recoverable fin sheets ls passes different scratch room = (
    all_passed _ (
      unless_none _ _ (eq-eqb _ _ (ap phase_number fin)),
      (
        unless_none _ _ (le-leb _ _ room),
        (ap (λ (z : ℕ). sheets_fault m b bytes [] z 0) (sym many) ∙ R.0, tt),
      ),
    ),
    answer (result m laws made calls fin sheets many passes different (lowest b.n (disagrees m b sheets)) refl),
  )
    where
      many : length sheets ≡ b.t + 1
      many = omega (arith, ls)

      st : 7 ≤ starts b.taken
      st = finished_starts m b fin

      n32 : b.n ≤ 32
      n32 = (limits m made calls).small (omega (arith, st))

      l16 : length b.label ≡ 16
      l16 = (limits m made calls).long (omega (arith, st))

      bytes : List ℕ
      bytes = sheets_written m sheets

      sounds : AllByRecursion (Sound m b) sheets
      sounds = All-weaker (λ s. sheet_passes m b s ≡ true) (Sound m b) (sound m b) sheets passes

      R : (sheets_fault m b bytes [] (length sheets) 0 ≡ None) × (sheets_in m (length (dealers m b)) bytes (length sheets) 0 ≡ sheets)
      R = sheets_none m laws b (few_dealers n32) sheets [] [] bytes sounds
          (All-weaker (Sound m b) (SheetReads m) (λ s S. sheet_reads m laws read_back s (small n32 l16 s S)) sheets sounds) different (nobody sheets) refl

      read : recovered_from m b bytes ≡ recovery m b sheets
      read = ap (recovery m b) (ap (λ (z : ℕ). sheets_in m (length (dealers m b)) bytes z 0) (sym many) ∙ R.1)

      answer : (Agree m b sheets × Logged m b sheets) ⊎ ((Agree m b sheets → ⊥) × Twice m b sheets)
          → (Agree m b sheets × Found m b bytes) ⊎ ((Agree m b sheets → ⊥) × Opened m b bytes)
      answer (inl u) = inl (u.0, record { x = u.1.x; answer = read ∙ u.1.answer; logarithm = u.1.logarithm })
      answer (inr u) =
          let T = u.1 in
          inr (
            u.0,
            record {
              dealer = T.dealer;
              y = T.y;
              z = T.z;
              w = T.w;
              commitments = T.commitments;
              answer = read ∙ T.answer;
              deal = T.deal;
              different = T.different;
              opens_y = T.opens_y;
              opens_z = T.opens_z;
              logarithm = T.logarithm;
            },
          )
