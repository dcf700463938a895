-- What a custodian draws up fits its bytes.
use Rattle.std.proofs.Common.{◌≡◌, ℕ, ◌^◌, ◌<◌, ◌≤◌, Bool, true, false, cond, not, ◌&&◌, eqb, ◌⊎◌, List, [], ◌∷◌, map, length, is_some, Some, None, Option, sym, refl, ap, ◌∙◌, subst, inl, inr, arith}
use Rattle.std.specs.List.{AllByRecursion}
use Rattle.std.proofs.lemmas.Bool.{and_parts}
use Rattle.group.specs.Meaning.{Meaning, Lawful}
use Rattle.sharing.specs.Commitment.{commitment}
use Rattle.sharing.specs.Interpolation.{Share}
use Rattle.protocol.specs.declared.kind.Kind.TheVariants as kinds
use Rattle.protocol.specs.declared.phase.Phase.{Phase}
use Rattle.protocol.specs.declared.phase.Phase.TheVariants.{Unopened, Dealing, Complaining, Answering, Exposing, Objecting, Revealing, Finished, Void}
use Rattle.protocol.specs.Seats.{lowest, holds, mapped, or_else}
use Rattle.protocol.specs.Record.{Posted}
use Rattle.protocol.specs.Board.{Board, entry, phase_of, deal_of, exposure_of, objected, revealed, share_in, passes1, passes2, qualified, contested}
use Rattle.protocol.specs.Custodian.{Custodian, other, own_share, exposed, if_passes, share_from, to_complain_of, to_answer, to_object_to, to_reveal, share_codes, by, owed_in, owed}
use Rattle.protocol.specs.History.{Call, Made, after}
use Rattle.protocol.specs.ReadBack.{Fits}
use Rattle.protocol.proofs.Counting.{none_some, same_some, lowest_some, holds_true, some_of}
use Rattle.protocol.proofs.Faults.{mapped_some}
use Rattle.protocol.proofs.SeatLists.{length_map}
use Rattle.protocol.proofs.Histories.{board_after, limits}
use Rattle.protocol.proofs.OnBoard.{answer_below}
use Rattle.protocol.proofs.OwnShares.{own_below, commitment_member, exposed_member}
use Rattle.protocol.proofs.Custody.{InCeremony, in_ceremony_lem, sender, any_letter}

or_else_some : {A : Type 0} (o r : Option A) (p : A) → or_else o r ≡ Some p → (o ≡ Some p) ⊎ (r ≡ Some p)
or_else_some None r p e = inr e
or_else_some (Some a) r p e = inl e

if_passes_some : (f : ℕ × ℕ → Bool) (o : Option (ℕ × ℕ)) (p : ℕ × ℕ) → if_passes f o ≡ Some p → o ≡ Some p
if_passes_some f None p e = e
if_passes_some f (Some a) p e = go (f a) e
  where
    go : (b : Bool) → cond b (Some a) None ≡ Some p → Some a ≡ Some p
    go true e = e
    go false e = none_some p e

module _ (m : Meaning) (laws : Lawful m) (made : Made) (calls : List Call) (k : ℕ) (c : Custodian) (there : (after m made calls).custodians k ≡ Some c) where
  abbrev b : Board
  b = board_after m made calls

  -- its shares are below q
  pub share_from_below : (i : ℕ) (p : ℕ × ℕ) → share_from m b c i ≡ Some p → Share m.q p
  unfolding share_from
  share_from_below i p e = go (eqb i c.seat) e
    where
      ok : ℕ × ℕ → Bool
      ok = passes1 m b i c.seat

      answered : Option (ℕ × ℕ)
      answered = if_passes ok (mapped share_in (entry b.taken kinds.Answer i c.seat))

      by_answer : answered ≡ Some p → Share m.q p
      by_answer r =
          let u = mapped_some share_in (entry b.taken kinds.Answer i c.seat) p (if_passes_some ok _ p r) in
          subst (Share m.q) u.2 (answer_below m made calls i c.seat u.0 u.1)

      go : (x : Bool) → cond x (Some (own_share m c i)) (or_else (if_passes ok (c.letters i)) answered) ≡ Some p → Share m.q p
      go true r = subst (Share m.q) (same_some _ _ r) (own_below m laws c.coefficients i)
      go false r =
          elim (or_else_some (if_passes ok (c.letters i)) answered p r) [
            | inl u ↦ (sender m made (λ _ _. Unit {0}) calls (any_letter m made calls) k c there i p (if_passes_some ok _ p u)).below
            | inr u ↦ by_answer u
          ]

  I : InCeremony m made b c
  I = in_ceremony_lem m made calls k c there

  n32 : b.n ≤ 32
  n32 = (limits m made calls).small I.started

  pub seat_small : c.seat ≤ 32
  seat_small = omega (arith, I.high, n32)

  elements_fit : (f : ℕ × ℕ → ℕ) → ((p : ℕ × ℕ) → m.member (f p) ≡ true) → (cs : List (ℕ × ℕ)) → AllByRecursion (λ n. n < 256 ^ m.w) (map f cs)
  elements_fit f inside [] = tt
  elements_fit f inside (p ∷ cs) = (laws.member_fits (f p) (inside p), elements_fit f inside cs)

  abbrev TwoCodes : List ℕ → Type 0
  TwoCodes codes = (length codes ≡ 2) × AllByRecursion (λ n. n < 256 ^ m.s) codes

  codes_fit : (p : ℕ × ℕ) → Share m.q p → TwoCodes (share_codes (Some p))
  codes_fit p h = let fits = laws.scalar_fits in (refl, (omega (arith, h.0), (omega (arith, h.1), tt)))

  share_codes_fit : (i : ℕ) → is_some (share_from m b c i) ≡ true → TwoCodes (share_codes (share_from m b c i))
  share_codes_fit i e =
      let p = some_of (share_from m b c i) e in
      subst (λ (o : Option (ℕ × ℕ)). TwoCodes (share_codes o)) (sym p.1) (codes_fit p.0 (share_from_below i p.0 p.1))

  objecting_share : (i : ℕ) → to_object_to m b c i ≡ true → is_some (share_from m b c i) ≡ true
  unfolding to_object_to
  objecting_share i e =
      let fails : Bool = holds (share_from m b c i) (λ share. not (passes2 m b i c.seat share.0)) in
      let new : Bool = not (objected b c.seat i) in
      let u = and_parts (other c i) (qualified m b i && (is_some (exposure_of b i) && (fails && new))) e in
      let v = and_parts (qualified m b i) (is_some (exposure_of b i) && (fails && new)) u.1 in
      let w = and_parts (is_some (exposure_of b i)) (fails && new) v.1 in
      ap is_some (holds_true (share_from m b c i) _ (and_parts fails new w.1).0).1

  revealing_share : (i : ℕ) → to_reveal m b c i ≡ true → is_some (share_from m b c i) ≡ true
  unfolding to_reveal
  revealing_share i e =
      let u = and_parts (contested m b i) (is_some (share_from m b c i) && not (revealed b c.seat i)) e in
      (and_parts (is_some (share_from m b c i)) (not (revealed b c.seat i)) u.1).0

  owed_fits_in : (phase : Phase) (r : Posted) → owed_in m b c phase ≡ Some r → Fits m b.t r
  unfolding owed_in
  owed_fits_in Unopened r e = none_some r e
  owed_fits_in Dealing r e = go (is_some (deal_of b c.seat)) e
    where
      d : Posted
      d = by c kinds.Deal 0 (map (commitment m) c.coefficients)

      go : (x : Bool) → cond x None (Some d) ≡ Some r → Fits m b.t r
      go true e = none_some r e
      go false e = subst (Fits m b.t) (same_some d r e)
          (omega (arith, seat_small), (refl, length_map (commitment m) c.coefficients ∙ I.many, elements_fit (commitment m) (commitment_member m laws) c.coefficients))
  owed_fits_in Complaining r e =
      let u = mapped_some (λ i. by c kinds.Complaint i []) (lowest b.n (to_complain_of m b c)) r e in
      let l = lowest_some b.n (to_complain_of m b c) u.0 u.1 in
      subst (Fits m b.t) u.2 (omega (arith, seat_small), (omega (arith, l.1, n32), refl))
  owed_fits_in Answering r e =
      let u = mapped_some (λ j. by c kinds.Answer j (share_codes (Some (own_share m c j)))) (lowest b.n (to_answer b c)) r e in
      let l = lowest_some b.n (to_answer b c) u.0 u.1 in
      let f = codes_fit (own_share m c u.0) (own_below m laws c.coefficients u.0) in
      subst (Fits m b.t) u.2 (omega (arith, seat_small), (omega (arith, l.1, n32), f.0, f.1))
  owed_fits_in Exposing r e = go (qualified m b c.seat && not (is_some (exposure_of b c.seat))) e
    where
      d : Posted
      d = by c kinds.Exposure 0 (map (exposed m) c.coefficients)

      go : (x : Bool) → cond x (Some d) None ≡ Some r → Fits m b.t r
      go false e = none_some r e
      go true e = subst (Fits m b.t) (same_some d r e)
          (omega (arith, seat_small), (refl, length_map (exposed m) c.coefficients ∙ I.many, elements_fit (exposed m) (exposed_member m laws) c.coefficients))
  owed_fits_in Objecting r e =
      let u = mapped_some (λ i. by c kinds.Objection i (share_codes (share_from m b c i))) (lowest b.n (to_object_to m b c)) r e in
      let l = lowest_some b.n (to_object_to m b c) u.0 u.1 in
      let f = share_codes_fit u.0 (objecting_share u.0 l.2) in
      subst (Fits m b.t) u.2 (omega (arith, seat_small), (omega (arith, l.1, n32), f.0, f.1))
  owed_fits_in Revealing r e =
      let u = mapped_some (λ i. by c kinds.Reveal i (share_codes (share_from m b c i))) (lowest b.n (to_reveal m b c)) r e in
      let l = lowest_some b.n (to_reveal m b c) u.0 u.1 in
      let f = share_codes_fit u.0 (revealing_share u.0 l.2) in
      subst (Fits m b.t) u.2 (omega (arith, seat_small), (omega (arith, l.1, n32), f.0, f.1))
  owed_fits_in Finished r e = none_some r e
  owed_fits_in Void r e = none_some r e

  pub owed_fits : (r : Posted) → owed m b c ≡ Some r → Fits m b.t r
  unfolding owed
  owed_fits r e = owed_fits_in (phase_of m b) r e
