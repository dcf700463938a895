-- A history that meets the hypotheses of the guarantee: three seats, t = 1. The seats 1 and 2 are faithful.
-- Seat 3 sends a wrong letter to seat 2, answers its complaint, and posts a wrong Exposure; it is objected to, and its share revealed.
use Rattle.std.proofs.Common.{◌≡◌, ℕ, suc, Bool, true, false, ◌||◌, eqb, List, [], ◌∷◌, drop, is_some, Some, None, sym, refl, ap, ◌∙◌, subst, inl, inr, arith}
use Rattle.std.proofs.lemmas.Bool.{cases_Bool, eqb-true, or_cases}
use Rattle.group.specs.Monoid.{power}
use Rattle.group.specs.Code.{code, code_at}
use Rattle.sharing.specs.Value.{sum_from}
use Rattle.sharing.specs.Codes.{decoded_from, refused_from}
use Rattle.sharing.specs.Interpolation.{first_from, inverse, factor, weight, weighted}
use Rattle.protocol.specs.declared.phase.Phase.TheVariants.{Dealing}
use Rattle.protocol.specs.Seats.{count, every, some, those, lowest}
use Rattle.protocol.specs.Record.{kind_with, codes_of, writer_of}
use Rattle.protocol.specs.Board.{entry, passes1, passes2, answered, qualified, starts, phase_after, phase_of, phase_number, contested, all_revealed, reveals}
use Rattle.protocol.specs.Refusals.{first_fault, tests_of, posting_fault, opening_fault}
use Rattle.protocol.specs.Custodian.{Custodian, share_from, to_complain_of, to_answer, to_object_to, to_reveal, owed_in, owed, same_bytes, seating_fault, writing_fault, taking_fault, owing_fault, read_letter, Sheet, pair_codes}
use Rattle.protocol.specs.Recovery.{shares_pass, sheet_passes, share_of, disagrees, sum_over, recovery, sheets_in}
use Rattle.protocol.specs.History.{Call, Open, Post, SeatAt, WriteLetter, TakeLetter, Owe, after_call, after, DrewUp, Wrote, IsClose, EachPosted, EachLetter, Faithful}
use Rattle.protocol.specs.Guarantee.{Trusted, sheets_written}
use Rattle.protocol.proofs.Counting.{clash, none_some, same_some}
use Rattle.protocol.specs.Instances.{small, label, made}
use Rattle.protocol.specs.Met.{Met}
use Rattle.protocol.proofs.SmallGroup.{small_lawful}

Everything : Type 0
unfolding power code code_at sum_from decoded_from refused_from count every some those lowest kind_with codes_of entry passes1 passes2 answered qualified starts phase_after phase_of contested all_revealed first_fault tests_of posting_fault opening_fault share_from to_complain_of to_answer to_object_to to_reveal owed_in owed same_bytes seating_fault writing_fault taking_fault owing_fault after_call after
Everything = Unit

calls : List Call
calls =
    Post (3 ∷ 0 ∷ 8 ∷ 0 ∷ 6 ∷ [])
    ∷ Post (6 ∷ 0 ∷ 7 ∷ 0 ∷ 2 ∷ 3 ∷ 12 ∷ 4 ∷ [])
    ∷ Owe 2 100
    ∷ Post (6 ∷ 0 ∷ 7 ∷ 0 ∷ 1 ∷ 3 ∷ 7 ∷ 3 ∷ [])
    ∷ Owe 1 100
    ∷ Post (3 ∷ 0 ∷ 8 ∷ 0 ∷ 5 ∷ [])
    ∷ Post (6 ∷ 0 ∷ 6 ∷ 0 ∷ 2 ∷ 3 ∷ 12 ∷ 4 ∷ [])
    ∷ Owe 2 100
    ∷ Post (6 ∷ 0 ∷ 6 ∷ 0 ∷ 1 ∷ 3 ∷ 7 ∷ 3 ∷ [])
    ∷ Owe 1 100
    ∷ Post (3 ∷ 0 ∷ 8 ∷ 0 ∷ 4 ∷ [])
    ∷ Post (5 ∷ 0 ∷ 5 ∷ 0 ∷ 3 ∷ 9 ∷ 5 ∷ [])
    ∷ Post (5 ∷ 0 ∷ 5 ∷ 0 ∷ 2 ∷ 4 ∷ 3 ∷ [])
    ∷ Owe 2 100
    ∷ Post (5 ∷ 0 ∷ 5 ∷ 0 ∷ 1 ∷ 2 ∷ 1 ∷ [])
    ∷ Owe 1 100
    ∷ Post (3 ∷ 0 ∷ 8 ∷ 0 ∷ 3 ∷ [])
    ∷ Post (6 ∷ 0 ∷ 4 ∷ 0 ∷ 3 ∷ 2 ∷ 12 ∷ 4 ∷ [])
    ∷ Post (3 ∷ 0 ∷ 8 ∷ 0 ∷ 2 ∷ [])
    ∷ Post (4 ∷ 0 ∷ 3 ∷ 0 ∷ 2 ∷ 3 ∷ [])
    ∷ Owe 2 100
    ∷ Post (3 ∷ 0 ∷ 8 ∷ 0 ∷ 1 ∷ [])
    ∷ Post (5 ∷ 0 ∷ 2 ∷ 0 ∷ 3 ∷ 12 ∷ 10 ∷ [])
    ∷ Post (5 ∷ 0 ∷ 2 ∷ 0 ∷ 2 ∷ 9 ∷ 38 ∷ [])
    ∷ Owe 2 100
    ∷ Post (5 ∷ 0 ∷ 2 ∷ 0 ∷ 1 ∷ 7 ∷ 1 ∷ [])
    ∷ Owe 1 100
    ∷ TakeLetter 2 (22 ∷ 0 ∷ 16 ∷ 0 ∷ 1 ∷ 2 ∷ 3 ∷ 4 ∷ 5 ∷ 6 ∷ 7 ∷ 8 ∷ 9 ∷ 10 ∷ 11 ∷ 12 ∷ 13 ∷ 14 ∷ 15 ∷ 16 ∷ 3 ∷ 2 ∷ 1 ∷ 1 ∷ [])
    ∷ TakeLetter 1 (22 ∷ 0 ∷ 16 ∷ 0 ∷ 1 ∷ 2 ∷ 3 ∷ 4 ∷ 5 ∷ 6 ∷ 7 ∷ 8 ∷ 9 ∷ 10 ∷ 11 ∷ 12 ∷ 13 ∷ 14 ∷ 15 ∷ 16 ∷ 3 ∷ 1 ∷ 7 ∷ 3 ∷ [])
    ∷ TakeLetter 1 (22 ∷ 0 ∷ 16 ∷ 0 ∷ 1 ∷ 2 ∷ 3 ∷ 4 ∷ 5 ∷ 6 ∷ 7 ∷ 8 ∷ 9 ∷ 10 ∷ 11 ∷ 12 ∷ 13 ∷ 14 ∷ 15 ∷ 16 ∷ 2 ∷ 1 ∷ 7 ∷ 8 ∷ [])
    ∷ WriteLetter 2 1 100
    ∷ TakeLetter 2 (22 ∷ 0 ∷ 16 ∷ 0 ∷ 1 ∷ 2 ∷ 3 ∷ 4 ∷ 5 ∷ 6 ∷ 7 ∷ 8 ∷ 9 ∷ 10 ∷ 11 ∷ 12 ∷ 13 ∷ 14 ∷ 15 ∷ 16 ∷ 1 ∷ 2 ∷ 4 ∷ 1 ∷ [])
    ∷ WriteLetter 1 2 100
    ∷ SeatAt 2 2 (4 ∷ 3 ∷ 1 ∷ 7 ∷ [])
    ∷ SeatAt 1 1 (2 ∷ 1 ∷ 1 ∷ 0 ∷ [])
    ∷ Open (22 ∷ 0 ∷ 1 ∷ 0 ∷ 9 ∷ 0 ∷ 3 ∷ 1 ∷ 1 ∷ 2 ∷ 3 ∷ 4 ∷ 5 ∷ 6 ∷ 7 ∷ 8 ∷ 9 ∷ 10 ∷ 11 ∷ 12 ∷ 13 ∷ 14 ∷ 15 ∷ 16 ∷ [])
    ∷ []

set : ℕ → Bool
set i = eqb i 1 || eqb i 2

of : ℕ → ℕ
of i = i

never : {X : Type 0} → ◌≡◌ {A = ℕ} 0 1 → X
never e = absurd (omega arith)

both : (P : ℕ → Type 0) → P 1 → P 2 → (i : ℕ) → set i ≡ true → P i
unfolding set
both P p q i f = elim (or_cases (eqb i 1) (eqb i 2) f) [ inl e ↦ subst P (sym (eqb-true i 1 e)) p | inr e ↦ subst P (sym (eqb-true i 2 e)) q ]

-- What Faithful asks of a posted record, of a letter, and of a Close.

abbrev Drawn : List Call → List ℕ → Type 0
Drawn earlier bytes = (IsClose bytes → ⊥) → set (writer_of bytes) ≡ true → DrewUp small made earlier (of (writer_of bytes)) bytes

abbrev Written : List Call → List ℕ → Type 0
Written earlier bytes = set (read_letter small bytes).writer ≡ true → Wrote small made earlier (of (read_letter small bytes).writer) bytes

abbrev Quiet : List Call → List ℕ → Type 0
Quiet earlier bytes = IsClose bytes → (i : ℕ) → set i ≡ true → (c : Custodian) → (after small made earlier).custodians (of i) ≡ Some c → owed small (after small made earlier).board c ≡ None

abbrev Has : List Call → ℕ → ℕ → Type 0
Has h i j = (c : Custodian) × ((after small made h).custodians j ≡ Some c) × (is_some (c.letters i) ≡ true)

abbrev Heard : List Call → List ℕ → Type 0
Heard earlier bytes = IsClose bytes → phase_of small (after small made earlier).board ≡ Dealing → (i j : ℕ) → set i ≡ true → set j ≡ true → (i ≡ j → ⊥) → Has earlier i (of j)

-- the calls so far have kept to it
record Kept (h : List Call) : Type 0 where
  pub records : EachPosted small made Drawn h
  pub letters : EachLetter small made Written h
  pub quiet : EachPosted small made Quiet h
  pub heard : EachPosted small made Heard h

none : Kept []
none = record { records = tt; letters = tt; quiet = tt; heard = tt }

-- One call more.

other : {c : Call} {h : List Call} → ((bytes : List ℕ) → c ≡ Post bytes → ⊥) → ((k : ℕ) (bytes : List ℕ) → c ≡ TakeLetter k bytes → ⊥) → Kept h → Kept (c ∷ h)
other p t K = record {
  records = (λ bytes e. absurd (p bytes e), K.records);
  letters = (λ k bytes e. absurd (t k bytes e), K.letters);
  quiet = (λ bytes e. absurd (p bytes e), K.quiet);
  heard = (λ bytes e. absurd (p bytes e), K.heard);
}

opening : {b : List ℕ} {h : List Call} → Kept h → Kept (Open b ∷ h)
opening K = other (λ bytes e. never (cc)) (λ k bytes e. never (cc)) K

seating : {k i : ℕ} {b : List ℕ} {h : List Call} → Kept h → Kept (SeatAt k i b ∷ h)
seating K = other (λ bytes e. never (cc)) (λ k bytes e. never (cc)) K

writing : {k j room : ℕ} {h : List Call} → Kept h → Kept (WriteLetter k j room ∷ h)
writing K = other (λ bytes e. never (cc)) (λ k bytes e. never (cc)) K

owing : {k room : ℕ} {h : List Call} → Kept h → Kept (Owe k room ∷ h)
owing K = other (λ bytes e. never (cc)) (λ k bytes e. never (cc)) K

taking : {k : ℕ} {b : List ℕ} {h : List Call} → Written h b → Kept h → Kept (TakeLetter k b ∷ h)
taking {k} {b} {h} w K = record {
  records = (λ bytes e. never (cc), K.records);
  letters = (λ j bytes e t. subst (Written h) (same j bytes e) w, K.letters);
  quiet = (λ bytes e. never (cc), K.quiet);
  heard = (λ bytes e. never (cc), K.heard);
}
  where
    same : (j : ℕ) (bytes : List ℕ) → TakeLetter k b ≡ TakeLetter j bytes → b ≡ bytes
    same j bytes e = cc

posting : {b : List ℕ} {h : List Call} → Drawn h b → Quiet h b → Heard h b → Kept h → Kept (Post b ∷ h)
posting {b} {h} d q g K = record {
  records = (λ bytes e t. subst (Drawn h) (same bytes e) d, K.records);
  letters = (λ k bytes e. never (cc), K.letters);
  quiet = (λ bytes e t. subst (Quiet h) (same bytes e) q, K.quiet);
  heard = (λ bytes e t. subst (Heard h) (same bytes e) g, K.heard);
}
  where
    same : (bytes : List ℕ) → Post b ≡ Post bytes → b ≡ bytes
    same bytes e = cc

-- a record of a seat, which its custodian drew up, or which is seat 3's
of_seat : {b : List ℕ} {h : List Call} → (IsClose b → ⊥) → (set (writer_of b) ≡ true → DrewUp small made h (of (writer_of b)) b) → Kept h → Kept (Post b ∷ h)
of_seat n d K = posting (λ _ f. d f) (λ k. absurd (n k)) (λ k. absurd (n k)) K

-- a Close, before which neither custodian owes anything
closing : {b : List ℕ} {h : List Call} → IsClose b → (c d : Custodian) → (after small made h).custodians 1 ≡ Some c → owed small (after small made h).board c ≡ None
    → (after small made h).custodians 2 ≡ Some d → owed small (after small made h).board d ≡ None → Heard h b → Kept h → Kept (Post b ∷ h)
unfolding of
closing {b} {h} k c d p u q v g K =
    posting (λ n. absurd (n k)) (λ _. both (λ i. (c : Custodian) → (after small made h).custodians i ≡ Some c → owed small (after small made h).board c ≡ None) (owes_none 1 c p u) (owes_none 2 d q v)) g K
  where
    owes_none : (i : ℕ) (c : Custodian) → (after small made h).custodians i ≡ Some c → owed small (after small made h).board c ≡ None
        → (d : Custodian) → (after small made h).custodians i ≡ Some d → owed small (after small made h).board d ≡ None
    owes_none i c e o d f = subst (λ (x : Custodian). owed small (after small made h).board x ≡ None) (same_some c d (sym e ∙ f)) o

-- the first Close comes when each has the other's letter; later ones end another phase
first : (b : List ℕ) (h : List Call) → Has h 1 2 → Has h 2 1 → Heard h b
unfolding of
first b h p q k _ i j f g n =
    both (λ i. (j : ℕ) → set j ≡ true → (i ≡ j → ⊥) → Has h i j)
    (both (λ j. (1 ≡ j → ⊥) → Has h 1 j) (λ n. absurd (n refl)) (λ _. p)) (both (λ j. (2 ≡ j → ⊥) → Has h 2 j) (λ _. q) (λ n. absurd (n refl))) i f j g n

later : (b : List ℕ) (h : List Call) (p : ℕ) → phase_number (phase_of small (after small made h).board) ≡ suc (suc p) → Heard h b
later b h p e k d = let z : ◌≡◌ {A = ℕ} (suc (suc p)) 1 = sym e ∙ ap phase_number d in absurd (omega arith)

closing_first : {b : List ℕ} {h : List Call} → IsClose b → (c d : Custodian) → (after small made h).custodians 1 ≡ Some c → owed small (after small made h).board c ≡ None
    → (after small made h).custodians 2 ≡ Some d → owed small (after small made h).board d ≡ None → Has h 1 2 → Has h 2 1 → Kept h → Kept (Post b ∷ h)
closing_first {b} {h} k c d p u q v x y K = closing k c d p u q v (first b h x y) K

closing_later : {b : List ℕ} {h : List Call} → IsClose b → (c d : Custodian) → (after small made h).custodians 1 ≡ Some c → owed small (after small made h).board c ≡ None
    → (after small made h).custodians 2 ≡ Some d → owed small (after small made h).board d ≡ None → (p : ℕ) → phase_number (phase_of small (after small made h).board) ≡ suc (suc p) → Kept h → Kept (Post b ∷ h)
closing_later {b} {h} k c d p u q v n e K = closing k c d p u q v (later b h n e) K

at_one : (c : Custodian) → (after small made calls).custodians 1 ≡ Some c → c.seat ≡ 1
unfolding Everything calls
at_one c e = ap (λ (x : Custodian). x.seat) (sym (same_some _ c e))

at_two : (c : Custodian) → (after small made calls).custodians 2 ≡ Some c → c.seat ≡ 2
unfolding Everything calls
at_two c e = ap (λ (x : Custodian). x.seat) (sym (same_some _ c e))

nobody_else : (k : ℕ) → eqb k 1 ≡ false → eqb k 2 ≡ false → (after small made calls).custodians k ≡ None
unfolding Everything calls
nobody_else k p q = simp (p, q)

only_two : (k : ℕ) (c : Custodian) → (after small made calls).custodians k ≡ Some c → c.seat ≡ k
only_two k c e =
    elim (cases_Bool (eqb k 1)) [
      | inl p ↦ let w = eqb-true k 1 p in at_one c (subst (λ (z : ℕ). (after small made calls).custodians z ≡ Some c) w e) ∙ sym w
      | inr p ↦
          elim (cases_Bool (eqb k 2)) [
            | inl q ↦ let w = eqb-true k 2 q in at_two c (subst (λ (z : ℕ). (after small made calls).custodians z ≡ Some c) w e) ∙ sym w
            | inr q ↦ none_some c (sym (nobody_else k p q) ∙ e)
          ]
    ]

kept : Kept calls
unfolding Everything calls set of
kept =
    let k1 : Kept (drop 35 calls) = opening none in
    let k2 : Kept (drop 34 calls) = seating k1 in
    let k3 : Kept (drop 33 calls) = seating k2 in
    let k4 : Kept (drop 32 calls) = writing k3 in
    let k5 : Kept (drop 31 calls) = taking (λ _. inl (2, 100, _, refl, refl, refl, refl)) k4 in
    let k6 : Kept (drop 30 calls) = writing k5 in
    let k7 : Kept (drop 29 calls) = taking (λ _. inl (1, 100, _, refl, refl, refl, refl)) k6 in
    let k8 : Kept (drop 28 calls) = taking (λ f. clash false f refl) k7 in
    let k9 : Kept (drop 27 calls) = taking (λ f. clash false f refl) k8 in
    let k10 : Kept (drop 26 calls) = owing k9 in
    let k11 : Kept (drop 25 calls) = of_seat (λ (e : ◌≡◌ {A = ℕ} 2 8). omega arith) (λ _. inl (100, refl, refl, refl)) k10 in
    let k12 : Kept (drop 24 calls) = owing k11 in
    let k13 : Kept (drop 23 calls) = of_seat (λ (e : ◌≡◌ {A = ℕ} 2 8). omega arith) (λ _. inl (100, refl, refl, refl)) k12 in
    let k14 : Kept (drop 22 calls) = of_seat (λ (e : ◌≡◌ {A = ℕ} 2 8). omega arith) (λ f. clash false f refl) k13 in
    let k15 : Kept (drop 21 calls) = closing_first refl _ _ refl refl refl refl (_, refl, refl) (_, refl, refl) k14 in
    let k16 : Kept (drop 20 calls) = owing k15 in
    let k17 : Kept (drop 19 calls) = of_seat (λ (e : ◌≡◌ {A = ℕ} 3 8). omega arith) (λ _. inl (100, refl, refl, refl)) k16 in
    let k18 : Kept (drop 18 calls) = closing_later refl _ _ refl refl refl refl 0 refl k17 in
    let k19 : Kept (drop 17 calls) = of_seat (λ (e : ◌≡◌ {A = ℕ} 4 8). omega arith) (λ f. clash false f refl) k18 in
    let k20 : Kept (drop 16 calls) = closing_later refl _ _ refl refl refl refl 1 refl k19 in
    let k21 : Kept (drop 15 calls) = owing k20 in
    let k22 : Kept (drop 14 calls) = of_seat (λ (e : ◌≡◌ {A = ℕ} 5 8). omega arith) (λ _. inl (100, refl, refl, refl)) k21 in
    let k23 : Kept (drop 13 calls) = owing k22 in
    let k24 : Kept (drop 12 calls) = of_seat (λ (e : ◌≡◌ {A = ℕ} 5 8). omega arith) (λ _. inl (100, refl, refl, refl)) k23 in
    let k25 : Kept (drop 11 calls) = of_seat (λ (e : ◌≡◌ {A = ℕ} 5 8). omega arith) (λ f. clash false f refl) k24 in
    let k26 : Kept (drop 10 calls) = closing_later refl _ _ refl refl refl refl 2 refl k25 in
    let k27 : Kept (drop 9 calls) = owing k26 in
    let k28 : Kept (drop 8 calls) = of_seat (λ (e : ◌≡◌ {A = ℕ} 6 8). omega arith) (λ _. inl (100, refl, refl, refl)) k27 in
    let k29 : Kept (drop 7 calls) = owing k28 in
    let k30 : Kept (drop 6 calls) = of_seat (λ (e : ◌≡◌ {A = ℕ} 6 8). omega arith) (λ _. inl (100, refl, refl, refl)) k29 in
    let k31 : Kept (drop 5 calls) = closing_later refl _ _ refl refl refl refl 3 refl k30 in
    let k32 : Kept (drop 4 calls) = owing k31 in
    let k33 : Kept (drop 3 calls) = of_seat (λ (e : ◌≡◌ {A = ℕ} 7 8). omega arith) (λ _. inl (100, refl, refl, refl)) k32 in
    let k34 : Kept (drop 2 calls) = owing k33 in
    let k35 : Kept (drop 1 calls) = of_seat (λ (e : ◌≡◌ {A = ℕ} 7 8). omega arith) (λ _. inl (100, refl, refl, refl)) k34 in
    let k36 : Kept (drop 0 calls) = closing_later refl _ _ refl refl refl refl 4 refl k35 in
    k36

faithful : Faithful small made calls set of
unfolding Everything calls set of
faithful = record {
  seated_one = both _ (_, refl, refl) (_, refl, refl);
  no_other = λ i f k c e s. sym (only_two k c e) ∙ s;
  own_records = kept.records;
  own_letters = kept.letters;
  nothing_owed = kept.quiet;
  letters_taken = kept.heard;
}

trusted : Trusted small made calls set of
unfolding Everything calls set
trusted = record { faithful = faithful; enough = omega arith }

-- Sheets: of the seats 1 and 2, and of the seats 1 and 3, where seat 3 opens its own commitment otherwise.

sheets : List Sheet
sheets =
    record { label = label; seat = 1; shares = (3, 1) ∷ (7, 8) ∷ (7, 3) ∷ [] }
    ∷ record { label = label; seat = 2; shares = (4, 1) ∷ (10, 15) ∷ (12, 4) ∷ [] }
    ∷ []

others : List Sheet
others =
    record { label = label; seat = 1; shares = (3, 1) ∷ (7, 8) ∷ (7, 3) ∷ [] }
    ∷ record { label = label; seat = 3; shares = (5, 1) ∷ (13, 22) ∷ (22, 4) ∷ [] }
    ∷ []

More : Type 0
unfolding weight weighted factor inverse first_from reveals share_of disagrees sum_over recovery sheets_in sheets_written pair_codes shares_pass sheet_passes sheets others
More = Unit

pub met : Met
unfolding Everything calls More
met = record {
  m = small;
  laws = small_lawful;
  made = made;
  calls = calls;
  set = set;
  of = of;
  trusted = trusted;
  finished = refl;
  dealer = 3;
  liar = refl;
  sheets = sheets;
  enough = record { many = refl; passing = (refl, (refl, tt)); different = (omega arith, omega arith, (λ (e : ◌≡◌ {A = ℕ} 1 2). omega arith, tt), (omega arith, omega arith, tt, tt)) };
  x = 8;
  answer = refl;
  others = others;
  others_enough = record { many = refl; passing = (refl, (refl, tt)); different = (omega arith, omega arith, (λ (e : ◌≡◌ {A = ℕ} 1 3). omega arith, tt), (omega arith, omega arith, tt, tt)) };
  y = (33, 36);
  z = (2, 2);
  w = 5;
  others_answer = refl;
}
