-- A faithful seat holds a share from every qualified dealer, which passes equation 1.
use Rattle.std.proofs.Common.{◌≡◌, ℕ, ◌≤◌, Bool, true, false, cond, not, ◌&&◌, ◌||◌, eqb, leb, ◌⊎◌, List, is_some, Some, None, Option, sym, refl, ap, ◌∙◌, ap₂, inl, inr, arith}
use mathlib.Core.Path.{fun_ext}
use Rattle.std.proofs.lemmas.Bool.{cases_Bool, and_parts, and_cases, or_cases, eqb-true, not-true, not-false, cond-true, cond-false}
use Rattle.group.specs.Meaning.{Meaning, Lawful}
use Rattle.sharing.specs.Interpolation.{Share}
use Rattle.protocol.specs.declared.kind.Kind.TheVariants as kinds
use Rattle.protocol.specs.Seats.{every, holds, mapped, or_else}
use Rattle.protocol.specs.Board.{Board, entry, starts, deal_of, complained, share_in, passes1, answered, qualified, complaints}
use Rattle.protocol.specs.Custodian.{Custodian, other, own_share, if_passes, share_from, to_complain_of}
use Rattle.protocol.specs.History.{Call, Made, after, Faithful}
use Rattle.protocol.specs.ReadBack.{RecordsReadBack, LettersReadBack}
use Rattle.protocol.proofs.Counting.{clash, every_is, holds_true}
use Rattle.protocol.proofs.Histories.{board_after, closed}
use Rattle.protocol.proofs.OnBoard.{writer_seat}
use Rattle.protocol.proofs.Unchanged.{Same, passes1_same, qualified_deal}
use Rattle.protocol.proofs.Custody.{in_ceremony_lem}
use Rattle.protocol.proofs.Owing.{none_complaining}
use Rattle.protocol.proofs.Fitting.{share_from_below}
use Rattle.protocol.proofs.Faith.{seat_is, own_passes_now}

pub share_same : (m : Meaning) (b d : Board) → Same b d kinds.Deal → Same b d kinds.Answer → (c : Custodian) (i : ℕ) → share_from m b c i ≡ share_from m d c i
unfolding share_from
share_same m b d e2 e4 c i =
    let f : passes1 m b i c.seat ≡ passes1 m d i c.seat = fun_ext (λ p. passes1_same m b d e2 i c.seat p) in
    ap₂ (λ (f : ℕ × ℕ → Bool) (o : Option (List ℕ)). cond (eqb i c.seat) (Some (own_share m c i)) (or_else (if_passes f (c.letters i)) (if_passes f (mapped share_in o)))) f (e4 i c.seat)

if_passes_lem : (f : ℕ × ℕ → Bool) (o : Option (ℕ × ℕ)) (p : ℕ × ℕ) → o ≡ Some p → f p ≡ true → if_passes f o ≡ Some p
if_passes_lem f o p e t = ap (if_passes f) e ∙ cond-true _ _ _ t

if_fails : (f : ℕ × ℕ → Bool) (o : Option (ℕ × ℕ)) → holds o f ≡ false → if_passes f o ≡ None
if_fails f None e = refl
if_fails f (Some p) e = cond-false _ _ _ e

module _ (records_back : RecordsReadBack) (letters_back : LettersReadBack) (m : Meaning) (laws : Lawful m) (made : Made) (calls : List Call) (set : ℕ → Bool) (of : ℕ → ℕ) (faithful : Faithful m made calls set of)
    (j : ℕ) (f : set j ≡ true) (c : Custodian) (there : (after m made calls).custodians (of j) ≡ Some c) where
  abbrev b : Board
  b = board_after m made calls

  pub seat_range : (1 ≤ c.seat) × (c.seat ≤ b.n)
  seat_range = let I = in_ceremony_lem m made calls (of j) c there in (I.low, I.high)

  -- once complaining has ended it has complained of a dealer, or has a letter that passes
  complained_or_heard : 3 ≤ starts b.taken → (i : ℕ) → eqb i c.seat ≡ false → is_some (deal_of b i) ≡ true
      → (complained b c.seat i ≡ true) ⊎ (holds (c.letters i) (passes1 m b i c.seat) ≡ true)
  unfolding to_complain_of
  complained_or_heard s i n d =
      let C = closed m made _ calls faithful.nothing_owed 2 (omega arith) (omega arith) s in
      let p : Board = board_after m made C.past in
      let then : (after m made C.past).custodians (of j) ≡ Some c = ap (λ (z : ℕ → Option Custodian). z (of j)) C.custodians ∙ there in
      let r = writer_seat m made calls kinds.Deal i 0 (record { low = omega arith; high = omega arith }) d in
      let u = none_complaining m p c C.in_that_phase (C.holds C.is_close j f c then) i r.0 (omega (arith, r.1, C.n)) in
      let new : Bool = not (complained p c.seat i) in
      let fails : Bool = not (holds (c.letters i) (passes1 m p i c.seat)) in
      elim (and_cases (other c i) (is_some (deal_of p i) && (new && fails)) u) [
        | inl a ↦ clash (eqb i c.seat) (not-false _ a) n
        | inr a ↦
            elim (and_cases (is_some (deal_of p i)) (new && fails) a) [
              | inl e ↦ clash (is_some (deal_of p i)) (ap is_some (C.same kinds.Deal i 0 (omega arith) (omega arith)) ∙ d) e
              | inr e ↦
                  elim (and_cases new fails e) [
                    | inl w ↦ inl (sym (ap is_some (C.same kinds.Complaint c.seat i (omega arith) (omega arith))) ∙ not-false _ w)
                    | inr w ↦ inr (ap (λ (g : ℕ × ℕ → Bool). holds (c.letters i) g) (fun_ext (λ x. passes1_same m b p (λ x y. sym (C.same kinds.Deal x y (omega arith) (omega arith))) i c.seat x)) ∙ not-false _ w)
                  ]
            ]
      ]

  pub record Held (i : ℕ) : Type 0 where
    pub share : ℕ × ℕ
    pub is : share_from m b c i ≡ Some share
    pub passes : passes1 m b i c.seat share ≡ true
    pub below : Share m.q share

  record Found (i : ℕ) : Type 0 where
    pub share : ℕ × ℕ
    pub is : share_from m b c i ≡ Some share
    pub passes : passes1 m b i c.seat share ≡ true

  found : 4 ≤ starts b.taken → (i : ℕ) → qualified m b i ≡ true → Found i
  unfolding qualified answered share_from
  found s i q = elim (cases_Bool (eqb i c.seat)) [ inl e ↦ mine e | inr e ↦ theirs e ]
    where
      ok : ℕ × ℕ → Bool
      ok = passes1 m b i c.seat

      answers : Option (ℕ × ℕ)
      answers = mapped share_in (entry b.taken kinds.Answer i c.seat)

      deal : is_some (deal_of b i) ≡ true
      deal = qualified_deal m b i q

      settled : every b.n (λ k. not (complained b k i) || answered m b i k) ≡ true
      settled =
          (and_parts (leb (complaints b i) b.t) (every b.n (λ k. not (complained b k i) || answered m b i k))
          (and_parts (is_some (deal_of b i)) (leb (complaints b i) b.t && every b.n (λ k. not (complained b k i) || answered m b i k)) q).1).1

      mine : eqb i c.seat ≡ true → Found i
      mine e =
          let is : i ≡ c.seat = eqb-true _ _ e in
          let ij : j ≡ i = sym (seat_is records_back letters_back m laws made calls set of faithful j f c there) ∙ sym is in
          let own = own_passes_now records_back letters_back m laws made calls set of faithful j f c there (ap (λ (z : ℕ). is_some (deal_of b z)) ij ∙ deal) c.seat in
          record {
            share = own_share m c i;
            is = cond-true _ _ _ e;
            passes = ap₂ (λ (x y : ℕ). passes1 m b x c.seat (own_share m c y)) (sym ij) is ∙ own;
          }

      from_answer : eqb i c.seat ≡ false → holds (c.letters i) ok ≡ false → complained b c.seat i ≡ true → Found i
      from_answer e a w =
          let st = every_is b.n (λ k. not (complained b k i) || answered m b i k) settled c.seat seat_range.0 seat_range.1 in
          let u : holds (entry b.taken kinds.Answer i c.seat) (λ y. passes1 m b i c.seat (share_in y)) ≡ true =
          elim (or_cases (not (complained b c.seat i)) (holds (entry b.taken kinds.Answer i c.seat) (λ y. passes1 m b i c.seat (share_in y))) st) [
            | inl n ↦ clash (complained b c.seat i) w (not-true _ n)
            | inr y ↦ y
          ] in
          let v = holds_true (entry b.taken kinds.Answer i c.seat) (λ y. passes1 m b i c.seat (share_in y)) u in
          record {
            share = share_in v.0;
            is = cond-false _ _ _ e ∙ ap₂ or_else (if_fails ok (c.letters i) a) (if_passes_lem ok answers (share_in v.0) (ap (mapped share_in) v.1) v.2);
            passes = v.2;
          }

      theirs : eqb i c.seat ≡ false → Found i
      theirs e =
          elim (cases_Bool (holds (c.letters i) ok)) [
            | inl a ↦
                let l = holds_true (c.letters i) ok a in
                record { share = l.0; is = cond-false _ _ _ e ∙ ap (λ (o : Option (ℕ × ℕ)). or_else o (if_passes ok answers)) (if_passes_lem ok (c.letters i) l.0 l.1 l.2); passes = l.2 }
            | inr a ↦ from_answer e a (elim (complained_or_heard (omega arith) i e deal) [ inl w ↦ w | inr w ↦ clash (holds (c.letters i) ok) w a ])
          ]

  pub held : 4 ≤ starts b.taken → (i : ℕ) → qualified m b i ≡ true → Held i
  held s i q =
      let F = found s i q in
      record { share = F.share; is = F.is; passes = F.passes; below = share_from_below m laws made calls (of j) c there i F.share F.is }
