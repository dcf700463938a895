-- The codes of a taken record, where the index says that it begins.
use Rattle.std.proofs.Common.{◌≡◌, ℕ, ◌+◌, ◌*◌, ◌^◌, ◌<◌, ◌≤◌, true, ◌⊎◌, List, length, get_or, Some, None, Option, sym, refl, ap, ◌∙◌, subst, inl, inr, add-one, arith, length-take-le}
use Rattle.group.specs.Code.{code_at}
use Rattle.group.specs.Meaning.{Meaning, Lawful}
use Rattle.group.specs.declared.fault.GroupFault.{GroupFault}
use Rattle.sharing.specs.Codes.{first_of, decoded_from, refused_from, element_refused, scalar_refused}
use Rattle.protocol.specs.declared.kind.Kind.{Kind}
use Rattle.protocol.specs.Record.{Layout, Elements, SecondAndShare, layout_of, length_of}
use Rattle.protocol.specs.Board.{entry, share_in}
use Rattle.board_index.specs.State.{State, filled, board_of, is_indexed, look}
use Rattle.board_index.specs.Kept.{Kept, Opened, codes_as, refused_as}
use Rattle.board_index.proofs.Leaving.{area_narrow}
use Rattle.board_index.proofs.Stored.{stored_at}

-- a Deal or an Exposure: its elements, of which none is refused
pub record ElementsAt (m : Meaning) (s : State) (kind : Kind) (i place : ℕ) : Type 0 where
  pub codes : entry (board_of m s).taken kind i 0 ≡ Some (decoded_from (λ at. code_at (filled s) m.w at) m.w (place + 5) (s.t + 1))
  pub within : place + 5 + (s.t + 1) * m.w ≤ length (filled s)
  pub judged : refused_from (element_refused m (filled s)) m.w (place + 5) (s.t + 1) ≡ None

pub elements_at : (m : Meaning) (s : State) (kind : Kind) (i place : ℕ) → Kept m s → is_indexed kind ≡ true → layout_of kind ≡ Elements
    → look s.places kind i 0 ≡ Some place → ElementsAt m s kind i place
elements_at m s kind i place kept indexed elements e =
    let S = stored_at m s kind i 0 place kept indexed e in
    let t : s.t ≡ (board_of m s).t = kept.t in
    record {
      codes = S.codes ∙ ap (λ (l : Layout). Some (codes_as m (board_of m s).t l (filled s) place)) elements
          ∙ ap (λ (n : ℕ). Some (codes_as m n Elements (filled s) place)) (sym t);
      within = subst (λ (n : ℕ). place + 5 + (n + 1) * m.w ≤ length (filled s)) (sym t)
          (omega (arith, subst (λ (l : Layout). place + (2 + length_of m (board_of m s).t l) ≤ length (filled s)) elements S.within));
      judged = ap (λ (n : ℕ). refused_as m n Elements (filled s) place) t ∙ sym (ap (λ (l : Layout). refused_as m (board_of m s).t l (filled s) place) elements) ∙ S.judged;
    }

-- an Answer, an Objection or a Reveal: its share, of which no code is refused
pub record ShareAt (m : Meaning) (s : State) (kind : Kind) (i j place : ℕ) : Type 0 where
  pub codes : entry (board_of m s).taken kind i j ≡ Some (decoded_from (λ at. code_at (filled s) m.s at) m.s (place + 6) 2)
  pub within : place + 6 + (m.s + m.s) ≤ length (filled s)
  pub judged : refused_from (scalar_refused m (filled s)) m.s (place + 6) 2 ≡ None

pub share_at : (m : Meaning) (s : State) (kind : Kind) (i j place : ℕ) → Kept m s → is_indexed kind ≡ true → layout_of kind ≡ SecondAndShare
    → look s.places kind i j ≡ Some place → ShareAt m s kind i j place
share_at m s kind i j place kept indexed share e =
    let S = stored_at m s kind i j place kept indexed e in
    record {
      codes = S.codes ∙ ap (λ (l : Layout). Some (codes_as m (board_of m s).t l (filled s) place)) share;
      within = omega (arith, subst (λ (l : Layout). place + (2 + length_of m (board_of m s).t l) ≤ length (filled s)) share S.within);
      judged = sym (ap (λ (l : Layout). refused_as m (board_of m s).t l (filled s) place) share) ∙ S.judged;
    }

-- what is used is far from the end of a machine's numbers
pub used_narrow : (m : Meaning) → Lawful m → (s : State) → Kept m s → s.used < 2 ^ 32
used_narrow m lawful s kept = go kept.opened
  where
    go : ((s.used ≡ 0) ⊎ Opened m s) → s.used < 2 ^ 32
    go (inl none) = omega arith
    go (inr o) = omega (arith, o.room, area_narrow m lawful s.n s.t kept.few kept.low)

pub filled_length : (m : Meaning) (s : State) → Kept m s → length (filled s) ≡ s.used
filled_length m s kept = length-take-le s.used s.area kept.fits

-- two scalar codes, none refused, are a share
pub pair_taken : (m : Meaning) (bytes : List ℕ) (at : ℕ) → refused_from (scalar_refused m bytes) m.s at 2 ≡ None
    → first_of (scalar_refused m bytes at) (scalar_refused m bytes (at + m.s)) ≡ None
unfolding refused_from
pair_taken m bytes at e = go (scalar_refused m bytes at) (scalar_refused m bytes (at + m.s)) e
  where
    go : (a b : Option GroupFault) → first_of a (first_of b None) ≡ None → first_of a b ≡ None
    go None None h = refl
    go None (Some f) h = h
    go (Some f) b h = h

pub pair_decoded : (m : Meaning) (bytes : List ℕ) (at : ℕ)
    → ◌≡◌ {A = ℕ × ℕ} (code_at bytes m.s at, code_at bytes m.s (at + m.s)) (share_in (decoded_from (λ place. code_at bytes m.s place) m.s at 2))
unfolding decoded_from
pair_decoded m bytes at = refl

pub first_decoded : (m : Meaning) (bytes : List ℕ) (at t default : ℕ) → code_at bytes m.w at ≡ get_or (decoded_from (λ place. code_at bytes m.w place) m.w at (t + 1)) 0 default
unfolding decoded_from
first_decoded m bytes at t default = ap (λ (n : ℕ). get_or (decoded_from (λ place. code_at bytes m.w place) m.w at n) 0 default) (sym (add-one t))

pub first_taken : (m : Meaning) (bytes : List ℕ) (at t : ℕ) → refused_from (element_refused m bytes) m.w at (t + 1) ≡ None → element_refused m bytes at ≡ None
unfolding refused_from
first_taken m bytes at t e = go (element_refused m bytes at) (refused_from (element_refused m bytes) m.w (at + m.w) t) (ap (refused_from (element_refused m bytes) m.w at) (sym (add-one t)) ∙ e)
  where
    go : (a b : Option GroupFault) → first_of a b ≡ None → a ≡ None
    go None b h = refl
    go (Some f) b h = h
