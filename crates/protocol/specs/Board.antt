-- The board: the taken records, and what they decide. Definitions.
use Rattle.std.specs.Prelude.{ℕ, suc, ◌+◌, Bool, cond, not, ◌&&◌, ◌||◌, List, [], ◌∷◌, map, take, is_some, Some, None, Option, ◌==◌, nat_le, nat_lt, slice_index, slice_index_or}
use Rattle.group.specs.Monoid.{power}
use Rattle.group.specs.Meaning.{Meaning, products}
use Rattle.sharing.specs.Linear.{scalar_sum, pair_sum}
use Rattle.sharing.specs.Commitment.{equation1, equation2}
use Rattle.sharing.specs.Interpolation.{interpolated}
use Rattle.protocol.specs.declared.kind.Kind.{Kind}
use Rattle.protocol.specs.declared.kind.Kind.TheVariants.{Opening, Deal, Complaint, Answer, Exposure, Objection, Reveal, Close}
use Rattle.protocol.specs.declared.phase.Phase.{Phase}
use Rattle.protocol.specs.declared.phase.Phase.TheVariants.{Unopened, Dealing, Complaining, Answering, Exposing, Objecting, Revealing, Finished, Void}
use Rattle.protocol.specs.Seats.{count, every, some, those, holds}
use Rattle.protocol.specs.Record.{Posted, kind_number}

-- `taken` has the records in the order in which they were taken, the Opening first
pub record Board : Type 0 where
  pub n : ℕ
  pub t : ℕ
  pub label : List ℕ
  pub taken : List Posted

abbrev pub empty : Board
empty = record { n = 0; t = 0; label = []; taken = [] }

abbrev pub phase_number : Phase → ℕ
phase_number Unopened = 0
phase_number Dealing = 1
phase_number Complaining = 2
phase_number Answering = 3
phase_number Exposing = 4
phase_number Objecting = 5
phase_number Revealing = 6
phase_number Finished = 7
phase_number Void = 8

-- Who posted what.

abbrev pub is_kind : Kind → Kind → Bool
is_kind a b = kind_number a == kind_number b

abbrev pub is_by : Posted → Kind → ℕ → ℕ → Bool
is_by r kind writer second = is_kind r.kind kind && (r.writer == writer && r.second == second)

-- the codes of the taken record of a kind, by a writer, naming a second seat
unfoldable pub entry : List Posted → Kind → ℕ → ℕ → Option (List ℕ)
entry [] kind writer second = None
entry (r ∷ rs) kind writer second = cond (is_by r kind writer second) (Some r.codes) (entry rs kind writer second)

abbrev pub has : List Posted → Kind → ℕ → ℕ → Bool
has taken kind writer second = is_some (entry taken kind writer second)

abbrev pub deal_of : Board → ℕ → Option (List ℕ)
deal_of b i = entry b.taken Deal i 0

abbrev pub exposure_of : Board → ℕ → Option (List ℕ)
exposure_of b i = entry b.taken Exposure i 0

abbrev pub complained : Board → ℕ → ℕ → Bool
complained b j i = has b.taken Complaint j i

abbrev pub objected : Board → ℕ → ℕ → Bool
objected b j i = has b.taken Objection j i

abbrev pub revealed : Board → ℕ → ℕ → Bool
revealed b j i = has b.taken Reveal j i

-- the share in the codes of an Answer, an Objection or a Reveal
abbrev pub share_in : List ℕ → ℕ × ℕ
share_in codes = (slice_index codes 0, slice_index codes 1)

-- The equations, for a dealer i and a seat j; they fail where there is nothing to test against.

unfoldable pub passes1 : Meaning → Board → ℕ → ℕ → ℕ × ℕ → Bool
passes1 m b i j share = holds (deal_of b i) (λ commitments. equation1 m commitments j share)

unfoldable pub passes2 : Meaning → Board → ℕ → ℕ → ℕ → Bool
passes2 m b i j s = holds (exposure_of b i) (λ exposed. equation2 m exposed j s)

-- Who is qualified.

abbrev pub complaints : Board → ℕ → ℕ
complaints b i = count b.n (λ j. complained b j i)

-- the dealer i has answered the complaint of j, truly
unfoldable pub answered : Meaning → Board → ℕ → ℕ → Bool
answered m b i j = holds (entry b.taken Answer i j) (λ codes. passes1 m b i j (share_in codes))

-- a Deal, at most t complaints, and a true Answer to each; it counts from the close of the answers on
unfoldable pub qualified : Meaning → Board → ℕ → Bool
qualified m b i =
    is_some (deal_of b i) && (nat_le (complaints b i) b.t && every b.n (λ j. not (complained b j i) || answered m b i j))

-- Phases: how many records have started one, the Opening and the Closes.

unfoldable pub starts : List Posted → ℕ
starts [] = 0
starts (r ∷ rs) = cond (is_kind r.kind Opening || is_kind r.kind Close) (suc (starts rs)) (starts rs)

-- the ceremony is void where the answers are closed and t or fewer are qualified
abbrev pub is_void : Meaning → Board → Bool
is_void m b = starts b.taken == 4 && nat_le (count b.n (qualified m b)) b.t

unfoldable pub phase_after : ℕ → Phase
phase_after n =
    cond (n == 0) Unopened (cond (n == 1) Dealing (cond (n == 2) Complaining (cond (n == 3) Answering
    (cond (n == 4) Exposing (cond (n == 5) Objecting (cond (n == 6) Revealing Finished))))))

unfoldable pub phase_of : Meaning → Board → Phase
phase_of m b = cond (is_void m b) Void (phase_after (starts b.taken))

-- qualified, and objected to or, once the objections are closed, without an Exposure
unfoldable pub contested : Meaning → Board → ℕ → Bool
contested m b i =
    qualified m b i && (some b.n (λ j. objected b j i) || (nat_lt 5 (starts b.taken) && not (is_some (exposure_of b i))))

abbrev pub dealers : Meaning → Board → List ℕ
dealers m b = those b.n (qualified m b)

-- The Reveals for a contested dealer that serve, those of the t + 1 lowest revealing seats, and what they interpolate to.

abbrev pub share_or0 : Option (List ℕ) → ℕ × ℕ
share_or0 None = (0, 0)
share_or0 (Some codes) = share_in codes

unfoldable pub reveals : Board → ℕ → List (ℕ × (ℕ × ℕ))
reveals b i =
    map (λ j. (j, share_or0 (entry b.taken Reveal j i))) (take (b.t + 1) (those b.n (λ j. revealed b j i)))

abbrev pub shares : Meaning → Rattle.group.specs.Monoid.Monoid (ℕ × ℕ)
shares m = pair_sum (scalar_sum m.q) (scalar_sum m.q)

abbrev pub revealed_share : Meaning → Board → ℕ → ℕ × ℕ
revealed_share m b i = interpolated (shares m) m.q (reveals b i)

-- each contested dealer has Reveals of t + 1 seats
unfoldable pub all_revealed : Meaning → Board → Bool
all_revealed m b = every b.n (λ i. not (contested m b i) || nat_le (b.t + 1) (count b.n (λ j. revealed b j i)))

-- The key: the product over the qualified dealers of A_i0, or of g^z where the dealer is contested.

abbrev pub first_or : ℕ → Option (List ℕ) → ℕ
first_or unit None = unit
first_or unit (Some elements) = slice_index_or elements 0 unit

unfoldable pub key_part : Meaning → Board → ℕ → ℕ
key_part m b i =
    cond (contested m b i) (power (products m) m.g (revealed_share m b i).0) (first_or m.unit (exposure_of b i))

unfoldable pub product_over : Meaning → (ℕ → ℕ) → List ℕ → ℕ
product_over m f [] = m.unit
product_over m f (i ∷ is) = m.product (f i) (product_over m f is)

abbrev pub key : Meaning → Board → ℕ
key m b = product_over m (key_part m b) (dealers m b)
