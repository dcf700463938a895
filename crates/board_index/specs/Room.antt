-- The bytes of all records that a ceremony can still take. Definitions.
use Rattle.std.specs.Prelude.{ℕ, zero, suc, ◌+◌, ◌-◌, ◌*◌, Bool, false, cond, not, ◌&&◌, ◌==◌}
use Rattle.group.specs.Meaning.{Meaning}
use Rattle.protocol.specs.declared.kind.Kind.{Kind}
use Rattle.protocol.specs.declared.kind.Kind.TheVariants.{Opening, Deal, Complaint, Answer, Exposure, Objection, Reveal, Close, Letter, Sheet}
use Rattle.protocol.specs.Record.{layout_of, length_of}
use Rattle.protocol.specs.Seats.{is_seat}
use Rattle.protocol.specs.Board.{Board, has, starts}

-- f 0 + f 1 + .. + f (n - 1)
unfoldable pub sum_below : ℕ → (ℕ → ℕ) → ℕ
sum_below zero f = 0
sum_below (suc n) f = f n + sum_below n f

-- the writer and the second seat that a record of a kind may have; no second seat is 0
abbrev pub may_name : ℕ → Kind → ℕ → ℕ → Bool
may_name n Opening i j = false
may_name n Deal i j = is_seat n i && j == 0
may_name n Complaint i j = is_seat n i && (is_seat n j && not (i == j))
may_name n Answer i j = is_seat n i && (is_seat n j && not (i == j))
may_name n Exposure i j = is_seat n i && j == 0
may_name n Objection i j = is_seat n i && (is_seat n j && not (i == j))
may_name n Reveal i j = is_seat n i && is_seat n j
may_name n Close i j = false
may_name n Letter i j = false
may_name n Sheet i j = false

abbrev pub record_size : Meaning → ℕ → Kind → ℕ
record_size m t kind = 2 + length_of m t (layout_of kind)

-- the bytes of the records of a kind that are not taken yet
unfoldable pub left_of : Meaning → Board → Kind → ℕ
left_of m b kind =
    sum_below (b.n + 1) (λ i. sum_below (b.n + 1) (λ j. cond (may_name b.n kind i j && not (has b.taken kind i j)) (record_size m b.t kind) 0))

-- of all kinds, and of the Closes
unfoldable pub left : Meaning → Board → ℕ
left m b =
    left_of m b Deal + left_of m b Complaint + left_of m b Answer + left_of m b Exposure + left_of m b Objection + left_of m b Reveal
    + 5 * (7 - starts b.taken)
