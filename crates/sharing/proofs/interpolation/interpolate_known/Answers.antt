use Rattle.std.proofs.Common.{◌≡◌, ℕ, ◌+◌, ◌-◌, ◌*◌, List, length, get_or, drop, sym, ap, ◌∙◌, ap₂, zero-mul, arith, length-drop}
use Rattle.group.specs.PowerLaws.{neutral_right}
use Rattle.sharing.specs.Linear.{scaled}
use Rattle.sharing.specs.Codes.{refused_from}
use Rattle.sharing.specs.Interpolation.{weight, weighted, entries_from}
use Rattle.sharing.proofs.CodeWalk.{place_next, taken_at, taken_rest}
use Rattle.sharing.proofs.SeatWalk.{seat_low, seats_of_entries, weighted_none, weighted_here, weighted_member}
use Rattle.sharing.proofs.interpolation.interpolate_known.Goals as goal

pub known-entry-requires-clause-taken : goal.known-entry-requires-clause-taken
known-entry-requires-clause-taken g c =
    let m = g.L.Linear in
    rw c.code_width.ensures (taken_at (m.refusal c.args.codes.now) m.width c.loop-k.k c.args.at (length c.args.seats.now) c.loop-k-test.true c.requires.taken)

pub weight_of-requires : goal.weight_of-requires
weight_of-requires g c = (c.requires.seats, seat_low c.args.seats.now c.requires.seats c.loop-k.k c.loop-k-test.true)

pub loop-k-init : goal.loop-k-init
loop-k-init g c =
    let m = g.L.Linear in
    let at = c.args.at in
    let seats = c.args.seats.now in
    let decoded = m.decoded c.args.codes.now in
    let refusal = m.refusal c.args.codes.now in
    let weights = weight g.G.Group.meaning.q seats in
    let start : at + 0 * m.width ≡ at = omega (arith, zero-mul m.width) in
    ap₂ m.sum.op c.zero-sum.ensures (ap (λ (p : ℕ). weighted m.sum weights (entries_from decoded m.width p seats)) start)
    ∙ m.commutative.neutral _ (weighted_member m.sum decoded m.width m.commutative refusal (m.judged c.args.codes.now) weights at seats c.requires.taken)

pub loop-k-preserved : goal.loop-k-preserved
loop-k-preserved g c =
    let m = g.L.Linear in
    let w = m.width in
    let k = c.loop-k.k in
    let at = c.args.at in
    let seats = c.args.seats.now in
    let n = length seats in
    let decoded = m.decoded c.args.codes.now in
    let refusal = m.refusal c.args.codes.now in
    let weights = weight g.G.Group.meaning.q seats in
    let rest = weighted m.sum weights (entries_from decoded w (at + (k + 1) * w) (drop (k + 1) seats)) in
    let read = c.known-entry.ensures ∙ ap (λ (x : ℕ). decoded (at + k * x)) c.code_width.ensures in
    let term = c.scale.ensures ∙ ap₂ (scaled m.sum) c.weight_of.ensures read in
    let here = ap m.member (sym term) ∙ m.inside c.scale.result in
    let left : length (drop (k + 1) seats) ≡ n - (k + 1) = length-drop (k + 1) seats in
    let taken = ap (refused_from refusal w (at + (k + 1) * w)) left ∙ taken_rest refusal w (k + 1) at n (omega arith) c.requires.taken in
    let later = weighted_member m.sum decoded w m.commutative refusal (m.judged c.args.codes.now) weights (at + (k + 1) * w) (drop (k + 1) seats) taken in
    ap (λ u. m.sum.op u rest) (c.add-sum.ensures ∙ ap (m.sum.op (m.of c.loop-k.sum)) term)
    ∙ m.commutative.assoc _ _ _ (m.inside c.loop-k.sum) here later
    ∙ ap (m.sum.op (m.of c.loop-k.sum))
    (sym (weighted_here m.sum decoded w weights (at + k * w) seats k c.loop-k-test.true
    ∙ ap (λ (p : ℕ). m.sum.op (scaled m.sum (weights (get_or seats k 0)) (decoded (at + k * w))) (weighted m.sum weights (entries_from decoded w p (drop (k + 1) seats)))) (place_next at k w)))
    ∙ c.loop-k.invariant

pub returns : goal.returns
returns g c =
    let m = g.L.Linear in
    let q = g.G.Group.meaning.q in
    let at = c.args.at in
    let seats = c.args.seats.now in
    let decoded = m.decoded c.args.codes.now in
    sym (ap (m.sum.op (m.of c.loop-k.sum)) (weighted_none m.sum decoded m.width (weight q seats) (at + c.loop-k.k * m.width) seats c.loop-k.k c.loop-k-test.false)
    ∙ neutral_right m.commutative (m.of c.loop-k.sum) (m.inside c.loop-k.sum))
    ∙ c.loop-k.invariant
    ∙ ap (λ (ls : List ℕ). weighted m.sum (weight q ls) (entries_from decoded m.width at seats)) (sym (seats_of_entries m.sum decoded m.width at seats))
