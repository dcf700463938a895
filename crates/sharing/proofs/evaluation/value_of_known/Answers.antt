use Rattle.std.proofs.Common.{◌≡◌, ℕ, suc, ◌+◌, ◌-◌, ◌*◌, ◌<◌, ◌∷◌, sym, ap, ◌∙◌, ap₂, arith}
use Rattle.sharing.specs.Linear.{scaled}
use Rattle.sharing.specs.Value.{value_at}
use Rattle.sharing.specs.Codes.{decoded_from}
use Rattle.sharing.proofs.CodeWalk.{room, place_after, place_first, taken_at, taken_rest, decoded_none, decoded_next, decoded_members}
use Rattle.sharing.proofs.Horner.{horner, scaled_mod, value_none}
use Rattle.sharing.proofs.evaluation.value_of_known.Goals as goal

pub code_width-requires : goal.code_width-requires
code_width-requires g c = omega (arith, room (c.loop-k.k - 1) c.args.count g.L.Linear.width (omega arith), c.requires.within)

pub overflow_add-at : goal.overflow_add-at
overflow_add-at g c =
    rw c.code_width.ensures (omega (arith, room (c.loop-k.k - 1) c.args.count g.L.Linear.width (omega arith), c.requires.within))

pub known-coefficient-requires : goal.known-coefficient-requires
known-coefficient-requires g c =
    let m = g.L.Linear in
    let k = c.loop-k.k - 1 in
    let inside : k < c.args.count = omega arith in
    rw c.code_width.ensures record {
      within = omega (arith, room k c.args.count m.width inside, c.requires.within);
      taken = taken_at (m.refusal c.args.codes.now) m.width k c.args.at c.args.count inside c.requires.taken;
    }

pub loop-k-init : goal.loop-k-init
loop-k-init g c =
    let m = g.L.Linear in
    let n = c.args.count in
    let none : n - n ≡ 0 = omega arith in
    c.zero-value.ensures
    ∙ sym (ap (λ vs. value_at m.sum vs c.args.seat) (decoded_none (m.decoded c.args.codes.now) m.width (c.args.at + n * m.width) (n - n) none) ∙ value_none m.sum c.args.seat)

pub loop-k-preserved : goal.loop-k-preserved
loop-k-preserved g c =
    let m = g.L.Linear in
    let q = g.G.Group.meaning.q in
    let k = c.loop-k.k - 1 in
    let n = c.args.count in
    let w = m.width in
    let seat = c.args.seat in
    let decoded = m.decoded c.args.codes.now in
    let refusal = m.refusal c.args.codes.now in
    let value = m.of c.loop-k.value in
    let rest = decoded_from decoded w (c.args.at + c.loop-k.k * w) (n - c.loop-k.k) in
    let inside : k < n = omega arith in
    let read : m.of c.known-coefficient.result ≡ decoded (c.args.at + k * w)
    = c.known-coefficient.ensures ∙ ap (λ (x : ℕ). decoded (c.args.at + k * x)) c.code_width.ensures in
    let scaled_by : m.of c.scale.result ≡ scaled m.sum seat (value_at m.sum rest seat)
    = c.scale.ensures ∙ ap (λ (x : ℕ). scaled m.sum x value) c.reduced-j.ensures
    ∙ scaled_mod m.commutative q seat value g.met.L.Linear.exponent (m.inside c.loop-k.value)
    ∙ ap (scaled m.sum seat) c.loop-k.invariant in
    let here = m.judged c.args.codes.now (c.args.at + k * w) (taken_at refusal w k c.args.at n inside c.requires.taken) in
    let later = decoded_members decoded w m.member refusal (m.judged c.args.codes.now) (c.args.at + c.loop-k.k * w) (n - c.loop-k.k) (taken_rest refusal w c.loop-k.k c.args.at n (omega arith) c.requires.taken) in
    let place = place_after c.args.at c.loop-k.k w c.loop-k-test.true in
    let left : n - k ≡ suc (n - c.loop-k.k) = omega arith in
    c.add-value.ensures
    ∙ ap₂ m.sum.op read scaled_by
    ∙ horner m.commutative (decoded (c.args.at + k * w)) rest seat here later
    ∙ ap (λ (p : ℕ). value_at m.sum (decoded (c.args.at + k * w) ∷ decoded_from decoded w p (n - c.loop-k.k)) seat) place
    ∙ sym (ap (λ vs. value_at m.sum vs seat) (decoded_next decoded w (c.args.at + k * w) (n - k) (n - c.loop-k.k) left))

pub returns : goal.returns
returns g c =
    let m = g.L.Linear in
    let place = place_first c.args.at c.loop-k.k m.width (omega arith) in
    let all : c.args.count - c.loop-k.k ≡ c.args.count = omega arith in
    c.loop-k.invariant
    ∙ ap₂ (λ (p n : ℕ). value_at m.sum (decoded_from (m.decoded c.args.codes.now) m.width p n) c.args.seat) place all
