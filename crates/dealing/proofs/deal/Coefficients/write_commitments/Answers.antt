use Rattle.std.proofs.Common.{◌≡◌, ℕ, ◌+◌, ◌*◌, ◌<◌, ◌≤◌, List, length, sym, ap, ◌∙◌, ap₂, add-mul, zero-add, zero-mul, arith}
use lib.Seq.{paste}
use Rattle.std.proofs.lemmas.List.Edits.{paste_none}
use Rattle.group.specs.Code.{code, code_at}
use Rattle.sharing.specs.Codes.{decoded_from, scalar_refused}
use Rattle.sharing.specs.Commitment.{commitment}
use Rattle.sharing.proofs.CodeWalk.{room, taken_at}
use Rattle.protocol.specs.Record.{codes_of}
use Rattle.dealing.proofs.CodeLists.{paste_code}
use Rattle.dealing.proofs.deal.Coefficients.write_commitments.Goals as goal

pub known-left-requires : goal.known-left-requires
known-left-requires g c =
    let m = g.G.Group.meaning in
    let k = c.loop-k.k in
    let n = c.args.self.now.t + 1 in
    let below : k < n = omega arith in
    let inside = room k n m.s below in
    let none = taken_at (scalar_refused m c.args.self.now.codes.now) m.s k 0 (2 * n) (omega arith) c.requires.taken in
    rw (c.S-s.ensures ∙ g.met.G.Group.scalar_width_is) record { within = omega (arith, inside, c.requires.given); taken = rw (zero-add (k * m.s)) at none }

pub overflow_add-k : goal.overflow_add-k
overflow_add-k g c =
    let m = g.G.Group.meaning in
    let n = c.args.self.now.t + 1 in
    let below : c.loop-k.k < n = omega arith in
    let inside = room c.loop-k.k n m.s below in
    rw (c.S-s.ensures ∙ g.met.G.Group.scalar_width_is, c.count-count.ensures) (omega (arith, inside, c.requires.given))

pub known-right-requires : goal.known-right-requires
known-right-requires g c =
    let m = g.G.Group.meaning in
    let k = c.loop-k.k in
    let n = c.args.self.now.t + 1 in
    let below : k < n = omega arith in
    let inside = room k n m.s below in
    let place : 0 + (k + n) * m.s ≡ k * m.s + n * m.s = zero-add ((k + n) * m.s) ∙ add-mul k n m.s in
    let none = taken_at (scalar_refused m c.args.self.now.codes.now) m.s (k + n) 0 (2 * n) (omega arith) c.requires.taken in
    rw (c.S-s.ensures ∙ g.met.G.Group.scalar_width_is, c.count-count.ensures) record { within = omega (arith, inside, c.requires.given); taken = rw place at none }

pub overflow_add-at : goal.overflow_add-at
overflow_add-at g c =
    let m = g.G.Group.meaning in
    let below : c.loop-k.k < c.args.self.now.t + 1 = omega arith in
    let inside = room c.loop-k.k (c.args.self.now.t + 1) m.w below in
    rw (c.W-w.ensures ∙ g.met.G.Group.width_is) (omega (arith, inside, c.requires.room))

pub write_element-requires : goal.write_element-requires
write_element-requires g c =
    let m = g.G.Group.meaning in
    let below : c.loop-k.k < c.args.self.now.t + 1 = omega arith in
    let inside = room c.loop-k.k (c.args.self.now.t + 1) m.w below in
    rw (c.W-w.ensures ∙ g.met.G.Group.width_is) (omega (arith, inside, c.requires.room))

pub loop-k-init : goal.loop-k-init
loop-k-init g c =
    let m = g.G.Group.meaning in
    let none = codes_of m.w (decoded_from (λ place. commitment m (code_at c.args.self.now.codes.now m.s place, code_at c.args.self.now.codes.now m.s (place + (c.args.self.now.t + 1) * m.s))) m.s 0 0) in
    paste_none c.args.out.now c.args.at none ∙ ap (paste c.args.out.now c.args.at none) (sym (zero-mul m.w))

pub loop-k-preserved : goal.loop-k-preserved
loop-k-preserved g c =
    let m = g.G.Group.meaning in
    let k = c.loop-k.k in
    let n = c.args.self.now.t + 1 in
    let at = c.args.at in
    let bytes = c.args.self.now.codes.now in
    let s = c.S-s.ensures ∙ g.met.G.Group.scalar_width_is in
    let w = c.W-w.ensures ∙ g.met.G.Group.width_is in
    let committed : ℕ → ℕ = λ place. commitment m (code_at bytes m.s place, code_at bytes m.s (place + n * m.s)) in
    let left = c.known-left.ensures ∙ ap (λ (x : ℕ). code_at bytes m.s (k * x)) s in
    let right = c.known-right.ensures ∙ ap₂ (λ (x i : ℕ). code_at bytes m.s (k * x + i * x)) s c.count-count.ensures in
    let start : at ≤ length c.args.out.now = omega (arith, c.requires.room) in
    let number = c.commit.ensures ∙ ap₂ (λ (x y : ℕ). commitment m (x, y)) left right ∙ ap committed (sym (zero-add (k * m.s))) in
    c.write_element.ensures
    ∙ ap₂ (λ (x y : ℕ). paste c.loop-k.out (at + k * x) (code m.w y) m.w) w number
    ∙ ap (λ (out : List ℕ). paste out (at + k * m.w) (code m.w (committed (0 + k * m.s))) m.w) c.loop-k.invariant
    ∙ paste_code c.args.out.now at committed m.s m.w k start
