use Rattle.std.proofs.Common.{◌≡◌, ℕ, ◌+◌, ◌-◌, ◌*◌, ◌++◌, length, sym, ap, ◌∙◌, ap₂, zero-add, arith, length-append}
use lib.Seq.{paste}
use Rattle.group.specs.Code.{code}
use Rattle.sharing.specs.Linear.{scalar_sum}
use Rattle.sharing.specs.Value.{value_at}
use Rattle.sharing.specs.Codes.{refused_from, scalar_refused}
use Rattle.group.specs.CodeLaws.{code_length}
use Rattle.sharing.proofs.CodeWalk.{taken_front, taken_rest}
use Rattle.dealing.specs.Dealing.{scalars_from, share_for}
use Rattle.dealing.proofs.Passing.{written, refused, drawn_up_lem, no_room, passed_length, passed_codes}
use Rattle.dealing.proofs.deal.Coefficients.draw_up_share.Goals as goal

pub value_of_known-left-requires : goal.value_of_known-left-requires
value_of_known-left-requires g c =
    let m = g.G.Group.meaning in
    let n = c.args.self.now.t + 1 in
    let bytes = c.args.self.now.codes.now in
    let passed = sym c.check.ensures ∙ c.in_ok-check.was in
    rw c.count-count.ensures record {
      within = omega (arith, passed_length m bytes n c.args.seat passed);
      taken = taken_front (scalar_refused m bytes) m.s 0 n (2 * n) (omega arith) (passed_codes m bytes n c.args.seat passed);
    }

pub value_of_known-right-requires : goal.value_of_known-right-requires
value_of_known-right-requires g c =
    let m = g.G.Group.meaning in
    let n = c.args.self.now.t + 1 in
    let bytes = c.args.self.now.codes.now in
    let passed = sym c.check.ensures ∙ c.in_ok-check.was in
    let place : 0 + n * m.s ≡ n * c.S-s.result = zero-add (n * m.s) ∙ ap (λ (w : ℕ). n * w) (sym (c.S-s.ensures ∙ g.met.G.Group.scalar_width_is)) in
    let left : 2 * n - n ≡ n = omega arith in
    rw c.count-count.ensures record {
      within = omega (arith, passed_length m bytes n c.args.seat passed, place, zero-add (n * m.s));
      taken = sym (ap₂ (refused_from (scalar_refused m bytes) m.s) place left) ∙ taken_rest (scalar_refused m bytes) m.s n 0 (2 * n) (omega arith) (passed_codes m bytes n c.args.seat passed);
    }

pub returns-then-out-s : goal.returns-then-out-s
returns-then-out-s g c =
    let m = g.G.Group.meaning in
    let n = c.args.self.now.t + 1 in
    let bytes = c.args.self.now.codes.now in
    let share = share_for m bytes n c.args.seat in
    let a = code m.s share.0 in
    let b = code m.s share.1 in
    let long = length-append a b in
    let passed = sym c.check.ensures ∙ c.in_ok-check.was in
    refused (no_room m bytes n c.args.seat passed (length c.args.out.now) (a ++ b) (omega (arith, long, code_length m.s share.0, code_length m.s share.1, c.S-s.ensures ∙ g.met.G.Group.scalar_width_is, c.if-out-s.true))) c.args.out.now

pub returns : goal.returns
returns g c =
    let m = g.G.Group.meaning in
    let n = c.args.self.now.t + 1 in
    let bytes = c.args.self.now.codes.now in
    let out = c.args.out.now in
    let share = share_for m bytes n c.args.seat in
    let a = code m.s share.0 in
    let b = code m.s share.1 in
    let long : 2 * c.S-s.result ≡ length (a ++ b) = omega (arith, length-append a b, code_length m.s share.0, code_length m.s share.1, c.S-s.ensures ∙ g.met.G.Group.scalar_width_is) in
    let passed = sym c.check.ensures ∙ c.in_ok-check.was in
    let outcome = drawn_up_lem m bytes n c.args.seat passed (length out) (a ++ b) (omega (arith, long, c.if-out-s.false)) in
    let left = c.value_of_known-left.ensures ∙ ap (λ (i : ℕ). value_at (scalar_sum m.q) (scalars_from m bytes 0 i) c.args.seat) c.count-count.ensures in
    let right = c.value_of_known-right.ensures ∙ ap₂ (λ (i w : ℕ). value_at (scalar_sum m.q) (scalars_from m bytes (i * w) i) c.args.seat) c.count-count.ensures (c.S-s.ensures ∙ g.met.G.Group.scalar_width_is) in
    let size : m.s + m.s ≡ length (a ++ b) = omega (arith, long, c.S-s.ensures ∙ g.met.G.Group.scalar_width_is) in
    let pasted =
    c.write.ensures
    ∙ ap₂ (λ (x y : ℕ). paste out 0 (code m.s x ++ code m.s y) (m.s + m.s)) left right
    ∙ ap (paste out 0 (a ++ b)) size in
    written outcome out c.write.new.out (2 * c.S-s.result) long pasted
