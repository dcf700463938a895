use Rattle.std.proofs.Common.{◌≡◌, ℕ, ◌+◌, ◌*◌, List, length, sym, ap, ◌∙◌, ap₂, arith}
use lib.Seq.{paste}
use Rattle.group.specs.Code.{code}
use Rattle.protocol.specs.Record.{codes_of}
use Rattle.dealing.specs.Dealing.{commitments_of}
use Rattle.dealing.proofs.CodeLists.{deal, decoded_length, deal_length, deal_pasted}
use Rattle.dealing.proofs.Passing.{written, refused, drawn_up_lem, no_room}
use Rattle.dealing.proofs.deal.Coefficients.draw_up_deal.Goals as goal

pub returns-then-out-size : goal.returns-then-out-size
returns-then-out-size g c =
    let m = g.G.Group.meaning in
    let n = c.args.self.now.t + 1 in
    let bytes = c.args.self.now.codes.now in
    let record' = deal m.w c.args.seat (commitments_of m bytes n) in
    let long = deal_length m.w c.args.seat (commitments_of m bytes n) n (decoded_length _ m.s 0 n) in
    let wide = ap₂ ◌*◌ c.count.ensures (c.W.ensures ∙ g.met.G.Group.width_is) in
    refused (no_room m bytes n c.args.seat (sym c.check.ensures ∙ c.in_ok-check.was) (length c.args.out.now) record' (omega (arith, long, wide, c.if-out-size.true))) c.args.out.now

pub returns : goal.returns
returns g c =
    let m = g.G.Group.meaning in
    let n = c.args.self.now.t + 1 in
    let bytes = c.args.self.now.codes.now in
    let out = c.args.out.now in
    let commitments = commitments_of m bytes n in
    let record' = deal m.w c.args.seat commitments in
    let many = decoded_length _ m.s 0 n in
    let long = deal_length m.w c.args.seat commitments n many in
    let wide = ap₂ ◌*◌ c.count.ensures (c.W.ensures ∙ g.met.G.Group.width_is) in
    let size : 5 + c.count.result * c.W.result ≡ 5 + n * m.w = omega (arith, wide) in
    let outcome = drawn_up_lem m bytes n c.args.seat (sym c.check.ensures ∙ c.in_ok-check.was) (length out) record' (omega (arith, long, wide, c.if-out-size.false)) in
    let body = codes_of m.w commitments in
    let pasted =
    c.write_commitments.ensures
    ∙ ap (λ (d : List ℕ). paste d 5 body (n * m.w))
    (c.write_code-3.ensures
    ∙ ap (λ (d : List ℕ). paste d 4 (code 1 c.args.seat) 1) (c.write_code-2.ensures ∙ ap (λ (d : List ℕ). paste d 2 (code 2 2) 2) c.write_code.ensures))
    ∙ deal_pasted out m.w c.args.seat (5 + c.count.result * c.W.result) commitments n (omega arith) many size in
    written outcome out c.write_commitments.new.out (5 + c.count.result * c.W.result) (size ∙ sym long) (pasted ∙ ap (paste out 0 record') (size ∙ sym long))
