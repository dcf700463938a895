use Rattle.std.proofs.Common.{◌≡◌, suc, ◌+◌, ◌-◌, ◌*◌, Err, ap, ◌∙◌, arith}
use Rattle.std.proofs.lemmas.Result.{err_from_is_err_and}
use Rattle.group.proofs.Readings.{read_taken, read_refused}
use Rattle.sharing.specs.Codes.{refused_from}
use Rattle.sharing.proofs.CodeWalk.{refused_here, refused_behind, refused_none, judges_refused}
use Rattle.sharing.proofs.evaluation.judge_codes.Goals as goal

pub loop-k-preserved : goal.loop-k-preserved
loop-k-preserved g c =
    let m = g.L.Linear in
    let refusal = m.refusal c.args.codes.now in
    let place = c.args.at + c.loop-k.k * c.code_width.result in
    let none = (read_taken (refusal place) m.of (m.decoded c.args.codes.now place) c.read.result c.in_ok-read.field-0 c.read.ensures c.in_ok-read.was).0 in
    c.loop-k.invariant ∙ refused_behind refusal m.width c.args.at c.loop-k.k c.args.count c.loop-k-test.true (rw c.code_width.ensures at none)

pub returns : goal.returns
returns g c =
    let m = g.L.Linear in
    c.loop-k.invariant ∙ refused_none (m.refusal c.args.codes.now) m.width (c.args.at + c.loop-k.k * m.width) (c.args.count - c.loop-k.k) (omega arith)

pub returns-in_err-read : goal.returns-in_err-read
returns-in_err-read g c =
    let m = g.L.Linear in
    let k = c.loop-k.k in
    let left = c.args.count - (k + 1) in
    let next : c.args.count - k ≡ suc left = omega arith in
    let refusal = m.refusal c.args.codes.now in
    let place = c.args.at + k * c.code_width.result in
    let fault = c.in_err-read.field-0.0 in
    let out = err_from_is_err_and c.from_residual.result c.from_residual.ensures.1 in
    let here = read_refused (refusal place) m.of (m.decoded c.args.codes.now place) c.read.result fault c.read.ensures c.in_err-read.was in
    let all = c.loop-k.invariant ∙ refused_here refusal m.width (c.args.at + k * m.width) (c.args.count - k) left fault next (rw c.code_width.ensures at here) in
    judges_refused (refused_from refusal m.width c.args.at c.args.count) c.from_residual.result fault (out.1 ∙ ap Err out.2) all
