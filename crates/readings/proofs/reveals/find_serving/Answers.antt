use Rattle.std.proofs.Common.{◌≡◌, ℕ, ◌+◌, Bool, sym, ◌∙◌, arith}
use Rattle.protocol.specs.Board.{revealed}
use Rattle.board.specs.State.{board}
use Rattle.readings.proofs.LowestSeats.{lowest_none, lowest_more, lowest_same, lowest_full}
use Rattle.readings.proofs.reveals.find_serving.Goals as goal
use Rattle.readings.proofs.reveals.find_serving.Goals.{then-len-t+then-has, else-len-t, else-len-t-via-then-len-t+else-has, else-len-t-via-else-len-t}

pub loop-j-init : goal.loop-j-init
loop-j-init g c =
    let b = board c.args.ceremony.now in
    c.new-serving.ensures ∙ lowest_none (λ j. revealed b j c.args.dealer) (b.t + 1)

pub loop-j-preserved : goal.loop-j-preserved
loop-j-preserved g c =
    let b = board c.args.ceremony.now in
    let P : ℕ → Bool = λ j. revealed b j c.args.dealer in
    let k = b.t + 1 in
    let t : c.t-t.result ≡ b.t = c.t-t.ensures in
    let here = c.loop-j.invariant in
    elim c.if-len-t.branch [
      | then-len-t+then-has w ↦
          w.serving-is ∙ w.push.ensures
          ∙ lowest_more P k c.loop-j.serving c.loop-j.j here c.loop-j.auto.j (omega (arith, w.if-len-t.true)) (sym w.has.ensures ∙ w.if-has.true)
      | else-len-t w ↦
          elim w.else-len-t.branch [
            | else-len-t-via-then-len-t+else-has v ↦
                w.serving-is ∙ lowest_same P k c.loop-j.serving c.loop-j.j here c.loop-j.auto.j (sym v.has.ensures ∙ v.if-has.false)
            | else-len-t-via-else-len-t v ↦
                w.serving-is ∙ lowest_full P k c.loop-j.serving c.loop-j.j here c.loop-j.auto.j (omega (arith, v.if-len-t.false))
          ]
    ]
