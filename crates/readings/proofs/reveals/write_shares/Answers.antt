use Rattle.std.proofs.Common.{ℕ, ◌+◌, ◌*◌, List, ◌++◌, map, length, take, refl, ap, ◌∙◌, ap₂, arith}
use Rattle.std.proofs.Math.Seq.{paste}
use Rattle.group.specs.Code.{code}
use Rattle.sharing.proofs.CodeWalk.{room}
use Rattle.protocol.specs.Custodian.{pair_codes}
use Rattle.board.specs.State.{board}
use Rattle.readings.specs.Outputs.{written_in}
use Rattle.readings.specs.Serving.{share_of}
use Rattle.readings.proofs.Shares.{share_more}
use Rattle.readings.proofs.reveals.write_shares.Goals as goal

pub write-requires : goal.write-requires
write-requires g c =
    let w = g.G.Group.meaning.s + g.G.Group.meaning.s in
    rw c.code_width-width.ensures (omega (arith, room c.loop-k.k (length c.args.seats.now) w c.loop-k-test.true))

pub loop-k-init : goal.loop-k-init
unfolding pair_codes
loop-k-init g c = refl

pub loop-k-preserved : goal.loop-k-preserved
loop-k-preserved g c =
    let s = g.G.Group.meaning.s in
    let out = c.args.out.now in
    let seats = c.args.seats.now in
    let k = c.loop-k.k in
    let f = share_of (board c.args.ceremony.now) c.args.dealer in
    c.write.ensures
    ∙ ap₂ (λ (d : List ℕ) (p : ℕ). paste d (k * p) (code s (g.G.Group.scalar_of c.share_of.result.left.value) ++ code s (g.G.Group.scalar_of c.share_of.result.right.value)) (s + s)) c.loop-k.invariant c.code_width-width.ensures
    ∙ ap (λ (x : ℕ × ℕ). paste (written_in out (pair_codes s (map f (take k seats)))) (k * (s + s)) (code s x.0 ++ code s x.1) (s + s)) c.share_of.ensures
    ∙ share_more s f seats out k c.loop-k-test.true
