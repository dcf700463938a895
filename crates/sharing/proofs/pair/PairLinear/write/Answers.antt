use Rattle.std.proofs.Common.{ℕ, ◌+◌, List, sym, ◌∙◌, ap₂, arith}
use lib.Seq.{paste}
use Rattle.std.proofs.lemmas.List.Edits.{paste-paste}
use Rattle.sharing.proofs.pair.PairLinear.write.Goals as goal

pub returns : goal.returns
returns g c =
    let a = g.A.Linear in
    let b = g.B.Linear in
    let left = a.encoded (a.of c.args.self.left) in
    let right = b.encoded (b.of c.args.self.right) in
    let out = c.args.out.now in
    let at = c.args.at in
    c.write-2.ensures
    ∙ ap₂ (λ (d : List ℕ) (w : ℕ). paste d (at + w) right b.width) c.write.ensures c.code_width.ensures
    ∙ paste-paste out at left right a.width b.width (sym (a.encoded_length (a.of c.args.self.left))) (sym (b.encoded_length (b.of c.args.self.right))) (omega (arith, c.requires))
