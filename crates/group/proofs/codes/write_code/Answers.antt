use Rattle.std.proofs.Common.{◌≡◌, ℕ, suc, ◌+◌, ◌-◌, ◌++◌, take, sym, ap, ◌∙◌, arith}
use Rattle.group.specs.Code.{code}
use Rattle.group.proofs.CodeSteps.{write_more}
use Rattle.group.proofs.codes.write_code.Goals as goal

pub loop-byte-preserved : goal.loop-byte-preserved
loop-byte-preserved c =
    let i = c.loop-byte.byte-index in
    let items = c.loop-byte.byte-items in
    let j = c.args.width - (i + 1) in
    let next : c.args.width - i ≡ suc j = omega arith in
    write_more items i j c.loop-byte.left (omega arith) ∙ ap (λ (w : ℕ). take i items ++ code w c.loop-byte.left) (sym next) ∙ c.loop-byte.invariant
