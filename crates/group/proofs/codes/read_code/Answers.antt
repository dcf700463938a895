use Rattle.std.proofs.Common.{◌≡◌, ℕ, ◌+◌, ◌-◌, drop, take, refl, ap, ◌∙◌, arith}
use Rattle.std.specs.Slice.Iter.{iter_rest}
use Rattle.group.proofs.CodeSteps.{read_none, read_room, read_byte, read_more}
use Rattle.group.proofs.codes.read_code.Goals as goal

pub loop-byte-init : goal.loop-byte-init
loop-byte-init c =
    let width : c.args.at + c.args.width - c.args.at ≡ c.args.width = omega arith in
    read_none (ap (λ r. iter_rest r.iter) c.into_iter-byte-iterator.ensures.into_iter_gives ∙ ap iter_rest c.rev-byte-items.ensures.source ∙ c.iter.ensures.rest ∙ ap (λ (w : ℕ). take w (drop c.args.at c.args.bytes.now)) width)
    c.requires.within refl

pub overflow_mul-n : goal.overflow_mul-n
overflow_mul-n c = let r = read_room c.loop-byte.invariant _ _ c.in-Some.ensures.steps c.requires.narrow in omega arith

pub overflow_add-n : goal.overflow_add-n
overflow_add-n c =
    let r = read_room c.loop-byte.invariant _ _ c.in-Some.ensures.steps c.requires.narrow in
    let b = read_byte c.loop-byte.invariant _ _ c.in-Some.ensures.steps (λ i. let f = c.type_inv.bytes i in omega arith) in omega arith

pub loop-byte-preserved : goal.loop-byte-preserved
loop-byte-preserved c =
    read_more c.loop-byte.invariant _ _ c.in-Some.ensures.steps (read_byte c.loop-byte.invariant _ _ c.in-Some.ensures.steps (λ i. let f = c.type_inv.bytes i in omega arith))
