use Rattle.std.proofs.Common.{ℕ, get_or, sym, ap, ◌∙◌, rules}
use Rattle.board_index.specs.State.{unless_zero, look}
use Rattle.board_index.proofs.Looking.{look_low, unless_zero_some}
use Rattle.board_index.proofs.index.Index.find.Goals as goal

pub returns-then-writer-gt32 : goal.returns-then-writer-gt32
unfolding look
returns-then-writer-gt32 c = search rules

pub returns-then-place-eq0 : goal.returns-then-place-eq0
returns-then-place-eq0 c =
    let at = ap (λ (n : ℕ). get_or c.args.self.now.places n 0) c.slot_of.ensures in
    sym (look_low c.args.self.now.places c.args.kind c.args.writer c.args.second c.if-writer-gt32.false c.if-second-gt32.false
    ∙ ap unless_zero (sym at ∙ c.if-place-eq0.true))

pub returns : goal.returns
returns c =
    let at = ap (λ (n : ℕ). get_or c.args.self.now.places n 0) c.slot_of.ensures in
    unless_zero_some _ c.if-place-eq0.false
    ∙ ap unless_zero at
    ∙ sym (look_low c.args.self.now.places c.args.kind c.args.writer c.args.second c.if-writer-gt32.false c.if-second-gt32.false)
