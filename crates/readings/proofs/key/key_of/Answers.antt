use Rattle.std.proofs.Common.{◌≡◌, ℕ, Bool, sym, ap, ◌∙◌, rules}
use Rattle.std.specs.declared.iter.Rev.{Rev}
use Rattle.std.specs.declared.ops.Range.{Range}
use Rattle.std.specs.Iterator.Adapters.{rev_source, filter_source}
use Rattle.std.specs.List.{fold, filter}
use Rattle.std.proofs.lemmas.Iterator.Consumers.{YieldsList-from_filter}
use Rattle.std.proofs.lemmas.List.Sums.{fold_push}
use Rattle.protocol.specs.Board.{qualified, key_part}
use Rattle.board.specs.State.{board}
use Rattle.readings.proofs.Products.{down_from, range_down, folds_over, factor_more, fold_product}
use Rattle.readings.proofs.key.key_of.Goals as goal

pub returns : goal.returns
returns g c =
    let m = g.G.Group.meaning in
    let b = board c.args.ceremony.now in
    let P : ℕ → Bool = qualified m b in
    let h = factor_more m (key_part m b) in
    let range = ap (λ (s : Rev (Range ℕ)). rev_source s) c.filter.ensures.source ∙ c.rev.ensures.source in
    folds_over _ _ _ _ _ _ c.fold.ensures.ran (filter P (down_from b.n))
    (YieldsList-from_filter {v = λ (i : ℕ). i} _ P (range_down b.n c.n.result (filter_source c.filter.result) range c.n.ensures) c.filter.ensures.closure (λ i r q k. search rules))
    (λ l a. g.G.Group.number_of a ≡ fold h m.unit l)
    (λ l a i r q before k.
    let one : g.G.Group.number_of r ≡ h (g.G.Group.number_of a) i = search rules in
    (one ∙ ap (λ (z : ℕ). h z i) before ∙ sym (fold_push h m.unit l i), search rules))
    c.unit.ensures
    ∙ fold_product m (key_part m b) P b.n
