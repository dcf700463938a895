use Rattle.std.proofs.Common.{ℕ, Bool, List, sym, refl, subst, ap₂}
use Rattle.protocol.specs.declared.phase.Phase.TheVariants.{Unopened}
use Rattle.board_index.specs.Frames.{records_after, board_in}
use Rattle.board_index.specs.State.{State}
use Rattle.board_index.specs.Kept.{Kept}
use Rattle.board_index.proofs.Opening.{fresh_kept}
use Rattle.board.proofs.ceremony.Ceremony.new.Goals as goal

pub invariant_of-result : goal.invariant_of-result
invariant_of-result g c =
    let m = g.G.Group.meaning in
    let made : List ℕ → List Bool → State = λ places truths. record { area = c.args.area.now; used = 0; n = 0; t = 0; phase = Unopened; places = places; truths = truths } in
    record { kept = subst (Kept m) (sym (ap₂ made c.empty.ensures.places c.empty.ensures.truths)) (fresh_kept m c.args.area.now) }

pub returns : goal.returns
unfolding records_after board_in
returns g c = record { area = (refl, refl); board = refl; lender = refl }
