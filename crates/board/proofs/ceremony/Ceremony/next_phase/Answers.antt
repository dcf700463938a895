use Rattle.std.proofs.Common.{◌≡◌, sym, ap, ◌∙◌, arith}
use Rattle.std.proofs.lemmas.Bool.{le-leb, lt-leb}
use Rattle.protocol.specs.declared.phase.Phase.TheVariants as phases
use Rattle.protocol.specs.Seats.{count}
use Rattle.protocol.specs.Board.{qualified}
use Rattle.board_index.specs.State.{board_of}
use Rattle.board.specs.State.{state_of}
use Rattle.board.proofs.NextPhase.{following, next_is}
use Rattle.board.proofs.ceremony.Ceremony.next_phase.Goals as goal

pub returns-in-Unopened : goal.returns-in-Unopened
returns-in-Unopened g c = λ bytes of none.
    let m = g.G.Group.meaning in
    next_is m (board_of m (state_of c.args.self.now)) bytes none of.named phases.Unopened (sym c.in-Unopened.is ∙ c.args.self.now.kept.phase)

pub returns-in-Dealing : goal.returns-in-Dealing
returns-in-Dealing g c = λ bytes of none.
    let m = g.G.Group.meaning in
    next_is m (board_of m (state_of c.args.self.now)) bytes none of.named phases.Dealing (sym c.in-Dealing.is ∙ c.args.self.now.kept.phase)

pub returns-in-Complaining : goal.returns-in-Complaining
returns-in-Complaining g c = λ bytes of none.
    let m = g.G.Group.meaning in
    next_is m (board_of m (state_of c.args.self.now)) bytes none of.named phases.Complaining (sym c.in-Complaining.is ∙ c.args.self.now.kept.phase)

pub returns-in-Exposing : goal.returns-in-Exposing
returns-in-Exposing g c = λ bytes of none.
    let m = g.G.Group.meaning in
    next_is m (board_of m (state_of c.args.self.now)) bytes none of.named phases.Exposing (sym c.in-Exposing.is ∙ c.args.self.now.kept.phase)

pub returns-in-Objecting : goal.returns-in-Objecting
returns-in-Objecting g c = λ bytes of none.
    let m = g.G.Group.meaning in
    next_is m (board_of m (state_of c.args.self.now)) bytes none of.named phases.Objecting (sym c.in-Objecting.is ∙ c.args.self.now.kept.phase)

pub returns-in-Void : goal.returns-in-Void
returns-in-Void g c = λ bytes of none.
    let m = g.G.Group.meaning in
    next_is m (board_of m (state_of c.args.self.now)) bytes none of.named phases.Void (sym c.in-Void.is ∙ c.args.self.now.kept.phase)

pub returns-in-Revealing : goal.returns-in-Revealing
returns-in-Revealing g c = λ bytes of none.
    let m = g.G.Group.meaning in
    next_is m (board_of m (state_of c.args.self.now)) bytes none of.named phases.Revealing (sym c.in-Revealing.is ∙ c.args.self.now.kept.phase)

pub returns-in-Finished : goal.returns-in-Finished
returns-in-Finished g c = λ bytes of none.
    let m = g.G.Group.meaning in
    next_is m (board_of m (state_of c.args.self.now)) bytes none of.named phases.Finished (sym c.in-Finished.is ∙ c.args.self.now.kept.phase)

pub returns-then-qualified_count-self : goal.returns-then-qualified_count-self
returns-then-qualified_count-self g c = λ bytes of none.
    let m = g.G.Group.meaning in
    let b = board_of m (state_of c.args.self.now) in
    let k : c.qualified_count.result ≡ count b.n (qualified m b) = c.qualified_count.ensures in
    let t : c.args.self.now.t ≡ b.t = c.args.self.now.kept.t in
    sym (ap (following phases.Answering) (le-leb (count b.n (qualified m b)) b.t (omega (arith, c.if-qualified_count-self.true))))
    ∙ next_is m b bytes none of.named phases.Answering (sym c.in-Answering.is ∙ c.args.self.now.kept.phase)

pub returns-else-qualified_count-self : goal.returns-else-qualified_count-self
returns-else-qualified_count-self g c = λ bytes of none.
    let m = g.G.Group.meaning in
    let b = board_of m (state_of c.args.self.now) in
    let k : c.qualified_count.result ≡ count b.n (qualified m b) = c.qualified_count.ensures in
    let t : c.args.self.now.t ≡ b.t = c.args.self.now.kept.t in
    sym (ap (following phases.Answering) (lt-leb (count b.n (qualified m b)) b.t (omega (arith, c.if-qualified_count-self.false))))
    ∙ next_is m b bytes none of.named phases.Answering (sym c.in-Answering.is ∙ c.args.self.now.kept.phase)
