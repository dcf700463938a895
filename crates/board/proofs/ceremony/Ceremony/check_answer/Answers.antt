use Rattle.std.proofs.Common.{refl, arith, rules}
use Rattle.protocol.specs.declared.kind.Kind.TheVariants.{Answer}
use Rattle.protocol.specs.declared.phase.Phase.TheVariants.{Answering}
use Rattle.protocol.specs.Refusals.{first_fault, tests_of}
use Rattle.board.specs.State.{state_of}
use Rattle.board.proofs.Testing.{behind}
use Rattle.board.proofs.ceremony.Ceremony.check_answer.Goals as goal

pub returns-in_err-dealer : goal.returns-in_err-dealer
unfolding first_fault tests_of
returns-in_err-dealer g c =
    let h = behind g.G.Group.meaning (state_of c.args.self.now) c.args.bytes.now Answer Answering _ c.args.self.now.kept c.requires.kind c.requires.phase refl (λ e. omega arith) refl in
    search rules

pub returns-then-not-has : goal.returns-then-not-has
unfolding first_fault tests_of
returns-then-not-has g c =
    let h = behind g.G.Group.meaning (state_of c.args.self.now) c.args.bytes.now Answer Answering _ c.args.self.now.kept c.requires.kind c.requires.phase refl (λ e. omega arith) refl in
    search rules

pub returns-then-has : goal.returns-then-has
unfolding first_fault tests_of
returns-then-has g c =
    let h = behind g.G.Group.meaning (state_of c.args.self.now) c.args.bytes.now Answer Answering _ c.args.self.now.kept c.requires.kind c.requires.phase refl (λ e. omega arith) refl in
    search rules

pub returns-in_err-judge : goal.returns-in_err-judge
unfolding first_fault tests_of
returns-in_err-judge g c =
    let h = behind g.G.Group.meaning (state_of c.args.self.now) c.args.bytes.now Answer Answering _ c.args.self.now.kept c.requires.kind c.requires.phase refl (λ e. omega arith) refl in
    search rules

pub returns : goal.returns
unfolding first_fault tests_of
returns g c =
    let h = behind g.G.Group.meaning (state_of c.args.self.now) c.args.bytes.now Answer Answering _ c.args.self.now.kept c.requires.kind c.requires.phase refl (λ e. omega arith) refl in
    search rules
