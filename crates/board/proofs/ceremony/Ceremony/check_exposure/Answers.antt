use Rattle.std.proofs.Common.{refl, arith, rules}
use Rattle.protocol.specs.declared.kind.Kind.TheVariants.{Exposure}
use Rattle.protocol.specs.declared.phase.Phase.TheVariants.{Exposing}
use Rattle.protocol.specs.Refusals.{first_fault, tests_of}
use Rattle.board.specs.State.{state_of}
use Rattle.board.proofs.Testing.{behind}
use Rattle.board.proofs.ceremony.Ceremony.check_exposure.Goals as goal

pub returns-in_err-writer : goal.returns-in_err-writer
unfolding first_fault tests_of
returns-in_err-writer g c =
    let h = behind g.G.Group.meaning (state_of c.args.self.now) c.args.bytes.now Exposure Exposing _ c.args.self.now.kept c.requires.kind c.requires.phase refl (λ e. omega arith) refl in
    search rules

pub returns-then-not-is_qualified : goal.returns-then-not-is_qualified
unfolding first_fault tests_of
returns-then-not-is_qualified g c =
    let h = behind g.G.Group.meaning (state_of c.args.self.now) c.args.bytes.now Exposure Exposing _ c.args.self.now.kept c.requires.kind c.requires.phase refl (λ e. omega arith) refl in
    search rules

pub returns-then-has : goal.returns-then-has
unfolding first_fault tests_of
returns-then-has g c =
    let h = behind g.G.Group.meaning (state_of c.args.self.now) c.args.bytes.now Exposure Exposing _ c.args.self.now.kept c.requires.kind c.requires.phase refl (λ e. omega arith) refl in
    search rules

pub returns-in_err-judge : goal.returns-in_err-judge
unfolding first_fault tests_of
returns-in_err-judge g c =
    let h = behind g.G.Group.meaning (state_of c.args.self.now) c.args.bytes.now Exposure Exposing _ c.args.self.now.kept c.requires.kind c.requires.phase refl (λ e. omega arith) refl in
    search rules

pub returns : goal.returns
unfolding first_fault tests_of
returns g c =
    let h = behind g.G.Group.meaning (state_of c.args.self.now) c.args.bytes.now Exposure Exposing _ c.args.self.now.kept c.requires.kind c.requires.phase refl (λ e. omega arith) refl in
    search rules
