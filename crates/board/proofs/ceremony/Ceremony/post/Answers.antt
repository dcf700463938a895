use Rattle.std.proofs.Common.{◌≡◌, ℕ, Err, Option, Result, sym, refl, ap, ◌∙◌, subst, rules}
use Rattle.std.proofs.lemmas.Result.{err_from_is_err_and}
use Rattle.protocol.specs.declared.fault.CeremonyFault.{CeremonyFault}
use Rattle.protocol.specs.Record.{kind_with, kind_field}
use Rattle.protocol.specs.Board.{phase_of, phase_number}
use Rattle.protocol.specs.Refusals.{equations_taken}
use Rattle.board_index.specs.State.{board_of}
use Rattle.board.specs.State.{state_of}
use Rattle.frames.specs.Reading.{Misread}
use Rattle.board.specs.Posting.{answer_of, AfterPosting}
use Rattle.board.proofs.Testing.{begun, misread, turned_away, not_opened}
use Rattle.board.proofs.ceremony.Ceremony.post.Goals as goal

pub returns-in-Unopened : goal.returns-in-Unopened
returns-in-Unopened g c =
    let m = g.G.Group.meaning in
    let b = board_of m (state_of c.args.self.now) in
    record {
      answer = ap (λ (o : Option CeremonyFault). answer_of o (equations_taken (kind_with (kind_field c.args.bytes.now)))) (not_opened m b c.args.bytes.now (ap phase_number (sym c.args.self.now.kept.phase ∙ c.in-Unopened.is)));
      after = refl;
      lender = refl;
    }

pub returns-in_err-kind : goal.returns-in_err-kind
returns-in_err-kind g c =
    let m = g.G.Group.meaning in
    let S = state_of c.args.self.now in
    let bytes = c.args.bytes.now in
    let p = err_from_is_err_and c.from_residual.result c.from_residual.ensures.1 in
    let fault = c.in_err-kind.field-0.0 in
    let opened : phase_number (phase_of m (board_of m S)) ≡ 0 → ⊥ = λ none. begun c.args.self.now.phase c.in_default.not-Unopened (ap phase_number c.args.self.now.kept.phase ∙ none) in
    let told = misread m (board_of m S) bytes fault opened (subst (λ (t : ℕ). Misread m t bytes fault) c.args.self.now.kept.t c.in_err-kind.ensures) in
    record {
      answer = p.1 ∙ ap (λ (f : CeremonyFault). Err f) p.2 ∙ ap (λ (o : Option CeremonyFault). answer_of o (equations_taken (kind_with (kind_field bytes)))) told;
      after = subst (λ (r : Result ℕ CeremonyFault). AfterPosting m S bytes r S) (sym p.1) refl;
      lender = refl;
    }

pub returns-in_default-2 : goal.returns-in_default-2
returns-in_default-2 g c =
    record {
      answer = turned_away g.G.Group.meaning (state_of c.args.self.now) c.args.bytes.now c.in_ok-kind.kind c.args.self.now.kept c.in_ok-kind.ensures c.in_default.not-Unopened (search rules);
      after = refl;
      lender = refl;
    }

pub returns-in_default-2-2 : goal.returns-in_default-2-2
returns-in_default-2-2 g c =
    record {
      answer = turned_away g.G.Group.meaning (state_of c.args.self.now) c.args.bytes.now c.in_ok-kind.kind c.args.self.now.kept c.in_ok-kind.ensures c.in_default.not-Unopened (search rules);
      after = refl;
      lender = refl;
    }

pub returns-in_default-2-3 : goal.returns-in_default-2-3
returns-in_default-2-3 g c =
    record {
      answer = turned_away g.G.Group.meaning (state_of c.args.self.now) c.args.bytes.now c.in_ok-kind.kind c.args.self.now.kept c.in_ok-kind.ensures c.in_default.not-Unopened (search rules);
      after = refl;
      lender = refl;
    }

pub returns-in_default-2-4 : goal.returns-in_default-2-4
returns-in_default-2-4 g c =
    record {
      answer = turned_away g.G.Group.meaning (state_of c.args.self.now) c.args.bytes.now c.in_ok-kind.kind c.args.self.now.kept c.in_ok-kind.ensures c.in_default.not-Unopened (search rules);
      after = refl;
      lender = refl;
    }

pub returns-in_default-2-5 : goal.returns-in_default-2-5
returns-in_default-2-5 g c =
    record {
      answer = turned_away g.G.Group.meaning (state_of c.args.self.now) c.args.bytes.now c.in_ok-kind.kind c.args.self.now.kept c.in_ok-kind.ensures c.in_default.not-Unopened (search rules);
      after = refl;
      lender = refl;
    }

pub returns-in_default-2-6 : goal.returns-in_default-2-6
returns-in_default-2-6 g c =
    record {
      answer = turned_away g.G.Group.meaning (state_of c.args.self.now) c.args.bytes.now c.in_ok-kind.kind c.args.self.now.kept c.in_ok-kind.ensures c.in_default.not-Unopened (search rules);
      after = refl;
      lender = refl;
    }

pub returns-in_default-2-7 : goal.returns-in_default-2-7
returns-in_default-2-7 g c =
    record {
      answer = turned_away g.G.Group.meaning (state_of c.args.self.now) c.args.bytes.now c.in_ok-kind.kind c.args.self.now.kept c.in_ok-kind.ensures c.in_default.not-Unopened (search rules);
      after = refl;
      lender = refl;
    }
