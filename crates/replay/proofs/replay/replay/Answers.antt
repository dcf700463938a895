use Rattle.std.proofs.Common.{◌≡◌, ℕ, ◌+◌, ◌-◌, ◌<◌, ◌≤◌, false, length, drop, Ok, Err, Result, sym, refl, ap, ◌∙◌, subst, add-zero, arith}
use Rattle.std.proofs.lemmas.Bool.{eqb-false, eqb-true}
use Rattle.protocol.specs.declared.fault.CeremonyFault.{CeremonyFault}
use Rattle.board.specs.State.{state_of}
use Rattle.replay.specs.Files.{begins_whole}
use Rattle.replay.proofs.Stepping.{frames_broken, broken_here, none_left, none_broken}
use Rattle.replay.proofs.SoFar.{SoFar, Came, came, posted_on, behind_there, behind_within, all_board, all_area, all_tested, all_taken, all_refused}
use Rattle.replay.proofs.replay.replay.Goals as goal

pub returns-in_default : goal.returns-in_default
returns-in_default g c =
    let m = g.G.Group.meaning in
    let file = c.args.file.now in
    let at = length file - length c.loop-rest.rest.now in
    let first = state_of c.args.ceremony.now in
    let now = state_of c.loop-rest.ceremony in
    let r = c.loop-rest.replayed in
    let S = c.loop-rest.invariant.so_far in
    let no : begins_whole (drop at file) ≡ false = sym (ap begins_whole c.loop-rest.invariant.behind) ∙ c.in_default.ensures in
    let none = frames_broken (drop at file) no in
    let some : 0 < length (drop at file) =
    (let long = eqb-false (length c.loop-rest.rest.now) 0 (sym c.loop-rest-test.ensures) in
    let same : length c.loop-rest.rest.now ≡ length (drop at file) = ap length c.loop-rest.invariant.behind in
    omega (arith, long)) in
    record {
      board = all_board m first now file at r.taken r.refused r.equations S none;
      area = all_area m first now file at r.taken r.refused r.equations S none;
      equations = all_tested m first now file at r.taken r.refused r.equations S none;
      taken = all_taken m first now file at r.taken r.refused r.equations S none;
      refused = all_refused m first now file at r.taken r.refused r.equations S none;
      broken = sym (broken_here at (drop at file) some no) ∙ S.broken;
      lender = c.loop-rest.invariant.lender;
    }

pub loop-rest-preserved-in-Ok : goal.loop-rest-preserved-in-Ok
loop-rest-preserved-in-Ok g c =
    let m = g.G.Group.meaning in
    let file = c.args.file.now in
    let rest = c.loop-rest.rest.now in
    let at = length file - length rest in
    let first = state_of c.args.ceremony.now in
    let now = state_of c.loop-rest.ceremony in
    let later = state_of c.post.new.self in
    let r = c.loop-rest.replayed in
    let S = c.loop-rest.invariant.so_far in
    let W = c.in-Some.ensures in
    let C : Came m now c.in-Some.record.now (Ok c.in-Ok.tested) later =
    subst (λ (x : Result ℕ CeremonyFault). Came m now c.in-Some.record.now x later) c.in-Ok.is (came m now _ c.post.result later c.post.ensures.answer c.post.ensures.after) in
    let on = posted_on m first now file at r.taken r.refused r.equations S rest c.in-Some.record.now c.in-Some.behind.now refl c.loop-rest.invariant.behind W.0 W.1 W.2 (Ok c.in-Ok.tested) later C in
    record {
      so_far = subst (λ (n : ℕ). SoFar m first later file (length file - length c.in-Some.behind.now) (r.taken + 1) n (r.equations + c.in-Ok.tested)) (add-zero r.refused) on;
      within = behind_within m first now file at r.taken r.refused r.equations S rest c.in-Some.record.now c.in-Some.behind.now refl c.loop-rest.invariant.behind W.0 W.1 W.2;
      behind = behind_there m first now file at r.taken r.refused r.equations S rest c.in-Some.record.now c.in-Some.behind.now refl c.loop-rest.invariant.behind W.0 W.1 W.2;
      none_broken = c.loop-rest.invariant.none_broken;
      lender = c.post.ensures.lender ∙ c.loop-rest.invariant.lender;
    }

pub loop-rest-preserved : goal.loop-rest-preserved
loop-rest-preserved g c =
    let m = g.G.Group.meaning in
    let file = c.args.file.now in
    let rest = c.loop-rest.rest.now in
    let at = length file - length rest in
    let first = state_of c.args.ceremony.now in
    let now = state_of c.loop-rest.ceremony in
    let later = state_of c.post.new.self in
    let r = c.loop-rest.replayed in
    let S = c.loop-rest.invariant.so_far in
    let W = c.in-Some.ensures in
    let C : Came m now c.in-Some.record.now (Err c.in-Err.fault) later =
    subst (λ (x : Result ℕ CeremonyFault). Came m now c.in-Some.record.now x later) c.in-Err.is (came m now _ c.post.result later c.post.ensures.answer c.post.ensures.after) in
    let on = posted_on m first now file at r.taken r.refused r.equations S rest c.in-Some.record.now c.in-Some.behind.now refl c.loop-rest.invariant.behind W.0 W.1 W.2 (Err c.in-Err.fault) later C in
    record {
      so_far = subst (λ (n : ℕ). SoFar m first later file (length file - length c.in-Some.behind.now) n (r.refused + 1) (r.equations + c.equations.result)) (add-zero r.taken) (subst (λ (n : ℕ). SoFar m first later file (length file - length c.in-Some.behind.now) (r.taken + 0) (r.refused + 1) (r.equations + n)) (sym c.equations.ensures) on);
      within = behind_within m first now file at r.taken r.refused r.equations S rest c.in-Some.record.now c.in-Some.behind.now refl c.loop-rest.invariant.behind W.0 W.1 W.2;
      behind = behind_there m first now file at r.taken r.refused r.equations S rest c.in-Some.record.now c.in-Some.behind.now refl c.loop-rest.invariant.behind W.0 W.1 W.2;
      none_broken = c.loop-rest.invariant.none_broken;
      lender = c.post.ensures.lender ∙ c.loop-rest.invariant.lender;
    }

pub returns : goal.returns
returns g c =
    let m = g.G.Group.meaning in
    let file = c.args.file.now in
    let at = length file - length c.loop-rest.rest.now in
    let first = state_of c.args.ceremony.now in
    let now = state_of c.loop-rest.ceremony in
    let r = c.loop-rest.replayed in
    let S = c.loop-rest.invariant.so_far in
    let empty : length (drop at file) ≤ 0 =
    (let none = eqb-true (length c.loop-rest.rest.now) 0 (sym c.loop-rest-test.ensures) in
    let same : length c.loop-rest.rest.now ≡ length (drop at file) = ap length c.loop-rest.invariant.behind in
    omega (arith, none)) in
    let none = none_left (drop at file) empty in
    record {
      board = all_board m first now file at r.taken r.refused r.equations S none;
      area = all_area m first now file at r.taken r.refused r.equations S none;
      equations = all_tested m first now file at r.taken r.refused r.equations S none;
      taken = all_taken m first now file at r.taken r.refused r.equations S none;
      refused = all_refused m first now file at r.taken r.refused r.equations S none;
      broken = c.loop-rest.invariant.none_broken ∙ sym (none_broken at (drop at file) empty) ∙ S.broken;
      lender = c.loop-rest.invariant.lender;
    }
