use Rattle.std.proofs.Common.{rules, ap, ◌∙◌, sym, refl, arith}
use Rattle.std.proofs.lemmas.Bool.{false≢true}
use Rattle.std.specs.Slice.Iter.{iter_rest}
use Rattle.sharing.proofs.SeatWalk.{none_behind, one_behind, here_behind, all_behind}
use Rattle.sharing.proofs.seats.are_different_seats.Goals as goal
use Rattle.sharing.proofs.seats.are_different_seats.Goals.{then-m-lt1-via-then-m-lt1, then-m-lt1-via-else-m-lt1+then-m-gt32, then-m-lt1-via-else-m-lt1+else-m-gt32+then-stood-m}

pub loop-m-init : goal.loop-m-init
loop-m-init c =
    none_behind c.args.seats.now _ _
    (ap (λ r. iter_rest r.iter) c.into_iter-m-iterator.ensures.into_iter_gives ∙ ap iter_rest c.rev-m-items.ensures.source ∙ c.iter.ensures.rest)
    refl

pub returns-then-m-lt1 : goal.returns-then-m-lt1
returns-then-m-lt1 c = (
  search rules,
  λ all.
      let here = here_behind c.loop-m.invariant _ _ c.in-Some.ensures.steps all in
      elim c.then-m-lt1.branch [
        | then-m-lt1-via-then-m-lt1 w ↦ absurd (omega (arith, w.if-m-lt1.true, here.0))
        | then-m-lt1-via-else-m-lt1+then-m-gt32 w ↦ absurd (omega (arith, w.if-m-gt32.true, here.1))
        | then-m-lt1-via-else-m-lt1+else-m-gt32+then-stood-m w ↦ absurd (false≢true (sym (here.2 here.1) ∙ w.if-stood-m.true))
      ],
)

pub loop-m-preserved : goal.loop-m-preserved
loop-m-preserved c = one_behind c.loop-m.invariant _ _ c.in-Some.ensures.steps c.if-m-lt1.false c.if-m-gt32.false c.if-stood-m.false

pub returns : goal.returns
returns c = (λ is. all_behind c.loop-m.invariant c.in-None.ensures.steps.0, search rules)
