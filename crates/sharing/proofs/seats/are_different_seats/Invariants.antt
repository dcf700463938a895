use Rattle.std.specs.Slice.Iter.{iter_rest}
use Rattle.sharing.proofs.SeatWalk.{Behind}
use Rattle.sharing.proofs.seats.are_different_seats.Given as goal

abbrev pub invariant-loop-m : goal.invariant-loop-m
invariant-loop-m l = Behind l.seats (iter_rest l.m-iterator.iter) l.stood
