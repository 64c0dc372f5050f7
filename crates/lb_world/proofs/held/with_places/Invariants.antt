-- So many places so far, and room for the rest.
use Rattle.std.proofs.Common.{◌≡◌, ◌≤◌, replicate}
use Rattle.std.specs.Vec.{vec_len, vec_capacity}
use Rattle.lb_world.specs.Views.{nothing}
use Rattle.lb_world.proofs.held.with_places.Given as goal

abbrev pub invariant-loop : goal.invariant-loop
invariant-loop g l = (l.room.items ≡ replicate l.counter nothing) × (vec_len l.room ≡ l.counter) × (l.count ≤ vec_capacity l.room)
