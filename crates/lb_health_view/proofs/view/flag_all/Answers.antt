use Rattle.std.proofs.Common.{◌≡◌, rules, ◌∷◌, false}
use Rattle.std.specs.Prelude.{IsSome}
use Rattle.std.specs.Option.{is_some}
use Rattle.lb_health_view.specs.Snapshots.{value_at}
use Rattle.lb_health_view.proofs.ViewLemmas.{flags-insert, all-insert, all-there, none_of}
use Rattle.lb_health_view.proofs.view.flag_all.Goals as goal

pub loop-backend-preserved-in_ok-insert : goal.loop-backend-preserved-in_ok-insert
loop-backend-preserved-in_ok-insert c =
    let b = c.in-Some.backend.now in
    let step : c.loop-backend.backend-iterator ≡ b ∷ c.next.new.self = search rules in
    let absent : is_some (value_at c.loop-backend.flags.entries b) ≡ false = search rules in
    let u = rw c.in_ok-clone.ensures.cases at c.in_ok-insert.ensures.updates in
    record {
      flags = λ q. flags-insert _ c.loop-backend.flags.entries c.insert.new.self.entries b
          (none_of _ absent) u.0 c.loop-backend.invariant.flags q;
      all = λ q l. all-insert c.loop-backend.flags.entries c.insert.new.self.entries b c.next.new.self u.0 q
          (rw step at (c.loop-backend.invariant.all q l));
    }

pub loop-backend-preserved : goal.loop-backend-preserved
loop-backend-preserved c =
    let b = c.in-Some.backend.now in
    let step : c.loop-backend.backend-iterator ≡ b ∷ c.next.new.self = search rules in
    let there : IsSome (value_at c.loop-backend.flags.entries b) = search rules in
    record {
      flags = c.loop-backend.invariant.flags;
      all = λ q l. all-there c.loop-backend.flags.entries b c.next.new.self there q (rw step at (c.loop-backend.invariant.all q l));
    }
