-- The moments that were read, and what is served then.
use Rattle.std.proofs.Common.{refl, rules}
use Rattle.lb_health_view.specs.RegistrySide.{settings_of}
use Rattle.lb_balancer_core.proofs.Readings.{readings}
use Rattle.lb_balancer_core.proofs.balancer_core.LoadBalancerCore.update.Goals as goal

pub returns-clause-updated : goal.returns-clause-updated
returns-clause-updated g c =
    let told = c.in_ok-build.ensures in
    let read = readings g.K.MomentSource.reads c.in_ok-build.build c.now-start.result c.now-end.result c.args.clock.now c.now-start.new.self
    c.update.new.clock c.now-end.new.self
    c.now-start.ensures told.readings c.now-end.ensures in
    record {
      members = c.in_ok-members.members.keys;
      settings = settings_of c.in_ok-members.settings.entries;
      times = read.0;
      discovered = c.in_ok-members.ensures.ok;
      read = read.1.0;
      timed = rw (c.between.ensures, c.unwrap_or-build_duration.ensures) read.1.1.0;
      readings = λ e s. read.1.1.1 _ (told.changed e s);
      free = λ key_of events r e s. (told.updated key_of events r e s).0;
      stands = λ key_of events r e s. (told.updated key_of events r e s).1.0;
      registry = λ key_of events r e s. (told.updated key_of events r e s).1.1;
    }

pub returns-clause-stays : goal.returns-clause-stays
returns-clause-stays g c =
    let stays = c.in_ok-build.ensures.stays in
    record {
      err = tt;
      registry_err = tt;
      words = stays.words;
      id = stays.id;
      config = stays.config;
      one_registry = stays.one_registry;
    }

pub returns-in_err-members-clause-stays : goal.returns-in_err-members-clause-stays
returns-in_err-members-clause-stays g c = record {
  err = search rules;
  registry_err = search rules;
  words = (refl, refl);
  id = refl;
  config = refl;
  one_registry = refl;
}

pub returns-in_err-build-clause-stays : goal.returns-in_err-build-clause-stays
returns-in_err-build-clause-stays g c =
    let stays = c.in_err-build.ensures.stays in
    record {
      err = search rules;
      registry_err = search rules;
      words = stays.words;
      id = stays.id;
      config = stays.config;
      one_registry = stays.one_registry;
    }
