use Rattle.std.proofs.Common.{◌≡◌, take}
use Rattle.lb_health_view.specs.RegistrySide.{settings_of}
use Rattle.lb_world.specs.History.{settings_in}
use Rattle.lb_world.proofs.entry.listed.settings_from.Given as goal

abbrev pub invariant-loop-listing : goal.invariant-loop-listing
invariant-loop-listing l = settings_of l.settings.entries ≡ settings_in (take l.listing-index l.listings)
