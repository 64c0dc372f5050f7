-- What a service that is driven asks of its port, and how its waits end.
use Rattle.std.specs.Prelude.{◌≡◌, ◌⊎◌, Bool, true, false}
use Rattle.lb_background.specs.declared.event.Event.{Event}
use Rattle.lb_background.specs.declared.event.Event.TheVariants as on
use Rattle.lb_background.specs.declared.event.Action.{Action}
use Rattle.lb_background.specs.declared.event.Action.TheVariants as to
use Rattle.lb_background.specs.declared.event.Awaited.{Awaited}
use Rattle.lb_background.specs.declared.event.Awaited.TheVariants as until

-- what a service never asks for, and what ends it
abbrev pub is_asked : Action → Bool
is_asked to.Update = false
is_asked to.Return = false
is_asked a = true

-- how the waits of a service end
abbrev pub EndsWait : Awaited → Event → Type 0
EndsWait (until.Moment moment) e = (e ≡ on.Woke) ⊎ (e ≡ on.ViewRemoved) ⊎ (e ≡ on.Shutdown)
EndsWait until.Targets e = (e ≡ on.Targets) ⊎ (e ≡ on.Shutdown)
EndsWait until.End e = (e ≡ on.Closed) ⊎ (e ≡ on.Shutdown)
