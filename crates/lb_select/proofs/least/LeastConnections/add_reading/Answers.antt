use Rattle.std.proofs.Common.{◌≡◌, ◌<◌, ◌≤◌, length, Some, refl, sym, ap, ◌∙◌}
use Rattle.std.specs.List.{slice_get}
use Rattle.std.proofs.lemmas.Option.{slice_get-get_or}
use Rattle.lb_select_base.specs.Backends.{Member}
use Rattle.lb_select.proofs.LeastReading.{read_more, read_past}
use Rattle.lb_select.proofs.least.LeastConnections.add_reading.Goals as goal

pub returns-in_ok-push : goal.returns-in_ok-push
returns-in_ok-push g c =
    let within : c.args.index < length c.self.inside.backends.items = rw c.self.view_is c.requires.inside in
    let here : slice_get c.self.inside.backends.items c.args.index ≡ Some c.index-backend.result.now
    = slice_get-get_or _ _ c.index-backend.result.now within ∙ ap Some (sym c.index-backend.ensures) in
    let at : slice_get c.args.self.now c.args.index ≡ Some c.index-backend.result.now = rw (← c.self.view_is) here in
    rw c.in_ok-push.ensures.items
    (read_more _ _ _ _ c.index-backend.result.now _ c.requires.so_far at refl (ap (λ (m : Member). m.weight) c.backend.view_is)
    c.load-load.ensures)

pub returns-else-backend-gt0 : goal.returns-else-backend-gt0
returns-else-backend-gt0 g c =
    let within : c.args.index < length c.self.inside.backends.items = rw c.self.view_is c.requires.inside in
    let here : slice_get c.self.inside.backends.items c.args.index ≡ Some c.index-backend.result.now
    = slice_get-get_or _ _ c.index-backend.result.now within ∙ ap Some (sym c.index-backend.ensures) in
    let at : slice_get c.args.self.now c.args.index ≡ Some c.index-backend.result.now = rw (← c.self.view_is) here in
    let light : c.index-backend.result.now.weight ≤ 0 = rw (ap (λ (m : Member). m.weight) c.backend.view_is) at c.if-backend-gt0.false in
    read_past _ _ _ _ c.index-backend.result.now c.requires.so_far at light
