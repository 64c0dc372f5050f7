use Rattle.std.proofs.Common.{◌≡◌, List}
use Rattle.lb_health_view.specs.ViewEvents.{ViewEvent}
use Rattle.lb_health_view.specs.Views.{IsViewAfter}
use Rattle.lb_health_view.specs.RegistrySide.{after_settings, settings_of}
use Rattle.lb_health_view.proofs.view.ViewCore.set_members.Given as goal

abbrev pub invariant-loop-addr : goal.invariant-loop-addr
invariant-loop-addr l = record {
  id : l.self.id ≡ l.fn.self.id;
  generation : l.self.generation ≡ l.fn.self.generation;
  snapshots : l.self.snapshots ≡ l.fn.self.snapshots;
  after : (views : List ViewEvent) → IsViewAfter views l.fn.self
      → (now : List ViewEvent)
      × (IsViewAfter now l.self
      × (after_settings (settings_of l.addr-iterator) now ≡ after_settings (settings_of l.fn.settings.entries) views));
}
