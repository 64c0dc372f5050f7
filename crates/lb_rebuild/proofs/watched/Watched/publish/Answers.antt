-- A publication is above what its slot served, and not past the newest generation; what is handed back or retired changes no word.
use Rattle.std.proofs.Common.{◌≡◌, ◌≢◌, ◌≤◌, ◌+◌, ◌∙◌, Ok, Some, [], length, length-set, slice_get, sym, ap, subst, refl, arith}
use Rattle.std.specs.List.{slice_index}
use Rattle.lb_rebuild_core.specs.SlotsCalls.{publish_events}
use Rattle.lb_rebuild_core.specs.Values.{configs_of}
use Rattle.lb_rebuild_core.specs.declared.answers.Publication.{Publication}
use Rattle.lb_rebuild_core.specs.declared.answers.Publication.TheVariants as told
use Rattle.lb_rebuild_core.specs.GroupHistory.{in_group}
use Rattle.lb_rebuild_core.specs.GroupStates.{GroupValue, Becomes}
use Rattle.lb_rebuild.specs.Pass.{WriterValue, raised_words}
use Rattle.lb_rebuild.specs.Watched.{WatchedValue}
use Rattle.lb_rebuild.proofs.Words.{published_call, raised_slot, quiet_call, quiet_publish}
use Rattle.lb_rebuild.proofs.watched.Watched.publish.Goals as goal

pub raise-requires-clause-led : goal.raise-requires-clause-led
raise-requires-clause-led g c _ =
    let r = published_call c.args.built c.in-Ok-Published.told c.past.ensures refl
    (subst (λ (v : GroupValue g.row.S-Config.Denot). slice_get (configs_of v.group) c.args.built.task.slot ≡ Some c.args.built.task.config)
    (sym (ap (λ (w : WatchedValue g.row.S-Config.Denot). w.core) c.self.view_is)) c.requires.config)
    (λ made e s. (c.in-Ok-Published.ensures.answers made e s).0)
    (subst (λ (t : Publication). Becomes c.self.inside.core (in_group (publish_events c.args.built (Ok t))) c.publish.new.self)
    c.in-Ok-Published.field-0-is c.in-Ok-Published.ensures.stands) in
    subst (λ l. c.generation-generation.result ≤ slice_index l 0) (sym c.self.invariant.1)
    (omega (arith, r.led, c.generation-generation.ensures))

pub invariant_of-self : goal.invariant_of-self
invariant_of-self g c =
    let w = c.self.invariant in
    let words = ap (λ (x : WriterValue). x.words) c.raise.ensures in
    let r = published_call c.args.built c.in-Ok-Published.told c.past.ensures refl
    (subst (λ (v : GroupValue g.row.S-Config.Denot). slice_get (configs_of v.group) c.args.built.task.slot ≡ Some c.args.built.task.config)
    (sym (ap (λ (w : WatchedValue g.row.S-Config.Denot). w.core) c.self.view_is)) c.requires.config)
    (λ made e s. (c.in-Ok-Published.ensures.answers made e s).0)
    (subst (λ (t : Publication). Becomes c.self.inside.core (in_group (publish_events c.args.built (Ok t))) c.publish.new.self)
    c.in-Ok-Published.field-0-is c.in-Ok-Published.ensures.stands) in (
      ap (λ (x : WriterValue). x.board) c.raise.ensures ∙ w.0,
      raised_slot c.self.inside.core.group c.publish.new.self.group c.self.inside.writer.words c.raise.new.pass.words c.args.built.task.slot
          c.args.built.task.generation r w.1
          (words ∙ ap (λ s. raised_words c.self.inside.writer.words (s + 1) c.generation-generation.result) c.slot-slot.ensures
          ∙ ap (λ n. raised_words c.self.inside.writer.words (c.args.built.task.slot + 1) n) c.generation-generation.ensures),
      w.2 ∙ sym (ap length words ∙ length-set c.self.inside.writer.words (c.slot-slot.result + 1) _),
    )

pub invariant_of-self-in-Ok-Abandoned : goal.invariant_of-self-in-Ok-Abandoned
invariant_of-self-in-Ok-Abandoned g c =
    let w = c.self.invariant in (
      w.0,
      w.1 ∙ sym (quiet_call (λ made e. publish_events c.args.built (Ok (told.Abandoned c.in-Ok-Abandoned.told))) c.past.ensures refl
          (λ made e. quiet_publish c.args.built c.in-Ok-Abandoned.told)
          (subst (λ (t : Publication). Becomes c.self.inside.core (in_group (publish_events c.args.built (Ok t))) c.publish.new.self)
          c.in-Ok-Abandoned.field-0-is c.in-Ok-Abandoned.ensures.stands)),
      w.2,
    )

pub invariant_of-self-in-Err : goal.invariant_of-self-in-Err
invariant_of-self-in-Err g c =
    let w = c.self.invariant in
    (w.0, w.1 ∙ sym (quiet_call (λ made e. []) c.past.ensures refl (λ made e. tt) c.in-Err.ensures.stands), w.2)
