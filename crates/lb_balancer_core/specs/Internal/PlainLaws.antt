-- A reader of the plain group stays counted while words are drawn for it.
use Rattle.std.specs.Prelude.{◌≡◌, ℕ, Bool, true, false, cond, [], ◌∷◌, ◌++◌, refl}
use Rattle.std.proofs.Common.{sym, ap, ◌∙◌, subst}
use Rattle.rand_core.specs.Stream.{Stream}
use Rattle.lb_select_base.specs.Backends.{Member}
use Rattle.lb_select_base.specs.Draws as draws
use Rattle.lb_select_base.specs.Draws.{Draw}
use Rattle.lb_rebuild_core.specs.SlotsCalls.{has_retired, is_read, serves, ticket_events}
use Rattle.lb_rebuild_core.specs.SlotsHistory as core
use Rattle.lb_rebuild_core.specs.SlotsHistory.{At, Drew, DrewRetired}
use Rattle.lb_rebuild_core.specs.Stands.{Made}
use Rattle.lb_rebuild_core.specs.Values.{ReaderValue}
use Rattle.lb_rebuild_core.proofs.Pasts.{past-same}
use Rattle.lb_rebuild_core.specs.GroupHistory.{slot_events, in_group}
use Rattle.lb_rebuild_core.specs.GroupStates.{GroupValue}
use Rattle.lb_rebuild_core.proofs.Histories.{group-joined}
use Rattle.lb_balancer_core.specs.Plain.{OwnsReader, IsDrawn}

module _ {C : Type 0} where
  read-drawn : (made : Made C) (h : core.History) (slot n t : ℕ) (b d : Bool)
      → is_read made slot n (cond b (At slot (Drew t) ∷ []) (cond d (At slot (DrewRetired t) ∷ []) []) ++ h) ≡ is_read made slot n h
  read-drawn made h slot n t true d = rw (past-same slot (Drew t) h) refl
  read-drawn made h slot n t false true = rw (past-same slot (DrewRetired t) h) refl
  read-drawn made h slot n t false false = refl

  -- a reader stays counted while words are drawn for it
  pub drawn_keeps : (v w : GroupValue C) (s u : Stream) (load_by : Member → ℕ) (r : ReaderValue C) (d : Draw)
      → IsDrawn v s load_by r d w u → OwnsReader v r → OwnsReader w r
  drawn_keeps v w s u load_by r (draws.ticket t) is own =
      let made = own.1.0 in
      let e = own.1.1.0 in
      let es : core.History = ticket_events made r.slot r.generation t (slot_events e) in
      let same : slot_events (in_group es ++ e) ≡ es ++ slot_events e = group-joined es e in (
        own.0 ∙ sym is.0.site.group.id,
        (
          made,
          (
            in_group es ++ e,
            (
              is.0.stands made e own.1.1.1.0,
              ap (λ h. is_read made r.slot r.generation h) same
                  ∙ read-drawn made (slot_events e) r.slot r.generation _ (serves made r.slot r.generation (slot_events e))
                  (has_retired made r.slot r.generation (slot_events e))
                  ∙ own.1.1.1.1,
            ),
          ),
        ),
      )
  drawn_keeps v w s u load_by r (draws.random x) is own = subst (λ (z : GroupValue C). OwnsReader z r) (sym is.1) own
  drawn_keeps v w s u load_by r (draws.load m l) is own = subst (λ (z : GroupValue C). OwnsReader z r) (sym is.1) own
