-- One slot more, for one configuration more; or one cause more.
use Rattle.std.proofs.Common.{◌≡◌, [], ◌∷◌, refl, ◌∙◌, map, sym, ap, true, false, Option}
use mathlib.Core.List.{map-id}
use Rattle.std.proofs.lemmas.List.{map-append}
use Rattle.std.proofs.lemmas.Iterator.Adapters.{YieldsList-from_vec}
use Rattle.std.proofs.lemmas.Iterator.Consumers.{YieldsList-end}
use Rattle.lb_select_base.specs.Refusals.{least, earlier}
use Rattle.lb_select_base.specs.declared.refusal.Refusal.{Refusal}
use Rattle.lb_select_base.proofs.LeastCauses.{refused_more, granted_more}
use Rattle.lb_rebuild_core.specs.Internal.Fresh.{fresh_slot}
use Rattle.lb_rebuild_core.specs.SlotSeen.{slot_value}
use Rattle.lb_rebuild_core.proofs.slots.fresh_slots.Goals as goal

falsehood : false ≡ true → ⊥
falsehood i = cc

pub loop-config-preserved-then-is_ok : goal.loop-config-preserved-then-is_ok
loop-config-preserved-then-is_ok g c =
    let empty = c.new-empty.ensures.empty in (
      c.loop-config.invariant.0 ∙ granted_more (g.S.BackendSelection.refusal []) c.loop-config.yielded c.in-Some.config
          (rw empty at c.in-Ok.ensures.0),
      λ none whole. rw (c.push.ensures.items, sym c.if-is_ok.ensures.value)
          (rw (
            map-append slot_value c.loop-config.slots.items (c.in-Ok.slot ∷ []),
            map-append fresh_slot c.loop-config.yielded (c.in-Some.config ∷ []),
            c.loop-config.invariant.1 none whole,
            c.in-Ok.ensures.1 empty,
          ) refl),
    )

pub loop-config-preserved-else-is_ok : goal.loop-config-preserved-else-is_ok
loop-config-preserved-else-is_ok g c =
    let empty = c.new-empty.ensures.empty in (
      c.loop-config.invariant.0 ∙ granted_more (g.S.BackendSelection.refusal []) c.loop-config.yielded c.in-Some.config
          (rw empty at c.in-Ok.ensures.0),
      λ none whole. absurd (falsehood (sym c.if-is_ok.false ∙ whole)),
    )

pub loop-config-preserved : goal.loop-config-preserved
loop-config-preserved g c =
    let f = g.S.BackendSelection.refusal [] in
    let before = least (map f c.loop-config.yielded) in (
      c.earlier-cause.ensures ∙ ap (λ (o : Option Refusal). earlier o c.memory_apart.result) c.loop-config.invariant.0
          ∙ ap (λ (o : Option Refusal). earlier before o) c.memory_apart.ensures
          ∙ refused_more f c.loop-config.yielded c.in-Some.config c.in-Err.refusal (rw c.new-empty.ensures.empty at c.in-Err.ensures),
      λ none whole. absurd (falsehood whole),
    )

pub returns-in-None-cause : goal.returns-in-None-cause
returns-in-None-cause g c =
    let gives = c.into_iter-config-iterator.ensures.into_iter_gives in
    let all : c.loop-config.yielded ≡ c.args.configs.items =
    sym (map-id c.loop-config.yielded)
    ∙ (YieldsList-end (YieldsList-from_vec c.args.configs.items gives.0 (gives.1 ∙ c.args.configs.ok.0)) c.loop-config.yielded
    c.loop-config.config-iterator c.loop-config.yielded_by c.next.result c.next.new.self c.in-None.is c.next.ensures.steps).0 in
    rw (← all) (sym c.loop-config.invariant.0 ∙ c.in-None-cause.is, c.loop-config.invariant.1 c.in-None-cause.is c.if-is_whole.true)
