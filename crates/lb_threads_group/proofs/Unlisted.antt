-- A backend that the newest membership doesn't list isn't ready in it.
use Rattle.std.proofs.Common.{◌≡◌, ◌∙◌, false, List, [], ap, sym, subst}
use Rattle.std.specs.Prelude.{length}
use Rattle.std.specs.List.{list_any}
use Rattle.lb_select_base.specs.Backends.{Member, same_member}
use Rattle.lb_health_view.specs.RegistrySide.{IsReady}
use Rattle.lb_health_view.specs.ViewEvents.{membership_after}
use Rattle.lb_rebuild_core.specs.GroupStates.{views_of}
use Rattle.lb_rebuild_core.proofs.Histories.{generation-is, members-are}
use Rattle.lb_threads_core.proofs.SameReadiness.{unlisted}
use Rattle.lb_threads_group.specs.Found.{WereNewest}
use Rattle.lb_threads_group.specs.Group.{NewestReadyUnder}
use Rattle.lb_threads_group.specs.Shared.{SharedValue}

-- it isn't ready at the state where these were the newest members
pub unlisted-now : {C R : Type 0} (gives : R → Member → Member → Type 0) (site : SharedValue C R) (members : List Member) (b : Member)
    → WereNewest site members → list_any (same_member b) members ≡ false → NewestReadyUnder gives site b false
unlisted-now gives site members b (v, (state, are)) none = (
  v,
  (
    site.registry,
    (
      state,
      (
        λ key_of events after. ([], after),
        λ key_of events after made e stands.
            let views = views_of made e in
            let same : membership_after views ≡ members = members-are (length made.configs) e ∙ sym (are made e stands) in
            let newest-is = generation-is (length made.configs) e in (
              λ t. absurd (cc),
              λ ready.
                  absurd (unlisted key_of views events b (ap (list_any (same_member b)) same ∙ none)
                  (subst (λ n. IsReady key_of views events n b) (sym newest-is) ready)),
            ),
      ),
    ),
  ),
)
