-- The clock is read twice, and twice more around a build.
use Rattle.std.proofs.Common.{◌≡◌, ◌⊎◌, ◌∙◌, inl, inr, ℕ, [], ◌∷◌, ap, refl, sym, subst}
use Rattle.lb_health_view.specs.Discoveries.{Discovers}
use Rattle.lb_health_view.specs.RegistrySide.{settings_of}
use Rattle.lb_balancer_core.specs.Timings.{Reads}
use Rattle.lb_balancer.specs.History.{BalancerValue}
use Rattle.lb_balancer.specs.SharedUpdates.{ReadsUpdate}
use Rattle.lb_balancer.proofs.balancing.Balancing.update.Goals as goal

-- the readings of an update, one after another
module _ {K : Type 0} (reads : K → ℕ → K → Type 0) (k l m n : K) (start end : ℕ) where
  reads-update : reads k start l → (m ≡ l) ⊎ ((before : ℕ) × (after : ℕ) × Reads reads l (before ∷ after ∷ []) m) → reads m end n
      → ReadsUpdate reads k n
  reads-update s (inl e) t = (start ∷ end ∷ [], (l, s, (n, subst (λ x. reads x end n) e t, refl)), inl refl)
  reads-update s (inr (before, after, (u, r, (v, q, e)))) t =
      (start ∷ before ∷ after ∷ end ∷ [], (l, s, (u, r, (v, q, (n, subst (λ x. reads x end n) (sym e) t, refl)))), inr refl)

pub returns-clause-reads : goal.returns-clause-reads
returns-clause-reads g c =
    reads-update g.K.MomentSource.reads _ _ _ _ _ _ c.now-start.ensures c.in_ok-build_duration.ensures.reads c.now-end.ensures

-- what the discovery gave is what was taken in
pub returns-clause-updated : goal.returns-clause-updated
returns-clause-updated g c = record {
  members = c.in_ok-members.members.keys;
  settings = settings_of c.in_ok-members.settings.entries;
  discovered =
      subst (λ d. Discovers g.D.ServiceDiscovery.finds d c.in_ok-members.members.keys (settings_of c.in_ok-members.settings.entries))
      (c.discovery.ensures ∙ ap (λ (b : BalancerValue g.row.D.Denot g.row.S-Config.Denot g.row.R.Denot). b.discovery) c.self.view_is)
      c.in_ok-members.ensures.ok;
  taken = c.in_ok-build_duration.ensures.taken;
}
