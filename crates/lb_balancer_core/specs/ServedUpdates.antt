-- What the calls that change what is served leave as it was: of a view with its selector and words alone, and of a balancer with them.
use Rattle.std.specs.Prelude.{◌≡◌, ℕ, Result, OnErr}
use Rattle.lb_select_base.specs.Backends.{Member}
use Rattle.lb_select_base.specs.Loads.{IsLoadAnswer, load_in}
use Rattle.lb_select_base.specs.declared.refusal.Refusal.{Refusal}
use Rattle.lb_health_core.specs.Registry.{RegistryValue, KeepsHistory}
use Rattle.lb_balancer_core.specs.Balancer.{ServedValue, Stands, After}

-- An update in a registry answered r: what was served before (v) and is after (w), and the registry before (x) and after (y).
pub record KeepsServed {C G R A : Type 0} (gives : R → Member → Member → Type 0) (v : ServedValue C G) (x : RegistryValue R)
    (r : Result A Refusal) (w : ServedValue C G) (y : RegistryValue R) : Type 0 where
  -- where it is refused, view, selector and counter of tickets are as their history left them
  pub err : OnErr r (After v (λ e. Stands e w))
  -- and nothing happens in the registry
  pub registry_err : OnErr r (KeepsHistory gives x y)
  -- the generator of random words and the loads stay
  pub words : (w.words.generator ≡ v.words.generator) × (w.words.loads ≡ v.words.loads)
  -- the view has its number in the registry still
  pub id : w.view.id ≡ v.view.id
  -- the next selector is built with the same configuration
  pub config : w.config ≡ v.config
  -- it is the same registry
  pub one_registry : y.id ≡ x.id

-- The load of a backend's identity was to be set, and the call answered r: what was served before (v), and is after (w).
pub record IsLoadSet {C G : Type 0} (v : ServedValue C G) (backend : Member) (load : ℕ) (r : Result (Unit {0}) Refusal)
    (w : ServedValue C G) : Type 0 where
  -- where it isn't refused, the identity has this load, and others have theirs
  pub loads : IsLoadAnswer (load_in v.words.loads) backend load r (load_in w.words.loads)
  -- view, selector and counter of tickets are as their history left them
  pub stands : After v (λ e. Stands e w)
  -- all but the loads stays
  pub kept : w ≡ record v { words = record v.words { loads = w.words.loads } }
