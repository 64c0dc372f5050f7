-- A selection from what a balancer with one selector serves.
use Rattle.std.specs.Prelude.{◌≡◌, ◌∷◌, ℕ, Bool, List, Option, Result}
use Rattle.lb_select_base.specs.Backends.{Member, same_member}
use Rattle.lb_select_base.specs.Draws.{Draw}
use Rattle.lb_select_base.specs.Selections.{Selects}
use Rattle.lb_select_base.specs.declared.refusal.Refusal.{Refusal}
use Rattle.lb_select_base.specs.declared.words.CoreWords.{CoreWords}
use Rattle.lb_health_core.specs.Registry.{RegistryValue, HoldsOf}
use Rattle.lb_health_core.specs.RegistryEvents.{Event}
use Rattle.lb_balancer_core.specs.Balancer.{History, ServedValue, Stands, After, Drew, members_now}

module _ {C G R : Type 0} (gives : R → Member → Member → Type 0) (draws : CoreWords G → Draw → CoreWords G → Type 0)
    (walks : List Member → C → List ℕ → List Draw → List Member → Bool → Type 0)
    (accepts : (Member → Member) → List Event → History → Member → Bool → Type 0) where
  -- the answer for a key is that of a walk over the newest membership, by what accepts after the registry's and the balancer's history
  abbrev pub Chooses : RegistryValue R → ServedValue C G → List ℕ → ℕ → Result (Option Member) Refusal → ServedValue C G → Type 0
  Chooses registry was key limit answer now =
      HoldsOf gives registry (λ key_of events. After was (λ e. Selects same_member (accepts key_of events e) limit draws (walks
      (members_now e) was.config key) was.words answer now.words))

  -- a balancer with one selector chose for a key, and answered r: what it served before (v) and serves after (w)
  pub record IsChosen (x : RegistryValue R) (v : ServedValue C G) (key : List ℕ) (limit : ℕ) (r : Result (Option Member) Refusal)
      (w : ServedValue C G) : Type 0 where
    -- the answer is right
    pub answers : Chooses x v key limit r w
    -- the counter of tickets is where the selection left it
    pub stands : After v (λ e. Stands (Drew w.words.tickets ∷ e) w)
    -- all but the words stays
    pub kept : w ≡ record v { words = w.words }
