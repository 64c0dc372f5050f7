-- What a discovery may give, and for what it may be refused.
use Rattle.std.specs.Prelude.{◌≡◌, ◌≢◌, ◌⊎◌, ⊤, ℕ, Bool, List, [], Result, Ok, Err}
use Rattle.std.specs.BTreeMap.{BTreeMap}
use Rattle.std.specs.BTreeSet.{BTreeSet}
use Rattle.lb_select_base.specs.Backends.{Member}
use Rattle.lb_select_base.specs.declared.backend.SocketAddr.{SocketAddr}
use Rattle.lb_select_base.specs.declared.refusal.Refusal.{Refusal}
use Rattle.lb_select_base.specs.declared.refusal.Refusal.TheVariants.{InvalidAddress, Discovery, OutOfMemory}
use Rattle.lb_health_view.specs.RegistrySide.{settings_of}
use Rattle.lb_health_view.specs.declared.discovery.DiscoverySource.{DiscoverySource}
use Rattle.lb_health_view.specs.declared.discovery.DiscoverySource.TheVariants as source

-- what a discovery returned: the members of the set, and the settings each with a backend of its identity; or why it was refused
abbrev pub Found : Type 0
Found = Result (List Member × List (Member × Bool)) Refusal

abbrev pub found_of : Result (BTreeSet Member × BTreeMap (SocketAddr × ℕ) Bool) Refusal → Found
found_of (Ok f) = Ok (f.0.keys, settings_of f.1.entries)
found_of (Err e) = Err e

-- a set that stays is found as it is, without settings, unless memory is refused
abbrev pub Stays : List Member → Found → Type 0
Stays members (Ok f) = (f.0 ≡ members) × (f.1 ≡ [])
Stays members (Err e) = e ≡ OutOfMemory

module _ {D : Type 0} (finds : D → Found → Type 0) where
  -- a set that stays is given as it is, without settings; a caller's discovery gives what it may find
  abbrev pub Discovers : DiscoverySource D → List Member → List (Member × Bool) → Type 0
  Discovers (source.Static backends) members settings = (members ≡ backends) × (settings ≡ [])
  Discovers (source.Boxed discovery) members settings = finds discovery (Ok (members, settings))

  -- a set that stays has no fault; a caller's discovery has one where it may be refused for something else than memory
  abbrev pub MayFault : DiscoverySource D → Type 0
  MayFault (source.Static backends) = ⊥
  MayFault (source.Boxed discovery) = (e : Refusal) × (e ≢ OutOfMemory) × finds discovery (Err e)

  -- a set that stays is copied, for which memory may be refused; a caller's discovery is refused it where it may say so
  abbrev pub MayLackMemory : DiscoverySource D → Type 0
  MayLackMemory (source.Static backends) = ⊤
  MayLackMemory (source.Boxed discovery) = finds discovery (Err OutOfMemory)

  -- what it may return: what it discovers, a fault, or that memory was refused
  abbrev pub FoundBy : DiscoverySource D → Found → Type 0
  FoundBy d (Ok f) = Discovers d f.0 f.1
  FoundBy d (Err e) = ((e ≡ Discovery) × MayFault d) ⊎ ((e ≡ OutOfMemory) × MayLackMemory d)

-- a fault of the discovery, or refused memory
abbrev pub IsDiscoveryRefusal : {A : Type 0} → Result A Refusal → Type 0
IsDiscoveryRefusal r = (r ≡ Err Discovery) ⊎ (r ≡ Err OutOfMemory)

-- the same, or an address that can't be that of a backend
abbrev pub IsLookupRefusal : {A : Type 0} → Result A Refusal → Type 0
IsLookupRefusal r = (r ≡ Err InvalidAddress) ⊎ IsDiscoveryRefusal r
