-- Why a configuration is refused: a fault names a part, a field and a cause, and the cause is true of what the table has there.
-- Parts, entries of lists and fields that are read before it are right.
use Rattle.std.specs.Prelude.{◌≡◌, ◌≢◌, ◌<◌, ℕ, List, [], codes, length, take, ◌⊎◌, slice_get, Option, Some, None, IsSome}
use Rattle.std.specs.Prelude.{◌∷◌, Result, Ok, Err, IsOk, true, false, string_bytes}
use Rattle.std.specs.List.{AllByRecursion, AllZip}
use Rattle.std.specs.declared.net.socket_addr.SocketAddr.{SocketAddr}
use Rattle.toml.specs.Data.{Data, get_member, as_str, as_table}
use Rattle.lb_select_base.specs.AddressText.{address_of_text}
use Rattle.lb_select_base.specs.Backends.{Member}
use Rattle.lb_proxy.specs.Config.{Part, Said, text_of, required_of, number_of, flag_of, time_of, list_at, table_at, entry_by, selection_in}
use Rattle.lb_proxy.specs.Config.{IsUnknown, HasOnly, IsNoAddress, IsAddressOf, IsTextOr, IsKind, IsSource, IsWeighed, IsBackend, IsPool}
use Rattle.lb_proxy.specs.Config.{EntryIs, IsPoolNamed, ArePools, HaveOwnNames, IsListen, IsCheckIn, IsStatus, AreLimitsIn}
use Rattle.lb_proxy.specs.Config.{mode_in, key_in, backend_place, check_place, begins_with_slash}
use Rattle.lb_proxy.specs.Config.{top_fields, check_fields, status_fields, limits_fields, pool_fields, backend_fields, listen_fields}
use Rattle.lb_proxy.specs.Key.{Kind}
use Rattle.lb_proxy.specs.declared.config.CheckConfig.{CheckConfig}
use Rattle.lb_proxy.specs.declared.config.CheckKind.{CheckKind}
use Rattle.lb_proxy.specs.declared.config.Limits.{Limits}
use Rattle.lb_proxy.specs.declared.config.ListenConfig.{ListenConfig}
use Rattle.lb_proxy.specs.declared.config.PoolConfig.{PoolConfig}
use Rattle.lb_proxy.specs.declared.config.PoolSource.{PoolSource}
use Rattle.lb_proxy.specs.declared.config_fault.Place.{Place}
use Rattle.lb_proxy.specs.declared.config_fault.Place.TheVariants as place
use Rattle.lb_proxy.specs.declared.config_fault.Cause.TheVariants as cause
use Rattle.lb_proxy.specs.declared.mode.Mode.{Mode}

-- memory was refused for a field: the one cause that says nothing of the table
abbrev pub WantsMemory : Part → List ℕ → Said → Type 0
WantsMemory part field fault = fault ≡ (part.0, field, cause.OutOfMemory)

-- the fault of what is refused, and the first fault of what is read in this order
abbrev pub fault_of : {A : Type 0} → Result A Said → Option Said
fault_of (Ok x) = None
fault_of (Err e) = Some e

abbrev pub first_fault : List (Option Said) → Option Said
first_fault [] = None
first_fault (None ∷ later) = first_fault later
first_fault (Some e ∷ later) = Some e

-- a field is no table, or the table that it is has such a fault
abbrev pub IsWrongInside : (Part → Said → Type 0) → Part → List ℕ → Place → Said → Type 0
IsWrongInside IsWrong part field place fault =
    (table_at part field place ≡ Err fault)
    ⊎ ((own : Part) × (table_at part field place ≡ Ok (Some own)) × IsWrong own fault)

-- what a check asks for: a text is none, or the path has no slash in front
abbrev pub IsWrongAsked : Part → Said → Type 0
IsWrongAsked part fault =
    (first_fault (fault_of (text_of part (codes "host")) ∷ fault_of (text_of part (codes "path")) ∷ []) ≡ Some fault)
    ⊎ ((path : List ℕ) × IsOk (text_of part (codes "host")) × (text_of part (codes "path") ≡ Ok (Some path))
    × (begins_with_slash path ≡ false) × (fault ≡ (part.0, codes "path", cause.NotPath)))
    ⊎ ((host : List ℕ) × (path : List ℕ) × IsTextOr part (codes "host") (codes "localhost") host
    × IsTextOr part (codes "path") (codes "/") path × (begins_with_slash path ≡ true)
    × (WantsMemory part (codes "host") fault ⊎ WantsMemory part (codes "path") fault))

-- what a check does: the kind is no text, or no kind, or what is asked for is wrong
abbrev pub IsWrongKind : Part → Said → Type 0
IsWrongKind part fault =
    (text_of part (codes "kind") ≡ Err fault)
    ⊎ ((word : List ℕ) × (text_of part (codes "kind") ≡ Ok (Some word)) × (word ≢ codes "tcp") × (word ≢ codes "http")
    × (fault ≡ (part.0, codes "kind", cause.NotCheck)))
    ⊎ ((text_of part (codes "kind") ≡ Ok (Some (codes "http"))) × IsWrongAsked part fault)

-- the fault is one of a check
abbrev pub IsWrongCheck : Part → Said → Type 0
IsWrongCheck part fault =
    IsUnknown check_fields part fault ⊎ (HasOnly check_fields part × IsWrongKind part fault)
    ⊎ ((kind : CheckKind) × HasOnly check_fields part × IsKind part kind
    × (first_fault (fault_of (time_of part (codes "every") 1000000000) ∷ fault_of (time_of part (codes "timeout") 1000000000)
    ∷ fault_of (number_of part (codes "rise") 1) ∷ fault_of (number_of part (codes "fall") 1)
    ∷ fault_of (flag_of part (codes "parallel") true) ∷ []) ≡ Some fault))

-- the fault is one of the status page
abbrev pub IsWrongStatus : Part → Said → Type 0
IsWrongStatus part fault =
    IsUnknown status_fields part fault
    ⊎ (HasOnly status_fields part × IsNoAddress part (codes "listen") (required_of part (codes "listen")) fault)

-- the fault is one of the limits
abbrev pub IsWrongLimits : Part → Said → Type 0
IsWrongLimits part fault =
    IsUnknown limits_fields part fault
    ⊎ (HasOnly limits_fields part
    × (first_fault (fault_of (number_of part (codes "max_connections") 10000) ∷ fault_of (number_of part (codes "threads") 0)
    ∷ fault_of (time_of part (codes "connect") 1000000000) ∷ fault_of (time_of part (codes "idle") 300000000000)
    ∷ fault_of (time_of part (codes "answer") 60000000000) ∷ fault_of (time_of part (codes "drain") 10000000000) ∷ []) ≡ Some fault))

-- the fault is one of the table that a backend is
abbrev pub IsWrongTable : Part → Said → Type 0
IsWrongTable part fault =
    IsUnknown backend_fields part fault
    ⊎ (HasOnly backend_fields part
    × (first_fault (fault_of (required_of part (codes "address")) ∷ fault_of (number_of part (codes "weight") 1) ∷ []) ≡ Some fault))

-- a backend of the part is neither a text nor a table, or its table, which is at that place, is wrong
abbrev pub IsWrongWord : Part → Place → Data → Said → Type 0
IsWrongWord part place d fault =
    ((as_str d ≡ None) × (as_table d ≡ None) × (fault ≡ (part.0, codes "backends", cause.NotBackend)))
    ⊎ ((own : Part) × (as_str d ≡ None) × (as_table d ≡ Some own.1) × (own.0 ≡ place) × IsWrongTable own fault)

-- or its text spells no address, or memory is refused for it
abbrev pub IsWrongBackend : Part → Place → Data → Said → Type 0
IsWrongBackend part place d fault =
    IsWrongWord part place d fault
    ⊎ ((text : List ℕ) × (weight : ℕ) × IsWeighed (as_str d) (as_table d) text weight × (address_of_text text ≡ None)
    × (fault ≡ (part.0, codes "backends", cause.NotBackend)))
    ⊎ ((text : List ℕ) × (weight : ℕ) × IsWeighed (as_str d) (as_table d) text weight × WantsMemory part (codes "backends") fault)

-- the backends are no list, or one of the list is wrong, the first that is
abbrev pub AreWrongBackends : Part → Said → Type 0
AreWrongBackends part fault =
    (list_at part (codes "backends") ≡ Err fault)
    ⊎ ((values : List Data) × (number : ℕ) × (d : Data) × (before : List Member) × (list_at part (codes "backends") ≡ Ok values)
    × (slice_get values number ≡ Some d) × AllZip IsBackend (take number values) before
    × IsWrongBackend part (backend_place part.0 number) d fault)

-- a pool has a list and a file, or neither, or what it has is wrong
abbrev pub IsWrongSource : Part → Said → Type 0
IsWrongSource part fault =
    (text_of part (codes "file") ≡ Err fault)
    ⊎ (IsSome (get_member (codes "file") part.1) × IsSome (get_member (codes "backends") part.1)
    × IsOk (text_of part (codes "file")) × (fault ≡ (part.0, codes "file", cause.TwoSources)))
    ⊎ ((get_member (codes "file") part.1 ≡ None) × (get_member (codes "backends") part.1 ≡ None)
    × (fault ≡ (part.0, codes "backends", cause.Missing)))
    ⊎ ((text_of part (codes "file") ≡ Ok None) × IsSome (get_member (codes "backends") part.1) × AreWrongBackends part fault)
    ⊎ ((path : List ℕ) × (text_of part (codes "file") ≡ Ok (Some path)) × (get_member (codes "backends") part.1 ≡ None)
    × WantsMemory part (codes "file") fault)

-- the fault is one of a pool
abbrev pub IsWrongPool : Part → Said → Type 0
IsWrongPool part fault =
    IsUnknown pool_fields part fault
    ⊎ (HasOnly pool_fields part × (required_of part (codes "name") ≡ Err fault))
    ⊎ (HasOnly pool_fields part × IsOk (required_of part (codes "name")) × IsWrongSource part fault)
    ⊎ ((source : PoolSource) × HasOnly pool_fields part × IsOk (required_of part (codes "name")) × IsSource part source
    × IsWrongInside IsWrongCheck part (codes "check") (check_place part.0) fault)
    ⊎ (HasOnly pool_fields part × IsOk (required_of part (codes "name")) × WantsMemory part (codes "name") fault)

-- a pool that is right by itself has the name of one of those before it
abbrev pub IsSameName : List PoolConfig → Part → Said → Type 0
IsSameName before part fault =
    (pool : PoolConfig) × (earlier : ℕ) × IsPool part pool × IsPoolNamed before (string_bytes pool.name) earlier
    × (fault ≡ (part.0, codes "name", cause.SameName))

-- an entry of a list is no table, or the table that it is has such a fault
abbrev pub IsWrongEntry : (Part → Said → Type 0) → Part → List ℕ → Place → Data → Said → Type 0
IsWrongEntry IsWrong top field place d fault =
    (entry_by top field place (as_table d) ≡ Err fault)
    ⊎ ((part : Part) × (entry_by top field place (as_table d) ≡ Ok part) × IsWrong part fault)

-- the pools are no list, there is none, or one is wrong, the first that is
abbrev pub AreWrongPools : Part → Said → Type 0
AreWrongPools top fault =
    (list_at top (codes "pool") ≡ Err fault)
    ⊎ ((list_at top (codes "pool") ≡ Ok []) × (fault ≡ (top.0, codes "pool", cause.Missing)))
    ⊎ ((entries : List Data) × (number : ℕ) × (d : Data) × (before : List PoolConfig) × (list_at top (codes "pool") ≡ Ok entries)
    × (slice_get entries number ≡ Some d) × AllZip (EntryIs IsPool) (take number entries) before × HaveOwnNames before
    × IsWrongEntry (λ part f. IsWrongPool part f ⊎ IsSameName before part f) top (codes "pool") (place.Pool number) d fault)

-- the fault is one of the key, in the mode that the part has
abbrev pub IsWrongKey : Part → Mode → Said → Type 0
IsWrongKey part mode fault = (key_in part mode ≡ Err fault) ⊎ (IsOk (key_in part mode) × WantsMemory part (codes "key") fault)

-- the mode is right, and the key in it
abbrev pub HasKey : Part → Type 0
HasKey part = (mode : Mode) × (key : Kind) × (mode_in part ≡ Ok mode) × (key_in part mode ≡ Ok key)

-- the pool that a listener names is none of these, or how it selects is wrong
abbrev pub IsWrongChoice : List PoolConfig → Part → Said → Type 0
IsWrongChoice pools part fault =
    (required_of part (codes "pool") ≡ Err fault)
    ⊎ ((name : List ℕ) × (required_of part (codes "pool") ≡ Ok name) × AllByRecursion (λ pool. string_bytes pool.name ≢ name) pools
    × (fault ≡ (part.0, codes "pool", cause.NoSuchPool)))
    ⊎ ((name : List ℕ) × (number : ℕ) × (required_of part (codes "pool") ≡ Ok name) × IsPoolNamed pools name number
    × (selection_in part ≡ Err fault))

-- what follows the address of a listener is wrong: the mode, the key, and then the pool and how it selects
abbrev pub IsWrongUse : List PoolConfig → Part → Said → Type 0
IsWrongUse pools part fault =
    (mode_in part ≡ Err fault)
    ⊎ ((mode : Mode) × (mode_in part ≡ Ok mode) × IsWrongKey part mode fault)
    ⊎ (HasKey part × IsWrongChoice pools part fault)

-- the fault is one of a listener over these pools
abbrev pub IsWrongListen : List PoolConfig → Part → Said → Type 0
IsWrongListen pools part fault =
    IsUnknown listen_fields part fault
    ⊎ (HasOnly listen_fields part × IsNoAddress part (codes "address") (required_of part (codes "address")) fault)
    ⊎ ((address : SocketAddr) × HasOnly listen_fields part × IsAddressOf part (codes "address") address × IsWrongUse pools part fault)
    ⊎ ((listen : ListenConfig) × IsListen pools part listen × WantsMemory part (codes "address") fault)

-- the listeners are no list, there is none, or one is wrong, the first that is
abbrev pub AreWrongListens : List PoolConfig → Part → Said → Type 0
AreWrongListens pools top fault =
    (list_at top (codes "listen") ≡ Err fault)
    ⊎ ((list_at top (codes "listen") ≡ Ok []) × (fault ≡ (top.0, codes "listen", cause.Missing)))
    ⊎ ((entries : List Data) × (number : ℕ) × (d : Data) × (before : List ListenConfig) × (list_at top (codes "listen") ≡ Ok entries)
    × (slice_get entries number ≡ Some d) × AllZip (EntryIs (IsListen pools)) (take number entries) before
    × IsWrongEntry (IsWrongListen pools) top (codes "listen") (place.Listen number) d fault)

-- The parts of the table are right in the order in which they are read, up to the check, the status page, the limits, the pools.
abbrev pub IsRightToCheck : Part → Type 0
IsRightToCheck top = HasOnly top_fields top × (check : Option CheckConfig) × IsCheckIn top place.Check check

abbrev pub IsRightToStatus : Part → Type 0
IsRightToStatus top = IsRightToCheck top × (status : Option SocketAddr) × IsStatus top status

abbrev pub IsRightToLimits : Part → Type 0
IsRightToLimits top = IsRightToStatus top × (limits : Limits) × AreLimitsIn top limits

abbrev pub IsRightToPools : Part → List PoolConfig → Type 0
IsRightToPools top pools = IsRightToLimits top × ArePools top pools × HaveOwnNames pools × (0 < length pools)

-- the fault is one of the table, and no part that is read before it is wrong
abbrev pub IsWrong : Part → Said → Type 0
IsWrong top fault =
    IsUnknown top_fields top fault
    ⊎ (HasOnly top_fields top × IsWrongInside IsWrongCheck top (codes "check") place.Check fault)
    ⊎ (IsRightToCheck top × IsWrongInside IsWrongStatus top (codes "status") place.Status fault)
    ⊎ (IsRightToStatus top × IsWrongInside IsWrongLimits top (codes "limits") place.Limits fault)
    ⊎ (IsRightToLimits top × AreWrongPools top fault)
    ⊎ ((pools : List PoolConfig) × IsRightToPools top pools × AreWrongListens pools top fault)
