-- What a configuration spells, over the table that its text is: fields, words, pools and listeners.
use Rattle.std.specs.Prelude.{◌≡◌, ◌≢◌, ℕ, ℤ, pos, negsuc, ◌*◌, ◌^◌, ◌<◌, ◌-◌, List, [], ◌∷◌, codes, length, take, nat_lt, eqb, bytes_eq}
use Rattle.std.specs.Prelude.{◌⊎◌, slice_get, Option, Some, None, IsSome, option_map, unwrap_or, Result, Ok, Err, ⊤, string_bytes}
use Rattle.std.specs.Prelude.{Bool, true, false, if◌then◌else◌}
use Rattle.std.specs.List.{AllByRecursion, AllZip, list_any, starts_with, ends_with}
use Rattle.std.specs.Net.Grammar.{IsSocketText}
use Rattle.std.specs.declared.net.socket_addr.SocketAddr.{SocketAddr}
use Rattle.toml.specs.Data.{Data, Items, no_items, item, Members, no_members, get_member, as_str, as_integer, as_bool, as_array, as_table}
use Rattle.toml.specs.View.{table_view}
use Rattle.lb_select_base.specs.AddressText.{address_of_text, bare_member}
use Rattle.lb_select_base.specs.Backends.{Member}
use Rattle.lb_proxy.specs.Key.{Kind, source, uri, header, key_of_text, owned_seen}
use Rattle.lb_proxy.specs.PoolFile.{weight_of}
use Rattle.lb_proxy.specs.declared.config.CheckConfig.{CheckConfig}
use Rattle.lb_proxy.specs.declared.config.CheckKind.{CheckKind}
use Rattle.lb_proxy.specs.declared.config.CheckKind.TheVariants.{Tcp as Connects, Http as Asks}
use Rattle.lb_proxy.specs.declared.config.Config.{Config}
use Rattle.lb_proxy.specs.declared.config.Limits.{Limits}
use Rattle.lb_proxy.specs.declared.config.PoolConfig.{PoolConfig}
use Rattle.lb_proxy.specs.declared.config.ListenConfig.{ListenConfig}
use Rattle.lb_proxy.specs.declared.config.Selection.{Selection}
use Rattle.lb_proxy.specs.declared.config.Selection.TheVariants.{RoundRobin, Fnv, Ketama, Least, Random}
use Rattle.lb_proxy.specs.declared.mode.Mode.{Mode}
use Rattle.lb_proxy.specs.declared.mode.Mode.TheVariants.{Tcp, Http}
use Rattle.lb_proxy.specs.declared.config_fault.Place.{Place}
use Rattle.lb_proxy.specs.declared.config.PoolSource.{PoolSource}
use Rattle.lb_proxy.specs.declared.config.PoolSource.TheVariants.{Fixed, File}
use Rattle.lb_proxy.specs.declared.config_fault.Place.TheVariants as place
use Rattle.lb_proxy.specs.declared.config_fault.Cause.{Cause}
use Rattle.lb_proxy.specs.declared.config_fault.Cause.TheVariants as cause
use Rattle.lb_proxy.specs.declared.config_fault.Fault.{Fault}
use Rattle.lb_proxy.specs.declared.section.Section.{Section}

-- a part of a configuration: where it is, and its fields
abbrev pub Part : Type 0
Part = Place × Members

abbrev pub part_of : Section → Part
part_of s = (s.place, table_view s.table.now)

-- what a fault says: in which part, of which field, and why
abbrev pub Said : Type 0
Said = Place × List ℕ × Cause

abbrev pub said : Fault → Said
said f = (f.place, f.field.now, f.cause)

-- a value of a field, or the fault of that field
abbrev pub blamed : {A : Type 0} → Part → List ℕ → Result A Cause → Result A Said
blamed part field (Ok x) = Ok x
blamed part field (Err c) = Err (part.0, field, c)

-- what is found, or why it is refused
abbrev pub or_refused : {A : Type 0} → Cause → Option A → Result A Cause
or_refused c (Some x) = Ok x
or_refused c None = Err c

abbrev pub some_or_refused : {A : Type 0} → Cause → Option A → Result (Option A) Cause
some_or_refused c (Some x) = Ok (Some x)
some_or_refused c None = Err c

-- the text of a field, none where the field is not there
abbrev pub text_in : Option Data → Result (Option (List ℕ)) Cause
text_in None = Ok None
text_in (Some d) = some_or_refused cause.NotText (as_str d)

abbrev pub text_of : Part → List ℕ → Result (Option (List ℕ)) Said
text_of part field = blamed part field (text_in (get_member field part.1))

-- the text of a field that has to be there
abbrev pub required_in : Option Data → Result (List ℕ) Cause
required_in None = Err cause.Missing
required_in (Some d) = or_refused cause.NotText (as_str d)

abbrev pub required_of : Part → List ℕ → Result (List ℕ) Said
required_of part field = blamed part field (required_in (get_member field part.1))

-- a number from 0 on
abbrev pub natural : Option ℤ → Option ℕ
natural None = None
natural (Some (pos n)) = Some n
natural (Some (negsuc n)) = None

abbrev pub number_in : ℕ → Option Data → Result ℕ Cause
number_in default None = Ok default
number_in default (Some d) = or_refused cause.NotNumber (natural (as_integer d))

abbrev pub number_of : Part → List ℕ → ℕ → Result ℕ Said
number_of part field default = blamed part field (number_in default (get_member field part.1))

abbrev pub flag_in : Bool → Option Data → Result Bool Cause
flag_in default None = Ok default
flag_in default (Some d) = or_refused cause.NotFlag (as_bool d)

abbrev pub flag_of : Part → List ℕ → Bool → Result Bool Said
flag_of part field default = blamed part field (flag_in default (get_member field part.1))

-- the items in their order
abbrev pub list_of_items : Items → List Data
list_of_items no_items = []
list_of_items (item d ds) = d ∷ list_of_items ds

abbrev pub list_by : Option Items → Result (List Data) Cause
list_by None = Err cause.NotList
list_by (Some ds) = Ok (list_of_items ds)

-- the values of a list, none where the field is not there
abbrev pub list_in : Option Data → Result (List Data) Cause
list_in None = Ok []
list_in (Some d) = list_by (as_array d)

abbrev pub list_at : Part → List ℕ → Result (List Data) Said
list_at part field = blamed part field (list_in (get_member field part.1))

-- the table of a field, as a part at that place
abbrev pub placed_by : Place → Option Members → Result (Option Part) Cause
placed_by place None = Err cause.NotTable
placed_by place (Some ms) = Ok (Some (place, ms))

abbrev pub table_in : Place → Option Data → Result (Option Part) Cause
table_in place None = Ok None
table_in place (Some d) = placed_by place (as_table d)

abbrev pub table_at : Part → List ℕ → Place → Result (Option Part) Said
table_at part field place = blamed part field (table_in place (get_member field part.1))

-- the table that the list of a field has as an entry, as a part at that place
abbrev pub entry_by : Part → List ℕ → Place → Option Members → Result Part Said
entry_by part field place None = Err (part.0, field, cause.NotTables)
entry_by part field place (Some ms) = Ok (place, ms)

-- the text of the field spells the socket address
abbrev pub IsAddressOf : Part → List ℕ → SocketAddr → Type 0
IsAddressOf part field address = (text : List ℕ) × (required_of part field ≡ Ok text) × IsSocketText text address

-- why a field gives no socket address: it gives no text, or its text spells none
abbrev pub IsNoAddress : Part → List ℕ → Result (List ℕ) Said → Said → Type 0
IsNoAddress part field (Err e) s = s ≡ e
IsNoAddress part field (Ok text) s = ((a : SocketAddr) → ¬ (IsSocketText text a)) × (s ≡ (part.0, field, cause.NotAddress))

-- the name is one of those
abbrev pub is_among : List (List ℕ) → List ℕ → Bool
is_among known name = list_any (λ other. bytes_eq other name) known

-- the part has no field but those
abbrev pub HasOnly : List (List ℕ) → Part → Type 0
HasOnly known part = (field : List ℕ) → IsSome (get_member field part.1) → is_among known field ≡ true

-- the part has a field that is none of those
pub record IsUnknown (known : List (List ℕ)) (part : Part) (fault : Said) : Type 0 where
  pub there : IsSome (get_member fault.1 part.1)
  pub unknown : is_among known fault.1 ≡ false
  pub says : fault ≡ (part.0, fault.1, cause.Unknown)

-- what comes next, where nothing is wrong so far
abbrev pub and_then : {A B : Type 0} → Result A Said → (A → Result B Said) → Result B Said
and_then (Ok x) next = next x
and_then (Err e) next = Err e

abbrev pub selection_of : List ℕ → Option Selection
selection_of word =
    if bytes_eq word (codes "rr") then Some RoundRobin else
    if bytes_eq word (codes "fnv") then Some Fnv else
    if bytes_eq word (codes "ketama") then Some Ketama else
    if bytes_eq word (codes "least") then Some Least else
    if bytes_eq word (codes "random") then Some Random else None

-- how a listener selects: in turn, unless a word says otherwise
abbrev pub selection_by : Option (List ℕ) → Result Selection Cause
selection_by None = Ok RoundRobin
selection_by (Some word) = or_refused cause.NotSelection (selection_of word)

abbrev pub selection_in : Part → Result Selection Said
selection_in part = and_then (text_of part (codes "select")) (λ word. blamed part (codes "select") (selection_by word))

-- as many units as a number says, where 64 bits can say it
abbrev pub units_by : Option ℕ → ℕ → Option ℕ
units_by None unit = None
units_by (Some number) unit = if nat_lt (number * unit) (2 ^ 64) then Some (number * unit) else None

abbrev pub units_of : List ℕ → ℕ → Option ℕ
units_of digits unit = units_by (weight_of digits) unit

-- a text without its end
abbrev pub cut : List ℕ → List ℕ → Option (List ℕ)
cut end text = if ends_with eqb text end then Some (take (length text - length end) text) else None

abbrev pub units_or : Option (List ℕ) → ℕ → Option ℕ → Option ℕ
units_or None unit other = other
units_or (Some digits) unit other = units_of digits unit

-- the time that a text spells, in nanoseconds
abbrev pub duration_of : List ℕ → Option ℕ
duration_of text =
    units_or (cut (codes "ms") text) 1000000 (units_or (cut (codes "s") text) 1000000000
    (units_or (cut (codes "m") text) 60000000000 (units_or (cut (codes "h") text) 3600000000000 None)))

abbrev pub time_by : ℕ → Option (List ℕ) → Result ℕ Cause
time_by default None = Ok default
time_by default (Some text) = or_refused cause.NotDuration (duration_of text)

abbrev pub time_of : Part → List ℕ → ℕ → Result ℕ Said
time_of part field default = and_then (text_of part field) (λ text. blamed part field (time_by default text))

-- where a backend of a part is, and the check of a part
abbrev pub backend_place : Place → ℕ → Place
backend_place (place.Pool pool) number = place.Backend pool number
backend_place place.Top number = place.Top
backend_place place.Check number = place.Check
backend_place place.Status number = place.Status
backend_place place.Limits number = place.Limits
backend_place (place.PoolCheck pool) number = place.PoolCheck pool
backend_place (place.Listen listen) number = place.Listen listen
backend_place (place.Backend pool other) number = place.Backend pool other

abbrev pub check_place : Place → Place
check_place (place.Pool number) = place.PoolCheck number
check_place place.Top = place.Check
check_place place.Check = place.Check
check_place place.Status = place.Check
check_place place.Limits = place.Check
check_place (place.PoolCheck number) = place.Check
check_place (place.Listen number) = place.Check
check_place (place.Backend pool number) = place.Check

-- bytes are relayed, unless a word says otherwise
abbrev pub mode_by : Option (List ℕ) → Result Mode Cause
mode_by None = Ok Tcp
mode_by (Some word) =
    if bytes_eq word (codes "tcp") then Ok Tcp else if bytes_eq word (codes "http") then Ok Http else Err cause.NotMode

abbrev pub mode_in : Part → Result Mode Said
mode_in part = and_then (text_of part (codes "mode")) (λ word. blamed part (codes "mode") (mode_by word))

-- a key of the mode: the target and the fields of requests are there in http mode alone
abbrev pub key_or : Mode → Option Kind → Result Kind Cause
key_or mode None = Err cause.NotKey
key_or mode (Some source) = Ok source
key_or Tcp (Some uri) = Err cause.NotKey
key_or Tcp (Some (header name)) = Err cause.NotKey
key_or Http (Some uri) = Ok uri
key_or Http (Some (header name)) = Ok (header name)

abbrev pub key_by : Mode → Option (List ℕ) → Result Kind Cause
key_by mode None = Ok source
key_by mode (Some word) = key_or mode (key_of_text word)

abbrev pub key_in : Part → Mode → Result Kind Said
key_in part mode = and_then (text_of part (codes "key")) (λ word. blamed part (codes "key") (key_by mode word))

-- the fields that each part may have
abbrev pub top_fields : List (List ℕ)
top_fields = codes "check" ∷ codes "status" ∷ codes "limits" ∷ codes "pool" ∷ codes "listen" ∷ []

abbrev pub check_fields : List (List ℕ)
check_fields =
    codes "kind" ∷ codes "host" ∷ codes "path" ∷ codes "every" ∷ codes "timeout" ∷ codes "rise" ∷ codes "fall" ∷ codes "parallel" ∷ []

abbrev pub status_fields : List (List ℕ)
status_fields = codes "listen" ∷ []

abbrev pub limits_fields : List (List ℕ)
limits_fields =
    codes "max_connections" ∷ codes "threads" ∷ codes "connect" ∷ codes "idle" ∷ codes "answer" ∷ codes "drain" ∷ []

abbrev pub pool_fields : List (List ℕ)
pool_fields = codes "name" ∷ codes "backends" ∷ codes "file" ∷ codes "check" ∷ []

abbrev pub backend_fields : List (List ℕ)
backend_fields = codes "address" ∷ codes "weight" ∷ []

abbrev pub listen_fields : List (List ℕ)
listen_fields = codes "address" ∷ codes "mode" ∷ codes "pool" ∷ codes "select" ∷ codes "key" ∷ []

-- the text of a field, or that one where the field is not there
abbrev pub IsTextOr : Part → List ℕ → List ℕ → List ℕ → Type 0
IsTextOr part field default text = (given : Option (List ℕ)) × (text_of part field ≡ Ok given) × (text ≡ unwrap_or given default)

abbrev pub begins_with_slash : List ℕ → Bool
begins_with_slash text = starts_with eqb text (codes "/")

-- what a check does: it connects unless a word says otherwise
abbrev pub IsKind : Part → CheckKind → Type 0
IsKind part Connects = (text_of part (codes "kind") ≡ Ok None) ⊎ (text_of part (codes "kind") ≡ Ok (Some (codes "tcp")))
IsKind part (Asks host path) =
    (text_of part (codes "kind") ≡ Ok (Some (codes "http"))) × IsTextOr part (codes "host") (codes "localhost") (string_bytes host)
    × IsTextOr part (codes "path") (codes "/") (string_bytes path) × (begins_with_slash (string_bytes path) ≡ true)

-- the check is the one that the part spells
pub record IsCheck (part : Part) (check : CheckConfig) : Type 0 where
  pub known : HasOnly check_fields part
  pub kind : IsKind part check.kind
  pub every : time_of part (codes "every") 1000000000 ≡ Ok check.every
  pub timeout : time_of part (codes "timeout") 1000000000 ≡ Ok check.timeout
  pub rise : number_of part (codes "rise") 1 ≡ Ok check.rise
  pub fall : number_of part (codes "fall") 1 ≡ Ok check.fall
  pub parallel : flag_of part (codes "parallel") true ≡ Ok check.parallel

-- the check of a part, at that place, where it has one
abbrev pub IsCheckIn : Part → Place → Option CheckConfig → Type 0
IsCheckIn part place None = table_at part (codes "check") place ≡ Ok None
IsCheckIn part place (Some check) = (own : Part) × (table_at part (codes "check") place ≡ Ok (Some own)) × IsCheck own check

-- the pool of this number has this name
pub record IsPoolNamed (pools : List PoolConfig) (name : List ℕ) (number : ℕ) : Type 0 where
  pub is_there : number < length pools
  pub named : option_map (λ pool. string_bytes pool.name) (slice_get pools number) ≡ Some name

-- the listener is the one that the part spells
pub record IsListen (pools : List PoolConfig) (part : Part) (listen : ListenConfig) : Type 0 where
  pub known : HasOnly listen_fields part
  pub address : IsAddressOf part (codes "address") listen.address
  pub mode : mode_in part ≡ Ok listen.mode
  pub key : key_in part listen.mode ≡ Ok (owned_seen listen.key)
  pub pool : (name : List ℕ) × (required_of part (codes "pool") ≡ Ok name) × IsPoolNamed pools name listen.pool
  pub selection : selection_in part ≡ Ok listen.selection

-- an entry of a list is a table that is such a thing
abbrev pub EntryIs : {A : Type 0} → (Part → A → Type 0) → Data → A → Type 0
EntryIs Is d x = (part : Part) × (as_table d ≡ Some part.1) × Is part x

-- the listeners are what the entries of the list spell, in its order
abbrev pub AreListens : List PoolConfig → Part → List ListenConfig → Type 0
AreListens pools top listens =
    (entries : List Data) × (list_at top (codes "listen") ≡ Ok entries) × AllZip (EntryIs (IsListen pools)) entries listens

-- the text of a backend's address and its weight: a text alone weighs 1, a table may have a weight
abbrev pub IsWeighed : Option (List ℕ) → Option Members → List ℕ → ℕ → Type 0
IsWeighed (Some s) t text weight = (text ≡ s) × (weight ≡ 1)
IsWeighed None None text weight = ⊥
IsWeighed None (Some ms) text weight =
    (place : Place) × HasOnly backend_fields (place, ms) × (required_of (place, ms) (codes "address") ≡ Ok text)
    × (number_of (place, ms) (codes "weight") 1 ≡ Ok weight)

-- the backend has the address and the weight that the value spells, and nothing attached
abbrev pub IsBackend : Data → Member → Type 0
IsBackend d backend =
    (text : List ℕ) × (weight : ℕ) × IsWeighed (as_str d) (as_table d) text weight
    × (option_map (bare_member weight) (address_of_text text) ≡ Some backend)

-- the backends are what the list spells, in its order
abbrev pub AreBackends : Part → List Member → Type 0
AreBackends part backends =
    (values : List Data) × (list_at part (codes "backends") ≡ Ok values) × AllZip IsBackend values backends

-- the backends come from a list or from a file, as the part says
abbrev pub IsSource : Part → PoolSource → Type 0
IsSource part (Fixed backends) =
    (text_of part (codes "file") ≡ Ok None) × IsSome (get_member (codes "backends") part.1) × AreBackends part backends.items
IsSource part (File path) =
    (text_of part (codes "file") ≡ Ok (Some (string_bytes path))) × (get_member (codes "backends") part.1 ≡ None)

-- the pool is the one that the part spells
pub record IsPool (part : Part) (pool : PoolConfig) : Type 0 where
  pub known : HasOnly pool_fields part
  pub name : required_of part (codes "name") ≡ Ok (string_bytes pool.name)
  pub source : IsSource part pool.source
  pub check : IsCheckIn part (check_place part.0) pool.check

-- the pools are what the entries of the list spell, in its order
abbrev pub ArePools : Part → List PoolConfig → Type 0
ArePools top pools =
    (entries : List Data) × (list_at top (codes "pool") ≡ Ok entries) × AllZip (EntryIs IsPool) entries pools

-- no two pools have one name: none has that of a later one
abbrev pub HaveOwnNames : List PoolConfig → Type 0
HaveOwnNames [] = ⊤
HaveOwnNames (pool ∷ pools) = AllByRecursion (λ later. string_bytes pool.name ≢ string_bytes later.name) pools × HaveOwnNames pools

-- where the status page is, if anywhere
abbrev pub IsStatus : Part → Option SocketAddr → Type 0
IsStatus top None = table_at top (codes "status") place.Status ≡ Ok None
IsStatus top (Some address) =
    (part : Part) × (table_at top (codes "status") place.Status ≡ Ok (Some part)) × HasOnly status_fields part
    × IsAddressOf part (codes "listen") address

-- the limits are the ones that the part spells
pub record AreLimits (part : Part) (limits : Limits) : Type 0 where
  pub known : HasOnly limits_fields part
  pub max_connections : number_of part (codes "max_connections") 10000 ≡ Ok limits.max_connections
  pub threads : number_of part (codes "threads") 0 ≡ Ok limits.threads
  pub connect : time_of part (codes "connect") 1000000000 ≡ Ok limits.connect
  pub idle : time_of part (codes "idle") 300000000000 ≡ Ok limits.idle
  pub answer : time_of part (codes "answer") 60000000000 ≡ Ok limits.answer
  pub drain : time_of part (codes "drain") 10000000000 ≡ Ok limits.drain

-- the limits of a configuration, those of a part without fields where it has none
abbrev pub AreLimitsIn : Part → Limits → Type 0
AreLimitsIn top limits =
    ((part : Part) × (table_at top (codes "limits") place.Limits ≡ Ok (Some part)) × AreLimits part limits)
    ⊎ ((table_at top (codes "limits") place.Limits ≡ Ok None) × AreLimits (place.Limits, no_members) limits)

-- the configuration's parts are what the table spells
pub record IsConfig (top : Part) (config : Config) : Type 0 where
  pub known : HasOnly top_fields top
  pub checked : IsCheckIn top place.Check config.check
  pub page : IsStatus top config.status
  pub limited : AreLimitsIn top config.limits
  pub spelled : ArePools top config.pools.items
  pub own_names : HaveOwnNames config.pools.items
  pub some_pool : 0 < length config.pools.items
  pub listening : AreListens config.pools.items top config.listens.items
  pub some_listen : 0 < length config.listens.items
