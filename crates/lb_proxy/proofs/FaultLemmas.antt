-- Faults of a list's entries.
use Rattle.std.proofs.Common.{◌≡◌, ℕ, zero, suc, ◌<◌, ◌⊎◌, inl, inr, List, [], ◌∷◌, map, take, length, get_or, slice_get}
use Rattle.std.proofs.Common.{Option, Some, None, option_map, Ok, Err, codes, refl, ap, sym, ◌∙◌}
use Rattle.std.proofs.Common.{Bool, true, is_some, IfSome, string_bytes}
use Rattle.std.proofs.lemmas.Bool.{false≢true}
use Rattle.std.proofs.lemmas.Option.{slice_get_read, slice_get-map}
use Rattle.std.specs.List.{AllZip}
use Rattle.toml.specs.Data.{as_table}
use Rattle.toml.specs.View.{view}
use Rattle.toml.specs.declared.value.Value.{Value}
use Rattle.lb_select_base.specs.Backends.{Member}
use Rattle.lb_proxy.specs.Config.{Part, Said, list_at, entry_by, EntryIs, IsBackend, IsPool, IsPoolNamed, HaveOwnNames, IsListen}
use Rattle.lb_proxy.specs.Config.{backend_place}
use Rattle.lb_proxy.specs.Faults.{IsWrongBackend, AreWrongBackends, IsWrongPool, IsSameName, IsWrongEntry, AreWrongPools}
use Rattle.lb_proxy.specs.Faults.{IsWrongListen, AreWrongListens}
use Rattle.lb_proxy.specs.declared.config.ListenConfig.{ListenConfig}
use Rattle.lb_proxy.specs.declared.config.PoolConfig.{PoolConfig}
use Rattle.lb_proxy.specs.declared.config_fault.Place.TheVariants as place
use Rattle.lb_proxy.specs.declared.config_fault.Cause.TheVariants as cause

entry_at : {A D : Type 0} (f : A → D) (xs : List A) (n : ℕ) (x : A) → x ≡ get_or xs n x → n < length xs
    → slice_get (map f xs) n ≡ Some (f x)
entry_at f xs n x is lt = slice_get-map f xs n ∙ ap (option_map f) (slice_get_read xs (length xs) n x refl lt is)

take_mapped : {A D : Type 0} (f : A → D) (xs : List A) (n : ℕ) → map f (take n xs) ≡ take n (map f xs)
take_mapped f [] zero = refl
take_mapped f [] (suc n) = refl
take_mapped f (x ∷ xs) zero = refl
take_mapped f (x ∷ xs) (suc n) = ap (λ t. f x ∷ t) (take_mapped f xs n)

pub wrong_backends : (part : Part) (values : List Value) (n : ℕ) (x : Value) (fault : Said) (before : List Member)
    → Ok (map view values) ≡ list_at part (codes "backends") → x ≡ get_or values n x → n < length values
    → AllZip IsBackend (map view (take n values)) before
    → IsWrongBackend part (backend_place part.0 n) (view x) fault → AreWrongBackends part fault
wrong_backends part values n x fault before is at lt right wrong =
    let all : AllZip IsBackend (take n (map view values)) before = rw (← take_mapped view values n) right in
    inr (map view values, n, view x, before, sym is, entry_at view values n x at lt, all, wrong)

-- the entry of this number is wrong, and those before it are these pools
pub wrong_entry : (top : Part) (values : List Value) (n : ℕ) (x : Value) (fault : Said) (before : List PoolConfig)
    → Ok (map view values) ≡ list_at top (codes "pool") → x ≡ get_or values n x → n < length values
    → AllZip (EntryIs IsPool) (map view (take n values)) before × HaveOwnNames before
    → IsWrongEntry (λ part f. IsWrongPool part f ⊎ IsSameName before part f) top (codes "pool") (place.Pool n) (view x) fault
    → AreWrongPools top fault
wrong_entry top values n x fault before is at lt right wrong =
    let all : AllZip (EntryIs IsPool) (take n (map view values)) before = rw (← take_mapped view values n) right.0 in
    inr (inr (map view values, n, view x, before, sym is, entry_at view values n x at lt, all, right.1, wrong))

pub pool_no_table : (top : Part) (values : List Value) (n : ℕ) (x : Value) (fault : Said) (before : List PoolConfig)
    → Ok (map view values) ≡ list_at top (codes "pool") → x ≡ get_or values n x → n < length values
    → AllZip (EntryIs IsPool) (map view (take n values)) before × HaveOwnNames before
    → Err fault ≡ entry_by top (codes "pool") (place.Pool n) (as_table (view x)) → AreWrongPools top fault
pool_no_table top values n x fault before is at lt right wrong =
    wrong_entry top values n x fault before is at lt right (inl (sym wrong))

pub wrong_pool : (top part : Part) (values : List Value) (n : ℕ) (x : Value) (fault : Said) (before : List PoolConfig)
    → Ok (map view values) ≡ list_at top (codes "pool") → x ≡ get_or values n x → n < length values
    → AllZip (EntryIs IsPool) (map view (take n values)) before × HaveOwnNames before
    → Ok part ≡ entry_by top (codes "pool") (place.Pool n) (as_table (view x)) → IsWrongPool part fault → AreWrongPools top fault
wrong_pool top part values n x fault before is at lt right there wrong =
    wrong_entry top values n x fault before is at lt right (inr (part, sym there, inl wrong))

pub same_pool : (top part : Part) (values : List Value) (n : ℕ) (x : Value) (fault : Said) (before : List PoolConfig) (pool : PoolConfig)
    (earlier : ℕ) → Ok (map view values) ≡ list_at top (codes "pool") → x ≡ get_or values n x → n < length values
    → AllZip (EntryIs IsPool) (map view (take n values)) before × HaveOwnNames before
    → Ok part ≡ entry_by top (codes "pool") (place.Pool n) (as_table (view x)) → IsPool part pool
    → IsPoolNamed before (string_bytes pool.name) earlier → fault ≡ (part.0, codes "name", cause.SameName) → AreWrongPools top fault
same_pool top part values n x fault before pool earlier is at lt right there spelled named says =
    wrong_entry top values n x fault before is at lt right (inr (part, sym there, inr (pool, earlier, spelled, named, says)))

pub listen_no_table : (pools : List PoolConfig) (top : Part) (values : List Value) (n : ℕ) (x : Value) (fault : Said)
    (before : List ListenConfig) → Ok (map view values) ≡ list_at top (codes "listen") → x ≡ get_or values n x → n < length values
    → AllZip (EntryIs (IsListen pools)) (map view (take n values)) before
    → Err fault ≡ entry_by top (codes "listen") (place.Listen n) (as_table (view x)) → AreWrongListens pools top fault
listen_no_table pools top values n x fault before is at lt right wrong =
    let all : AllZip (EntryIs (IsListen pools)) (take n (map view values)) before = rw (← take_mapped view values n) right in
    inr (inr (map view values, n, view x, before, sym is, entry_at view values n x at lt, all, inl (sym wrong)))

pub wrong_listen : (pools : List PoolConfig) (top part : Part) (values : List Value) (n : ℕ) (x : Value) (fault : Said)
    (before : List ListenConfig) → Ok (map view values) ≡ list_at top (codes "listen") → x ≡ get_or values n x → n < length values
    → AllZip (EntryIs (IsListen pools)) (map view (take n values)) before
    → Ok part ≡ entry_by top (codes "listen") (place.Listen n) (as_table (view x)) → IsWrongListen pools part fault
    → AreWrongListens pools top fault
wrong_listen pools top part values n x fault before is at lt right there wrong =
    let all : AllZip (EntryIs (IsListen pools)) (take n (map view values)) before = rw (← take_mapped view values n) right in
    inr (inr (map view values, n, view x, before, sym is, entry_at view values n x at lt, all, inr (part, sym there, wrong)))

-- a name that is found is that of an earlier pool
pub named_there : (r : Option ℕ) (t : Bool) (ps qs : List PoolConfig) (n m : List ℕ) → t ≡ is_some r → t ≡ true → qs ≡ ps → n ≡ m
    → IfSome r (λ k. IsPoolNamed qs n k) → (k : ℕ) × IsPoolNamed ps m k
named_there None t ps qs n m e f q s h = absurd (false≢true (sym e ∙ f))
named_there (Some k) t ps qs n m e f q s h = (k, rw (← q, ← s) h)
