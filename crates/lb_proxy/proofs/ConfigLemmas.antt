-- Lists of a configuration.
use Rattle.std.proofs.Common.{Bool, true, false, Option, Some, None, Result, Ok, Err, is_some, IfNone, eqb, ◌≡◌, ◌≢◌, ℕ, ◌+◌, ◌<◌, List, []}
use Rattle.std.proofs.Common.{◌∷◌, ◌++◌, map, take, length, get_or, string_bytes, refl, ap, sym, ◌∙◌}
use Rattle.std.proofs.lemmas.List.{take_more}
use Rattle.std.proofs.lemmas.Bool.{false≢true}
use Rattle.std.specs.Cmp.Lexicographic.{pointwise, bytes_decides}
use Rattle.std.specs.List.{AllByRecursion, AllZip}
use Rattle.toml.specs.Data.{Data, Members, as_table}
use Rattle.toml.specs.View.{items_of}
use Rattle.lb_proxy.specs.Config.{list_of_items, HaveOwnNames, Part, Said, part_of, entry_by, EntryIs}
use Rattle.lb_proxy.specs.declared.config.PoolConfig.{PoolConfig}
use Rattle.lb_proxy.specs.declared.config_fault.Place.{Place}
use Rattle.lb_proxy.specs.declared.section.Section.{Section}

pub items_listed : (ds : List Data) → list_of_items (items_of ds) ≡ ds
items_listed [] = refl
items_listed (d ∷ ds) = ap (λ t. d ∷ t) (items_listed ds)

all_last : {X : Type 0} (P : X → Type 0) (xs : List X) (x : X) → AllByRecursion P xs → P x → AllByRecursion P (xs ++ x ∷ [])
all_last P [] x h p = (p, tt)
all_last P (y ∷ ys) x h p = (h.0, all_last P ys x h.1 p)

zip_last : {D B : Type 0} (R : D → B → Type 0) (ds : List D) (ys : List B) (d : D) (y : B) → AllZip R ds ys → R d y
    → AllZip R (ds ++ d ∷ []) (ys ++ y ∷ [])
zip_last R [] [] d y h r = (r, tt)
zip_last R [] (w ∷ ws) d y h r = absurd h
zip_last R (e ∷ es) [] d y h r = absurd h
zip_last R (e ∷ es) (w ∷ ws) d y h r = (h.0, zip_last R es ws d y h.1 r)

map_last : {A D : Type 0} (f : A → D) (xs : List A) (x : A) → map f (xs ++ x ∷ []) ≡ map f xs ++ f x ∷ []
map_last f [] x = refl
map_last f (y ∷ ys) x = ap (λ t. f y ∷ t) (map_last f ys x)

one_more : {X : Type 0} (xs : List X) (n : ℕ) (x : X) → x ≡ get_or xs n x → n < length xs → take (n + 1) xs ≡ take n xs ++ x ∷ []
one_more xs n x is lt = take_more xs n x lt ∙ ap (λ v. take n xs ++ v ∷ []) (sym is)

-- one element more
pub all_more : {X : Type 0} (P : X → Type 0) (xs : List X) (n : ℕ) (x : X) → x ≡ get_or xs n x → n < length xs
    → AllByRecursion P (take n xs) → P x → AllByRecursion P (take (n + 1) xs)
all_more P xs n x is lt h p = rw (one_more xs n x is lt) (all_last P (take n xs) x h p)

pub zip_more : {A D B : Type 0} (f : A → D) (R : D → B → Type 0) (xs : List A) (ys : List B) (n : ℕ) (x : A) (y : B)
    → x ≡ get_or xs n x → n < length xs → AllZip R (map f (take n xs)) ys → R (f x) y
    → AllZip R (map f (take (n + 1) xs)) (ys ++ y ∷ [])
zip_more f R xs ys n x y is lt h r =
    rw (one_more xs n x is lt, map_last f (take n xs) x) (zip_last R (map f (take n xs)) ys (f x) y h r)

-- a pool more, whose name none has
pub own_names_more : (pools : List PoolConfig) (pool : PoolConfig) → HaveOwnNames pools
    → AllByRecursion (λ p. string_bytes p.name ≢ string_bytes pool.name) pools → HaveOwnNames (pools ++ pool ∷ [])
own_names_more [] pool h all = (tt, tt)
own_names_more (p ∷ ps) pool h all = (all_last _ ps pool h.0 all.0, own_names_more ps pool h.1 all.1)

-- what a comparison of names says
pub same_name : (text name bytes : List ℕ) (r : Bool) → text ≡ bytes → r ≡ pointwise eqb text name → r ≡ true → bytes ≡ name
same_name text name bytes r is e h = sym is ∙ (bytes_decides text name).0 (sym e ∙ h)

pub other_name : (text name bytes : List ℕ) (r : Bool) → text ≡ bytes → r ≡ pointwise eqb text name → r ≡ false → bytes ≢ name
other_name text name bytes r is e h same = false≢true (sym h ∙ e ∙ (bytes_decides text name).1 (is ∙ same))

pub fresh_name : (r : Option ℕ) (t : Bool) (ps qs : List PoolConfig) (n m : List ℕ) → t ≡ is_some r → t ≡ false → qs ≡ ps → n ≡ m
    → IfNone r (AllByRecursion (λ p. string_bytes p.name ≢ n) qs) → AllByRecursion (λ p. string_bytes p.name ≢ m) ps
fresh_name None t ps qs n m e f q s h = rw (sym q, sym s) h
fresh_name (Some k) t ps qs n m e f q s h = absurd (false≢true (sym f ∙ e))

-- an entry that was read is a table
abbrev members_or : Result Part Said → Option Members
members_or (Ok p) = Some p.1
members_or (Err e) = None

entry_members : (part : Part) (field : List ℕ) (place : Place) (o : Option Members) → members_or (entry_by part field place o) ≡ o
entry_members part field place None = refl
entry_members part field place (Some ms) = refl

pub entry_is : {A : Type 0} (Is : Part → A → Type 0) (part : Part) (field : List ℕ) (place : Place) (d : Data) (s : Section) (x : A)
    → Ok (part_of s) ≡ entry_by part field place (as_table d) → Is (part_of s) x → EntryIs Is d x
entry_is Is part field place d s x h is = (part_of s, sym (entry_members part field place (as_table d)) ∙ sym (ap members_or h), is)
