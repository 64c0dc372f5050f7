-- How many cells an update starts, by its listings.
use Rattle.std.specs.Prelude.{ℕ, Bool, not, ◌&&◌, List, map, filter}
use Rattle.std.specs.List.{filter_map, list_any}
use Rattle.std.specs.Set.{distinct_count}
use Rattle.lb_select_base.specs.Backends.{Member, same_member}
use Rattle.lb_world.specs.Internal.Calls.{some_and}
use Rattle.lb_health_core.specs.Fresh.{has_key}
use Rattle.lb_health_core.specs.Targets.{ViewValue}
use Rattle.lb_world.specs.declared.step.Listing.{Listing}

module _ (key_of : Member → Member) where
  -- whether one of the listed backends has the key
  abbrev pub lists_key : Member → List Listing → Bool
  lists_key k listings = list_any (λ l. some_and (λ b. same_member k (key_of b)) l.backend) listings

  -- whether the key of a listed backend is none of the views', and none of those that are listed after it
  abbrev pub starts_cell : List ViewValue → Listing → List Listing → Bool
  starts_cell views listing later =
      some_and (λ b. not (has_key key_of views (key_of b)) && not (lists_key (key_of b) later)) listing.backend

  -- how many keys of the listed backends none of the views has
  abbrev pub new_keys : List ViewValue → List Listing → ℕ
  new_keys views listings =
      distinct_count same_member (filter (λ k. not (has_key key_of views k)) (map key_of (filter_map (λ l. l.backend) listings)))
