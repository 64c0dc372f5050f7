-- How a built selector is seen.
use Rattle.lb_select.specs.Buckets.{IsIndexOf}
use Rattle.lb_select.specs.Placed.{Placed, IsPlaced}
use Rattle.lb_select.specs.declared.ketama.KetamaHashing.TheInside.{Inside}

-- its backends, owners and points, and the multiple that it ignores
abbrev pub placed_seen : Inside → Placed
placed_seen r = record {
  members = r.backends.items;
  owners = r.owners.items;
  points = r.points.entries.items;
  multiple = r.config.point_multiple;
}

-- its points are those of its backends, and the index is theirs
pub record IsPlacedSeen (r : Inside) : Type 0 where
  pub placed : IsPlaced r.backends.items r.owners.items r.points.entries.items
  pub indexed : IsIndexOf r.points.entries.items r.points.index.shift r.points.index.starts.items
