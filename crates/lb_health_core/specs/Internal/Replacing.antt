-- A view's update on its way: what is prepared of it, and what it gives.
use Rattle.std.specs.Prelude.{◌≡◌, List}
use Rattle.lb_select_base.specs.Backends.{Member, member_cmp}
use Rattle.lb_health_core.specs.declared.change.ViewCells.{ViewCells}
use Rattle.lb_health_core.specs.declared.numbering.Numbering.{Numbering}
use Rattle.lb_health_core.specs.CellEvents.{CellEvent, changes}
use Rattle.lb_health_core.specs.Internal.Changing.{IsStarted}
use Rattle.lb_health_core.specs.Registry.{IsStateAfter}
use Rattle.lb_health_core.specs.RegistryEvents.{Event, cells_by, cells_in, changes_after}
use Rattle.lb_health_core.specs.Table.{TableValue}
use Rattle.lb_health_core.specs.Targets.{ViewValue}

-- the cells of a membership after these changes, by backend and as numbers
pub record IsShown (key_of : Member → Member) (all : List (List Member)) (members : List Member) (shown : ViewCells) : Type 0 where
  pub pairs : shown.by_backend.entries ≡ cells_by key_of all members
  pub numbers : shown.numbers.keys ≡ cells_in (cells_by key_of all members)

-- the numbering and the cells for later are there, and the table is after events still
pub record IsPrepared (key_of : Member → Member) (events later : List (CellEvent Member)) (members : List Member)
    (numbering : Numbering Member) (shown : ViewCells) (table : TableValue Member) : Type 0 where
  pub started : IsStarted member_cmp events later table numbering.by_key.entries numbering.next
  pub cells : IsShown key_of (changes later) members shown

-- the views and the table are after these events, and the cells of the membership are shown
pub record IsReplaced (key_of : Member → Member) (events : List Event) (members : List Member) (shown : ViewCells)
    (views : List ViewValue) (table : TableValue Member) : Type 0 where
  pub state : IsStateAfter key_of events views table
  pub cells : IsShown key_of (changes_after key_of events) members shown
