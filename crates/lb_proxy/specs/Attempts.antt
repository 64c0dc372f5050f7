-- Which attempt of a connection comes next: a machine over what happened to the attempts so far.
use Rattle.std.specs.Prelude.{◌≡◌, ◌≤◌, Bool, false, List, [], ◌∷◌, ◌++◌, length, nat_lt, ⊤, if◌then◌else◌}
use Rattle.std.specs.List.{AllByRecursion, list_any}
use Rattle.lb_select_base.specs.Backends.{Member, same_member}
use Rattle.lb_proxy.specs.declared.attempts.Next.{Next}
use Rattle.lb_proxy.specs.declared.attempts.Next.TheVariants.{Select, Connect, Relay, Close}
use Rattle.lb_proxy.specs.declared.attempts.AttemptEvent.{AttemptEvent}
use Rattle.lb_proxy.specs.declared.attempts.AttemptEvent.TheVariants.{Selected, NoneReady, Refused, Connected}

-- the backends that were tried, in order, and what is to be done next
pub record Attempt : Type 0 where
  pub tried : List Member
  pub next : Next

abbrev pub start : Attempt
start = record { tried = []; next = Select }

-- a backend of this identity was tried
abbrev pub was_tried : List Member → Member → Bool
was_tried tried backend = list_any (λ other. same_member other backend) tried

-- A selection was asked for: a new backend is tried. One that was tried before says that no other is left, as none does.
abbrev pub after_selection : Attempt → AttemptEvent → Attempt
after_selection a (Selected backend) =
    if was_tried a.tried backend then record a { next = Close } else record { tried = a.tried ++ backend ∷ []; next = Connect }
after_selection a NoneReady = record a { next = Close }
after_selection a Refused = a
after_selection a Connected = a

-- A connection was asked for: after a refusal there is another attempt, where three were not made.
abbrev pub after_connection : Attempt → AttemptEvent → Attempt
after_connection a Refused = record a { next = if nat_lt (length a.tried) 3 then Select else Close }
after_connection a Connected = record a { next = Relay }
after_connection a (Selected backend) = a
after_connection a NoneReady = a

abbrev pub after_by : Next → Attempt → AttemptEvent → Attempt
after_by Select a event = after_selection a event
after_by Connect a event = after_connection a event
after_by Relay a event = a
after_by Close a event = a

-- after one event, and after all of a list
abbrev pub after : Attempt → AttemptEvent → Attempt
after a event = after_by a.next a event

abbrev pub after_all : Attempt → List AttemptEvent → Attempt
after_all a [] = a
after_all a (event ∷ events) = after_all (after a event) events

-- the event brings a backend
abbrev pub IsSelected : AttemptEvent → Type 0
IsSelected (Selected backend) = ⊤
IsSelected NoneReady = ⊥
IsSelected Refused = ⊥
IsSelected Connected = ⊥

-- no two of them have one identity
abbrev pub AreDistinct : List Member → Type 0
AreDistinct [] = ⊤
AreDistinct (x ∷ xs) = AllByRecursion (λ other. same_member x other ≡ false) xs × AreDistinct xs

-- three attempts at most, each at a backend of its own
pub record IsFair (a : Attempt) : Type 0 where
  pub few : length a.tried ≤ 3
  pub distinct : AreDistinct a.tried
