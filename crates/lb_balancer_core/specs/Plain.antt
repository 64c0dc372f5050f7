-- The plain group as a port: each call is that of the group, with its registry and its gate, and the words are those of its slots.
-- Each call is stated by a history of the group; what is owned is so after some history of it.
use Rattle.std.specs.Prelude.{◌≡◌, ℕ, true, Some, slice_get}
use Rattle.rand_core.specs.Stream.{Stream, next_u64}
use Rattle.lb_select_base.specs.Backends.{Member}
use Rattle.lb_select_base.specs.Draws as draws
use Rattle.lb_select_base.specs.Draws.{Draw}
use Rattle.lb_rebuild_core.specs.SlotsCalls.{is_awaited, is_owed, is_read}
use Rattle.lb_rebuild_core.specs.Stands.{Made}
use Rattle.lb_rebuild_core.specs.Values.{Task, PermitValue, ReaderValue, configs_of}
use Rattle.lb_rebuild_core.specs.GroupCalls.{IsTicketDrawn}
use Rattle.lb_rebuild_core.specs.GroupHistory.{History, slot_events}
use Rattle.lb_rebuild_core.specs.GroupStates.{GroupValue, Stands}

module _ {C : Type 0} where
  -- after some history of the group
  abbrev pub AfterSome : GroupValue C → (Made C → History → Type 0) → Type 0
  AfterSome v Holds = (made : Made C) × ((e : History) × (Stands made e v × Holds made e))

  -- A job and what was built of it: of this group and gate, with its slot's configuration, and awaited in its slot.
  abbrev pub OwnsJob : GroupValue C → Task C → Type 0
  OwnsJob v t =
      (t.group ≡ v.group.id) × (t.permit ≡ v.group.gate) × (slice_get (configs_of v.group) t.slot ≡ Some t.config)
      × AfterSome v (λ made e. is_awaited t.slot t.generation (slot_events e) ≡ true)

  -- a reader that its slot counts
  abbrev pub OwnsReader : GroupValue C → ReaderValue C → Type 0
  OwnsReader v r =
      (r.group ≡ v.group.id) × AfterSome v (λ made e. is_read made r.slot r.generation (slot_events e) ≡ true)

  -- the permit of a selector that was taken out of the slot
  abbrev pub OwnsPermit : GroupValue C → ℕ → PermitValue → Type 0
  OwnsPermit v slot p =
      (p.group ≡ v.group.id) × (p.slot ≡ slot) × (p.gate ≡ v.group.gate)
      × AfterSome v (λ made e. is_owed made slot (slot_events e) ≡ true)

  -- Tickets are those of the slot's counter, random words those that the generator gives next, and loads the borrowed ones.
  abbrev pub IsDrawn : GroupValue C → Stream → (Member → ℕ) → ReaderValue C → Draw → GroupValue C → Stream → Type 0
  IsDrawn v s load_by r (draws.ticket t) w u = IsTicketDrawn v r t w × (u ≡ s)
  IsDrawn v s load_by r (draws.random x) w u = ((x, u) ≡ next_u64 s) × (w ≡ v)
  IsDrawn v s load_by r (draws.load m l) w u = (l ≡ load_by m) × (w ≡ v) × (u ≡ s)
