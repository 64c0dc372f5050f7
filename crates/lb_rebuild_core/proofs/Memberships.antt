-- A group at its start, with a new membership, and cancelled: what happens to all slots at once.
use Rattle.std.proofs.Common.{arith, ◌≡◌, ◌<◌, ◌+◌, ◌^◌, ◌∙◌, ℕ, suc, Bool, true, false, not, cond, List, [], ◌∷◌, map, length, refl, sym}
use Rattle.std.proofs.Common.{ap, subst, None, lit<}
use Rattle.std.proofs.lemmas.Bool.{eq-eqb, ne_eqb}
use Rattle.lb_select_base.specs.Backends.{Member}
use Rattle.lb_select_base.specs.Memberships.{same_members}
use Rattle.lb_rebuild_core.specs.Gate.{GateId, GroupId}
use Rattle.lb_rebuild_core.specs.SlotsHistory.{Scheduled, Cancelled, History, past_of, newest, members_of, is_cancelled, IsSlotsHistory}
use Rattle.lb_rebuild_core.specs.Values.{OrderValue, PreparedValue, SlotValue, SlotsValue}
use Rattle.lb_rebuild_core.specs.Stands.{Made, slot_after, slots_after, group_after, StandsFor}
use Rattle.lb_rebuild_core.specs.SlotCalls.{ordered_slot}
use Rattle.lb_rebuild_core.specs.SlotSeen.{slot_value}
use Rattle.lb_rebuild_core.specs.Internal.Fresh.{fresh_slot, turn_of}
use Rattle.lb_rebuild_core.specs.Orders.{order_for, AreOrdered}
use Rattle.lb_rebuild_core.specs.SlotsCalls.{is_change, schedule_refusal, turn_after, turns_after, Fits}
use Rattle.lb_rebuild_core.specs.declared.membership.SlotTurn.{SlotTurn}
use Rattle.lb_rebuild_core.specs.declared.slot.Slot.{Slot}
use Rattle.lb_rebuild_core.proofs.Pasts.{newest-past, cancelled-past}
use Rattle.lb_rebuild_core.proofs.SlotSteps.{ordered-step, cancelled-step}
use Rattle.lb_rebuild_core.proofs.SlotsSteps.{slots_of, same-group}

module _ {C : Type 0} where
  fresh-slots : (gate : GateId) (k : ℕ) (cs : List C) → map fresh_slot cs ≡ slots_after gate k cs []
  fresh-slots gate k [] = refl
  fresh-slots gate k (c ∷ cs) = ap (λ (l : List (SlotValue C)). fresh_slot c ∷ l) (fresh-slots gate (k + 1) cs)

  cancelled-slots : (gate : GateId) (k : ℕ) (cs : List C) (h : History) → slots_after gate k cs h ≡ slots_after gate k cs (Cancelled ∷ h)
  cancelled-slots gate k [] h = refl
  cancelled-slots gate k (c ∷ cs) h =
      ap (λ (z : SlotValue C). z ∷ slots_after gate (k + 1) cs h) (cancelled-step gate c (past_of k h))
      ∙ ap (λ (l : List (SlotValue C)). slot_after gate c (past_of k (Cancelled ∷ h)) ∷ l) (cancelled-slots gate (k + 1) cs h)

  -- the slot with the order that its configuration makes of a membership
  abbrev ordered : ℕ → List Member → SlotValue C → SlotValue C
  ordered n ms z = ordered_slot n (order_for (n + 1) ms z) z

  ordered-slots : (gate : GateId) (k n : ℕ) (cs : List C) (ms : List Member) (now : ℕ) (h : History) → IsSlotsHistory h
      → is_cancelled h ≡ false → n ≡ newest h → n + 1 < 2 ^ 64
      → map (ordered n ms) (slots_after gate k cs h) ≡ slots_after gate k cs (Scheduled ms now ∷ h)
  ordered-slots gate k n [] ms now h all goes is fits = refl
  ordered-slots gate k n (c ∷ cs) ms now h all goes is fits =
      let count : n ≡ newest (past_of k h) = is ∙ sym (newest-past k h) in
      let one : ordered n ms (slot_after gate c (past_of k h)) ≡ slot_after gate c (Scheduled ms now ∷ past_of k h) =
      ap (λ (m : ℕ). ordered m ms (slot_after gate c (past_of k h))) count
      ∙ ordered-step gate c ms now (past_of k h) (all k, cancelled-past k h ∙ goes) (omega arith) in
      ap (λ (z : SlotValue C). z ∷ map (ordered n ms) (slots_after gate (k + 1) cs h)) one
      ∙ ap (λ (l : List (SlotValue C)). slot_after gate c (Scheduled ms now ∷ past_of k h) ∷ l)
      (ordered-slots gate (k + 1) n cs ms now h all goes is fits)

  turns-shown : (gate : GateId) (k n : ℕ) (cs : List C) (h : History) → n ≡ newest h
      → map (λ (z : SlotValue C). turn_of n z) (slots_after gate k cs h) ≡ turns_after k cs h
  turns-shown gate k n [] h is = refl
  turns-shown gate k n (c ∷ cs) h is =
      let count : n ≡ newest (past_of k h) = is ∙ sym (newest-past k h) in
      ap (λ (t : SlotTurn). t ∷ map (λ (z : SlotValue C). turn_of n z) (slots_after gate (k + 1) cs h))
      (ap (λ (m : ℕ). turn_of m (slot_after gate c (past_of k h))) count)
      ∙ ap (λ (l : List SlotTurn). turn_after (past_of k h) ∷ l) (turns-shown gate (k + 1) n cs h is)

module _ {S C W : Type 0} where
  -- slots at their start
  pub starts : (own : GroupId) (id gate : GateId) (ms : List Member) (xs : List (Slot S C W)) (configs : List C) → id ≡ gate → ms ≡ []
      → map slot_value xs ≡ map fresh_slot configs
      → StandsFor (record { id = own; gate = gate; configs = configs }) [] (slots_of own id 0 ms 0 false xs)
  starts own id gate ms xs configs is none fresh = record {
    possible = λ i. tt;
    bounded = lit< tt;
    shows = same-group refl is refl none refl refl (fresh ∙ fresh-slots gate 0 configs);
  }

  pub stops : (made : Made C) (h : History) (own : GroupId) (id : GateId) (n : ℕ) (ms : List Member) (at : ℕ) (st : Bool)
      (xs : List (Slot S C W)) (v : SlotsValue C)
      → slots_of own id n ms at st xs ≡ v → StandsFor made h v → StandsFor made (Cancelled ∷ h) (slots_of own id n ms at true xs)
  stops made h own id n ms at st xs v e s =
      let all : slots_of own id n ms at st xs ≡ group_after made h = e ∙ s.shows in
      record {
        possible = s.possible;
        bounded = s.bounded;
        shows =
            same-group (ap (λ (w : SlotsValue C). w.id) all) (ap (λ (w : SlotsValue C). w.gate) all)
            (ap (λ (w : SlotsValue C). w.newest) all) (ap (λ (w : SlotsValue C). w.current) all)
            (ap (λ (w : SlotsValue C). w.scheduled) all) refl (ap (λ (w : SlotsValue C). w.slots) all
            ∙ cancelled-slots made.gate 0 made.configs h);
      }

  -- what contracts see of slots that were handed their orders
  ordered-values : (xs ys : List (Slot S C W)) (n : ℕ) (ms : List Member)
      → AreOrdered n xs (map (λ (x : Slot S C W). order_for (n + 1) ms (slot_value x)) xs) ys
      → map slot_value ys ≡ map (ordered n ms) (map slot_value xs)
  ordered-values [] [] n ms all = refl
  ordered-values [] (y ∷ ys) n ms all = let none : suc (length ys) ≡ 0 = all.count in absurd (omega arith)
  ordered-values (x ∷ xs) [] n ms all = let none : 0 ≡ suc (length xs) = all.count in absurd (omega arith)
  ordered-values (x ∷ xs) (y ∷ ys) n ms all =
      let count : suc (length ys) ≡ suc (length xs) = all.count in
      let first : slot_value y ≡ ordered n ms (slot_value x) = all.each 0 x (order_for (n + 1) ms (slot_value x)) (omega arith) in
      let others : AreOrdered n xs (map (λ (z : Slot S C W). order_for (n + 1) ms (slot_value z)) xs) ys = record {
        count = omega arith;
        each = λ k d o h. all.each (suc k) d o (omega arith);
      } in
      ap (λ (v : SlotValue C). v ∷ map slot_value ys) first ∙ ap (λ (l : List (SlotValue C)). ordered n ms (slot_value x) ∷ l)
      (ordered-values xs ys n ms others)

  pub schedules : (made : Made C) (h : History) (own : GroupId) (id : GateId) (n m : ℕ) (old ms os : List Member) (at now : ℕ) (st : Bool)
      (xs ys : List (Slot S C W)) (v : SlotsValue C)
      → slots_of own id n old at st xs ≡ v → StandsFor made h v → m ≡ n + 1 → n + 1 < 2 ^ 64 → st ≡ false → os ≡ ms
      → AreOrdered n xs (map (λ (x : Slot S C W). order_for (n + 1) ms (slot_value x)) xs) ys
      → StandsFor made (Scheduled ms now ∷ h) (slots_of own id m os now st ys)
  schedules made h own id n m old ms os at now st xs ys v e s next fits live from are =
      let all : slots_of own id n old at st xs ≡ group_after made h = e ∙ s.shows in
      let is : n ≡ newest h = ap (λ (w : SlotsValue C). w.newest) all in
      let goes : is_cancelled h ≡ false = sym (ap (λ (w : SlotsValue C). w.cancelled) all) ∙ live in
      record {
        possible = λ k. (s.possible k, cancelled-past k h ∙ goes);
        bounded = subst (λ (k : ℕ). k + 1 < 2 ^ 64) is fits;
        shows =
            same-group (ap (λ (w : SlotsValue C). w.id) all) (ap (λ (w : SlotsValue C). w.gate) all) (next ∙ ap (λ (k : ℕ). k + 1) is)
            (from ∙ sym (rw (eq-eqb (newest h + 1) (newest h + 1) refl) refl)) (sym (rw (eq-eqb (newest h + 1) (newest h + 1) refl) refl))
            (live ∙ sym goes)
            (ordered-values xs ys n ms are ∙ ap (map (ordered n ms)) (ap (λ (w : SlotsValue C). w.slots) all)
            ∙ ordered-slots made.gate 0 n made.configs ms now h s.possible goes is fits);
      }

  turns-map : (n : ℕ) (xs : List (Slot S C W))
      → map (λ (x : Slot S C W). turn_of n (slot_value x)) xs ≡ map (λ (z : SlotValue C). turn_of n z) (map slot_value xs)
  turns-map n [] = refl
  turns-map n (x ∷ xs) = ap (λ (l : List SlotTurn). turn_of n (slot_value x) ∷ l) (turns-map n xs)

  -- what the answer to a membership says of each slot
  pub turns-are : (made : Made C) (h : History) (own : GroupId) (id : GateId) (n : ℕ) (ms : List Member) (at : ℕ) (st : Bool)
      (xs : List (Slot S C W)) (v : SlotsValue C)
      → slots_of own id n ms at st xs ≡ v → StandsFor made h v
      → map (λ (x : Slot S C W). turn_of n (slot_value x)) xs ≡ turns_after 0 made.configs h
  turns-are made h own id n ms at st xs v e s =
      let all : slots_of own id n ms at st xs ≡ group_after made h = e ∙ s.shows in
      turns-map n xs ∙ ap (map (λ (z : SlotValue C). turn_of n z)) (ap (λ (w : SlotsValue C). w.slots) all)
      ∙ turns-shown made.gate 0 n made.configs h (ap (λ (w : SlotsValue C). w.newest) all)

  -- the answer to another membership than the newest one
  pub changes : (made : Made C) (h : History) (own : GroupId) (id : GateId) (n m : ℕ) (old members : List Member) (at : ℕ) (st : Bool)
      (xs : List (Slot S C W)) (v : SlotsValue C) (turns : List SlotTurn)
      → slots_of own id n old at st xs ≡ v → StandsFor made h v → m ≡ n + 1 → n + 1 < 2 ^ 64 → st ≡ false → same_members members old ≡ false
      → turns ≡ map (λ (x : Slot S C W). turn_of n (slot_value x)) xs
      → (schedule_refusal members h ≡ None) × (true ≡ is_change members h) × (m ≡ cond (is_change members h) (newest h + 1) (newest h))
      × (turns ≡ cond (is_change members h) (turns_after 0 made.configs h) [])
  changes made h own id n m old members at st xs v turns e s next fits live other are =
      let all : slots_of own id n old at st xs ≡ group_after made h = e ∙ s.shows in
      let is : n ≡ newest h = ap (λ (w : SlotsValue C). w.newest) all in
      let goes : is_cancelled h ≡ false = sym (ap (λ (w : SlotsValue C). w.cancelled) all) ∙ live in
      let differs : same_members members (members_of (newest h) h) ≡ false =
      sym (ap (same_members members) (ap (λ (w : SlotsValue C). w.current) all)) ∙ other in
      let change : is_change members h ≡ true = ap not differs in (
        rw (change, ne_eqb (newest h) 18446744073709551615 (λ end. omega arith), goes) refl,
        sym change,
        rw change (next ∙ ap (λ (k : ℕ). k + 1) is),
        rw change (are ∙ turns-are made h own id n old at st xs v e s),
      )

  -- what a prepared membership has for each slot
  pub orders-map : (n : ℕ) (ms : List Member) (xs : List (Slot S C W))
      → map (λ (x : Slot S C W). order_for (n + 1) ms (slot_value x)) xs ≡ map (λ (z : SlotValue C). order_for (n + 1) ms z)
      (map slot_value xs)
  orders-map n ms [] = refl
  orders-map n ms (x ∷ xs) = ap (λ (l : List (OrderValue C)). order_for (n + 1) ms (slot_value x) ∷ l) (orders-map n ms xs)

  -- a membership that was prepared is the newest
  pub commits : (made : Made C) (h : History) (own : GroupId) (id : GateId) (n m : ℕ) (old ms : List Member) (at now : ℕ) (st : Bool)
      (xs ys : List (Slot S C W)) (turns : List SlotTurn) (os : List (OrderValue C))
      (v : SlotsValue C) (p : PreparedValue C)
      → slots_of own id n old at st xs ≡ v
      → (let one : PreparedValue C = record { generation = m; members = ms; turns = turns; orders = os } in one ≡ p) → Fits v p
      → StandsFor made h v → AreOrdered n xs os ys
      → StandsFor made (Scheduled p.members now ∷ h) (slots_of own id m ms now st ys)
  commits made h own id n m old ms at now st xs ys turns os v p e q f s are =
      let next : m ≡ n + 1 = ap (λ (z : PreparedValue C). z.generation) q ∙ f.generation
      ∙ ap (λ (w : SlotsValue C). w.newest + 1) (sym e) in
      let fits : n + 1 < 2 ^ 64 = subst (λ (w : SlotsValue C). w.newest + 1 < 2 ^ 64) (sym e) f.bounded in
      let live : st ≡ false = ap (λ (w : SlotsValue C). w.cancelled) e ∙ f.live in
      let orders : os ≡ map (λ (x : Slot S C W). order_for (n + 1) p.members (slot_value x)) xs =
      ap (λ (z : PreparedValue C). z.orders) q ∙ f.orders
      ∙ ap (λ (w : SlotsValue C). map (λ (x : SlotValue C). order_for (w.newest + 1) p.members x) w.slots) (sym e)
      ∙ sym (orders-map n p.members xs) in
      schedules made h own id n m old p.members ms at now st xs ys v e s next fits live (ap (λ (z : PreparedValue C). z.members) q)
      (subst (λ (l : List (OrderValue C)). AreOrdered n xs l ys) orders are)
