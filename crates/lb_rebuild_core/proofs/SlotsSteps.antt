-- One event at one slot of a group, from the slot to the group: once for all events and all calls.
use Rattle.std.proofs.Common.{arith, ◌≡◌, ◌<◌, ◌≤◌, ◌+◌, ◌^◌, ◌∙◌, ◌⊎◌, ℕ, zero, suc, Bool, false, nat_lt, List, [], ◌∷◌, map, length}
use Rattle.std.proofs.Common.{get_or, set, refl, sym, ap, subst, inl, inr, Some, None, option_map, slice_get}
use Rattle.std.proofs.lemmas.List.{map-set}
use Rattle.std.proofs.Math.Seq.{map-set_same}
use Rattle.std.proofs.lemmas.Option.{slice_get-map, slice_get_within, slice_get-get_or, slice_get_cases}
use mathlib.Core.Logic.{dite}
use native.Mathlib.Decide.{ℕ_discrete}
use Rattle.lb_select_base.specs.Backends.{Member}
use Rattle.lb_rebuild_core.specs.Gate.{GateId, GroupId}
use Rattle.lb_rebuild_core.specs.SlotsHistory.{SlotEvent, At, History, past_of, newest, scheduled_at, is_cancelled, IsPast, IsSlotsHistory}
use Rattle.lb_rebuild_core.specs.SlotsHistory.{MayHappen}
use Rattle.lb_rebuild_core.specs.Values.{PlaceValue, SlotValue, SlotsValue, configs_of}
use Rattle.lb_rebuild_core.specs.Stands.{Made, permit_in, slot_after, slots_after, group_after, StandsFor, IsFounded, SameSite}
use Rattle.lb_rebuild_core.specs.SlotSeen.{slot_value}
use Rattle.lb_rebuild_core.specs.declared.slot.Slot.{Slot}
use Rattle.lb_rebuild_core.proofs.Pasts.{past-same, past-other, newest-past, scheduled-past, cancelled-past, lt-false}

-- an event adds to the past of its own slot alone
pub possible-at : (i : ℕ) (e : SlotEvent) (h : History) → IsSlotsHistory h → MayHappen (past_of i h) e → IsSlotsHistory (At i e ∷ h)
possible-at i e h all may k =
    dite (ℕ_discrete i k)
    (λ at. subst (λ (m : ℕ). IsPast (past_of m (At i e ∷ h))) at (subst (λ (p : History). IsPast p) (sym (past-same i e h)) (all i, may)))
    (λ apart. subst (λ (p : History). IsPast p) (sym (past-other k i e h apart)) (all k))

module _ {C : Type 0} where
  pub length-after : (gate : GateId) (k : ℕ) (cs : List C) (h : History) → length (slots_after gate k cs h) ≡ length cs
  length-after gate k [] h = refl
  length-after gate k (c ∷ cs) h = ap suc (length-after gate (k + 1) cs h)

  pub get-after : (gate : GateId) (k i j : ℕ) (cs : List C) (c : C) (h : History) → j ≡ k + i → slice_get cs i ≡ Some c
      → slice_get (slots_after gate k cs h) i ≡ Some (slot_after gate c (past_of j h))
  get-after gate k i j [] c h at is = absurd (cc)
  get-after gate k zero j (d ∷ cs) c h at is =
      let same : d ≡ c = cc in
      let place : k ≡ j = omega arith in
      ap (λ (x : C). Some (slot_after gate x (past_of k h))) same ∙ ap (λ (m : ℕ). Some (slot_after gate c (past_of m h))) place
  get-after gate k (suc i) j (d ∷ cs) c h at is = get-after gate (k + 1) i j cs c h (omega arith) is

  -- the configurations stay in their places
  pub configs-after : (gate : GateId) (k : ℕ) (cs : List C) (h : History)
      → map (λ (x : SlotValue C). x.config) (slots_after gate k cs h) ≡ cs
  configs-after gate k [] h = refl
  configs-after gate k (c ∷ cs) h = ap (λ (l : List C). c ∷ l) (configs-after gate (k + 1) cs h)

  -- what stands in a slot has a permit of the gate
  permits-after : (gate : GateId) (k i : ℕ) (cs : List C) (h : History) (x : SlotValue C) → slice_get (slots_after gate k cs h) i ≡ Some x
      → x.permit ≡ permit_in gate x.extra
  permits-after gate k i [] h x is = absurd (cc)
  permits-after gate k zero (c ∷ cs) h x is =
      let same : slot_after gate c (past_of k h) ≡ x = cc in
      subst (λ (z : SlotValue C). z.permit ≡ permit_in gate z.extra) same refl
  permits-after gate k (suc i) (c ∷ cs) h x is = permits-after gate (k + 1) i cs h x is

  pub permits-fit : (made : Made C) (h : History) (v : SlotsValue C) (i : ℕ) (x : SlotValue C) → StandsFor made h v
      → slice_get v.slots i ≡ Some x → x.permit ≡ permit_in v.gate x.extra
  permits-fit made h v i x s is =
      permits-after made.gate 0 i made.configs h x (ap (λ (w : SlotsValue C). slice_get w.slots i) (sym s.shows) ∙ is)
      ∙ ap (λ (g : GateId). permit_in g x.extra) (sym (ap (λ (w : SlotsValue C). w.gate) s.shows))

  -- the slots after an event are those before it, but for the event's own
  join : (x y : SlotValue C) (xs ys : List (SlotValue C)) → x ≡ y → xs ≡ ys → x ∷ xs ≡ y ∷ ys
  join x y xs ys a b = cc

  slots-before : (gate : GateId) (j k : ℕ) (cs : List C) (e : SlotEvent) (h : History) → j < k
      → slots_after gate k cs (At j e ∷ h) ≡ slots_after gate k cs h
  slots-before gate j k [] e h below = refl
  slots-before gate j k (c ∷ cs) e h below =
      join _ _ _ _ (ap (λ (p : History). slot_after gate c p) (past-other k j e h (λ at. omega arith)))
      (slots-before gate j (k + 1) cs e h (omega arith))

  pub slots-beyond : (gate : GateId) (j k : ℕ) (cs : List C) (e : SlotEvent) (h : History) → k + length cs ≤ j
      → slots_after gate k cs (At j e ∷ h) ≡ slots_after gate k cs h
  slots-beyond gate j k [] e h beyond = refl
  slots-beyond gate j k (c ∷ cs) e h beyond =
      let more : k + suc (length cs) ≤ j = beyond in
      join _ _ _ _ (ap (λ (p : History). slot_after gate c p) (past-other k j e h (λ at. omega arith)))
      (slots-beyond gate j (k + 1) cs e h (omega arith))

  pub event-slots : (gate : GateId) (k i j : ℕ) (cs : List C) (c : C) (e : SlotEvent) (h : History) → j ≡ k + i → slice_get cs i ≡ Some c
      → slots_after gate k cs (At j e ∷ h) ≡ set (slots_after gate k cs h) i (slot_after gate c (At j e ∷ past_of j h))
  event-slots gate k i j [] c e h at is = absurd (cc)
  event-slots gate k zero j (d ∷ cs) c e h at is =
      let same : d ≡ c = cc in
      let place : j ≡ k = omega arith in
      let past : past_of k (At j e ∷ h) ≡ At j e ∷ past_of j h = subst (λ (m : ℕ). past_of m (At j e ∷ h) ≡ At j e ∷ past_of j h) place
      (past-same j e h) in
      join _ _ _ _ (ap (λ (p : History). slot_after gate d p) past ∙ ap (λ (x : C). slot_after gate x (At j e ∷ past_of j h)) same)
      (slots-before gate j (k + 1) cs e h (omega arith))
  event-slots gate k (suc i) j (d ∷ cs) c e h at is =
      join _ _ _ _ (ap (λ (p : History). slot_after gate d p) (past-other k j e h (λ same. omega arith)))
      (event-slots gate (k + 1) i j cs c e h (omega arith) is)

  pub same-group : {own o : GroupId} {id a : GateId} {n m : ℕ} {ms os : List Member} {at to : ℕ} {st off : Bool}
      {xs ys : List (SlotValue C)}
      → own ≡ o → id ≡ a → n ≡ m → ms ≡ os → at ≡ to → st ≡ off → xs ≡ ys
      → (let left : SlotsValue C = record { id = own; gate = id; newest = n; current = ms; scheduled = at; cancelled = st; slots = xs } in
      let right : SlotsValue C = record { id = o; gate = a; newest = m; current = os; scheduled = to; cancelled = off; slots = ys } in
      left ≡ right)
  same-group h1 h2 h3 h4 h5 h6 h7 = cc

  -- an event of a place without a slot is seen by nobody
  pub stands-beyond : (made : Made C) (h : History) (i : ℕ) (e : SlotEvent) (v : SlotsValue C) → length made.configs ≤ i
      → MayHappen (past_of i h) e → StandsFor made h v → StandsFor made (At i e ∷ h) v
  stands-beyond made h i e v beyond may s = record {
    possible = possible-at i e h s.possible may;
    bounded = s.bounded;
    shows = s.shows ∙ same-group refl refl refl refl refl refl (sym (slots-beyond made.gate i 0 made.configs e h (omega arith)));
  }

  -- the configuration that a job has is its slot's
  pub config-is : {made : Made C} {h : History} {v : SlotsValue C} {i k : ℕ} {c d : C} → StandsFor made h v → i ≡ k
      → slice_get made.configs i ≡ Some c → slice_get (configs_of v) k ≡ Some d → d ≡ c
  config-is {made} {h} {v} {i} {k} {c} {d} s place there own =
      let configs : configs_of v ≡ made.configs = ap (λ (w : SlotsValue C). configs_of w) s.shows
      ∙ configs-after made.gate 0 made.configs h in
      let one : Some d ≡ Some c = sym own ∙ ap (λ (l : List C). slice_get l k) configs ∙ sym (ap (slice_get made.configs) place) ∙ there in
      cc

  -- the history of a group
  pub founded : {u v : SlotsValue C} (p : IsFounded u) → u ≡ v → IsFounded v
  founded p is = (p.0, (p.1.0, subst (λ (z : SlotsValue C). StandsFor p.0 p.1.0 z) is p.1.1))

  -- what holds after each history of a group holds, since there is one
  pub known : {u v : SlotsValue C} {P : Type 0} → IsFounded u → u ≡ v → ((made : Made C) (h : History) → StandsFor made h v → P) → P
  known p is all = let q = founded p is in all q.0 q.1.0 q.1.1

  pub stays : {u v w : SlotsValue C} {then_ : Made C → History → History} → IsFounded u → u ≡ v
      → ((made : Made C) (h : History) → StandsFor made h v → StandsFor made (then_ made h) w) → IsFounded w
  stays p is becomes = known p is (λ made h s. (made, (_, becomes made h s)))

  -- identity and gate are those that it was made with
  pub id-made : {made : Made C} {h : History} {v : SlotsValue C} → StandsFor made h v → v.id ≡ made.id
  id-made s = ap (λ (w : SlotsValue C). w.id) s.shows

  pub gate-made : {made : Made C} {h : History} {v : SlotsValue C} → StandsFor made h v → v.gate ≡ made.gate
  gate-made s = ap (λ (w : SlotsValue C). w.gate) s.shows

  -- where what goes out of a slot belongs
  pub place-made : {made : Made C} {h : History} {v : SlotsValue C} {p : PlaceValue} {i : ℕ} → p ≡ record { group = v.id; slot = i }
      → StandsFor made h v
      → p ≡ record { group = made.id; slot = i }
  place-made {i = i} is s = is ∙ ap (λ (z : GroupId). record { group = z; slot = i }) (id-made s)

  -- identity, gate and configurations stay, whatever happens
  pub site-of : {u v w : SlotsValue C} {then_ : Made C → History → History} → IsFounded u → u ≡ v
      → ((made : Made C) (h : History) → StandsFor made h v → StandsFor made (then_ made h) w) → SameSite v w
  site-of {then_ = then_} p is becomes = known p is (λ made h s.
      let t = becomes made h s in
      record {
        id = id-made t ∙ sym (id-made s);
        gate = gate-made t ∙ sym (gate-made s);
        configs =
            ap (λ (z : SlotsValue C). configs_of z) t.shows ∙ configs-after made.gate 0 made.configs (then_ made h)
            ∙ sym (ap (λ (z : SlotsValue C). configs_of z) s.shows ∙ configs-after made.gate 0 made.configs h);
      })

module _ {S C W : Type 0} where
  -- a group with these slots
  abbrev pub slots_of : GroupId → GateId → ℕ → List Member → ℕ → Bool → List (Slot S C W) → SlotsValue C
  slots_of own id n ms at st xs =
      record { id = own; gate = id; newest = n; current = ms; scheduled = at; cancelled = st; slots = map slot_value xs }

  pub length-values : (xs : List (Slot S C W)) → length (map slot_value xs) ≡ length xs
  length-values [] = refl
  length-values (x ∷ xs) = ap suc (length-values xs)

  -- What a call at one slot finds, x, and what it has to show of the slot y that it leaves.
  pub record Facing (made : Made C) (h : History) (own : GroupId) (id : GateId) (n : ℕ) (ms : List Member) (at : ℕ) (st : Bool)
      (xs : List (Slot S C W)) (i : ℕ) (x y : Slot S C W) : Type 0 where
    pub config : C
    pub there : slice_get made.configs i ≡ Some config
    pub inside : i < length made.configs
    pub slot : slot_value x ≡ slot_after made.gate config (past_of i h)
    pub group : own ≡ made.id
    pub gate : id ≡ made.gate
    pub newest_is : n ≡ newest (past_of i h)
    pub newest_of : n ≡ newest h
    pub moment : at ≡ scheduled_at (newest (past_of i h)) (past_of i h)
    pub stopped : st ≡ is_cancelled (past_of i h)
    pub stopped_of : st ≡ is_cancelled h
    pub past : IsPast (past_of i h)
    pub bounded : newest (past_of i h) < 2 ^ 64
    pub step : (e : SlotEvent) → MayHappen (past_of i h) e → slot_value y ≡ slot_after made.gate config (At i e ∷ past_of i h)
        → StandsFor made (At i e ∷ h) (slots_of own id n ms at st (set xs i y))
    pub same : slot_value y ≡ slot_value x → StandsFor made h (slots_of own id n ms at st (set xs i y))

  -- how many slots there are
  pub count-is : {made : Made C} {h : History} {own : GroupId} {id : GateId} {n : ℕ} {ms : List Member} {at : ℕ} {st : Bool}
      (xs : List (Slot S C W)) {v : SlotsValue C}
      → slots_of own id n ms at st xs ≡ v → StandsFor made h v → length xs ≡ length made.configs
  count-is {made} {h} {own} {id} {n} {ms} {at} {st} xs e s =
      let all : slots_of own id n ms at st xs ≡ group_after made h = e ∙ s.shows in
      sym (length-values xs) ∙ ap (λ (w : SlotsValue C). length w.slots) all ∙ length-after made.gate 0 made.configs h

  -- a slot that the call does not find is none that the group was made with
  pub beyond : {made : Made C} {h : History} {own : GroupId} {id : GateId} {n : ℕ} {ms : List Member} {at : ℕ} {st : Bool}
      (xs : List (Slot S C W)) {v : SlotsValue C} (i : ℕ)
      → slots_of own id n ms at st xs ≡ v → length xs ≤ i → StandsFor made h v → nat_lt i (length made.configs) ≡ false
  beyond {made} xs i e few s =
      let count = count-is xs e s in
      lt-false i (length made.configs) (omega (arith, count, few))

  pub facing : {made : Made C} {h : History} {own : GroupId} {id : GateId} {n : ℕ} {ms : List Member} {at : ℕ} {st : Bool}
      {xs : List (Slot S C W)} {v : SlotsValue C} (i : ℕ) (x y : Slot S C W)
      → slots_of own id n ms at st xs ≡ v → i < length xs → x ≡ get_or xs i x → StandsFor made h v
      → Facing made h own id n ms at st xs i x y
  facing {made} {h} {own} {id} {n} {ms} {at} {st} {xs} i x y e in_ is s = found (slice_get_cases made.configs i).1
    where
      all : slots_of own id n ms at st xs ≡ group_after made h
      all = e ∙ s.shows

      slots : map slot_value xs ≡ slots_after made.gate 0 made.configs h
      slots = ap (λ (w : SlotsValue C). w.slots) all

      count : length xs ≡ length made.configs
      count = count-is xs e s

      newest-is : n ≡ newest h
      newest-is = ap (λ (w : SlotsValue C). w.newest) all

      in_place : slice_get (map slot_value xs) i ≡ Some (slot_value x)
      in_place = slice_get-map slot_value xs i ∙ ap (option_map slot_value) (slice_get-get_or xs i x in_ ∙ ap Some (sym is))

      found : ((c : C) × (i < length made.configs) × (slice_get made.configs i ≡ Some c) × (get_or made.configs i c ≡ c))
          ⊎ ((length made.configs ≤ i) × (slice_get made.configs i ≡ None))
          → Facing made h own id n ms at st xs i x y
      found (inr past) = absurd (omega (arith, count, in_, past.0))
      found (inl (c, within, there, _)) =
          let shown : slice_get (slots_after made.gate 0 made.configs h) i ≡ Some (slot_after made.gate c (past_of i h)) =
          get-after made.gate 0 i i made.configs c h (omega arith) there in
          let seen : Some (slot_value x) ≡ Some (slot_after made.gate c (past_of i h)) = sym in_place
          ∙ ap (λ (l : List (SlotValue C)). slice_get l i) slots ∙ shown in
          let moment-is : at ≡ scheduled_at (newest h) h = ap (λ (w : SlotsValue C). w.scheduled) all in
          let stopped-is : st ≡ is_cancelled h = ap (λ (w : SlotsValue C). w.cancelled) all in
          record {
            config = c;
            there = there;
            inside = within;
            slot = (let same : slot_value x ≡ slot_after made.gate c (past_of i h) = cc in same);
            group = ap (λ (w : SlotsValue C). w.id) all;
            gate = ap (λ (w : SlotsValue C). w.gate) all;
            newest_is = newest-is ∙ sym (newest-past i h);
            newest_of = newest-is;
            moment = moment-is ∙ sym (ap (λ (k : ℕ). scheduled_at k (past_of i h)) (newest-past i h) ∙ scheduled-past (newest h) i h);
            stopped = stopped-is ∙ sym (cancelled-past i h);
            stopped_of = stopped-is;
            past = s.possible i;
            bounded = subst (λ (k : ℕ). k < 2 ^ 64) (sym (newest-past i h)) s.bounded;
            step = λ f may to. record {
              possible = possible-at i f h s.possible may;
              bounded = s.bounded;
              shows =
                  same-group (ap (λ (w : SlotsValue C). w.id) all) (ap (λ (w : SlotsValue C). w.gate) all) newest-is
                  (ap (λ (w : SlotsValue C). w.current) all) moment-is stopped-is
                  (map-set slot_value xs i y ∙ ap (λ (l : List (SlotValue C)). set l i (slot_value y)) slots
                  ∙ ap (λ (z : SlotValue C). set (slots_after made.gate 0 made.configs h) i z) to
                  ∙ sym (event-slots made.gate 0 i i made.configs c f h (omega arith) there));
            };
            same = λ to. record {
              possible = s.possible;
              bounded = s.bounded;
              shows =
                  same-group (ap (λ (w : SlotsValue C). w.id) all) (ap (λ (w : SlotsValue C). w.gate) all) newest-is
                  (ap (λ (w : SlotsValue C). w.current) all) moment-is stopped-is
                  (map-set_same slot_value xs i y x (to ∙ ap slot_value is) ∙ slots);
            };
          }

  inside-of : {own : GroupId} {id : GateId} {n : ℕ} {ms : List Member} {at : ℕ} {st : Bool} (xs : List (Slot S C W)) {v : SlotsValue C}
      (i : ℕ) (c : C)
      → slots_of own id n ms at st xs ≡ v → slice_get (configs_of v) i ≡ Some c → i < length xs
  inside-of xs i c e there =
      let configs : slice_get (map (λ (x : SlotValue C). x.config) (map slot_value xs)) i ≡ Some c =
      ap (λ (w : SlotsValue C). slice_get (configs_of w) i) e ∙ there in
      let few : i < length (map (λ (x : SlotValue C). x.config) (map slot_value xs)) = slice_get_within _ i c configs in
      subst (λ (k : ℕ). i < k) (long xs) few
    where
      long : (ys : List (Slot S C W)) → length (map (λ (x : SlotValue C). x.config) (map slot_value ys)) ≡ length ys
      long [] = refl
      long (y ∷ ys) = ap suc (long ys)

  -- a task that comes back to its slot: what the call finds there, and that the task has the slot's configuration
  pub record Coming (made : Made C) (h : History) (own : GroupId) (id : GateId) (n : ℕ) (ms : List Member) (at : ℕ) (st : Bool)
      (xs : List (Slot S C W)) (i : ℕ) (x y : Slot S C W) (c : C) : Type 0 where
    pub faces : Facing made h own id n ms at st xs i x y
    pub config : c ≡ faces.config

  pub coming : {made : Made C} {h : History} {own : GroupId} {id : GateId} {n : ℕ} {ms : List Member} {at : ℕ} {st : Bool}
      {xs : List (Slot S C W)} {v : SlotsValue C} {k : ℕ} {c : C} (i : ℕ) (x y : Slot S C W)
      → slots_of own id n ms at st xs ≡ v → i ≡ k → slice_get (configs_of v) k ≡ Some c → x ≡ get_or xs i x → StandsFor made h v
      → Coming made h own id n ms at st xs i x y c
  coming {xs = xs} {k = k} {c = c} i x y e place there is s =
      let within : k < length xs = inside-of xs k c e there in
      let f = facing i x y e (omega (arith, within, place)) is s in
      record { faces = f; config = config-is s place f.there there }
