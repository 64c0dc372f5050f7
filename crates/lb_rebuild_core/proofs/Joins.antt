-- What each call on group and view says of their one history.
use Rattle.std.proofs.Common.{arith, ◌≡◌, ◌<◌, ◌+◌, ◌%◌, ◌^◌, ◌&&◌, ◌∙◌, ℕ, Bool, true, false, not, cond, nat_lt, ◌⊎◌, inl, inr, List, []}
use Rattle.std.proofs.Common.{◌∷◌, ◌++◌, length, refl, sym, ap, subst, Some, None, Option, Result, Ok, Err, slice_get}
use Rattle.std.proofs.lemmas.Bool.{lt-ltb, ltb-true, eqb-true}
use Rattle.std.proofs.lemmas.Option.{slice_get_within}
use Rattle.std.specs.Prelude.{All, IfOk}
use Rattle.lb_select_base.specs.Backends.{Member}
use Rattle.lb_select_base.specs.Memberships.{same_members}
use Rattle.lb_select_base.specs.declared.refusal.Refusal.{Refusal}
use Rattle.lb_select_base.specs.declared.refusal.Refusal.TheVariants as refusal
use Rattle.lb_rebuild_core.specs.SlotsHistory as slots
use Rattle.lb_rebuild_core.specs.SlotsHistory.{past_of, newest, granted, served, Extra, nothing, flight, lost, retired, taken_out, extra}
use Rattle.lb_rebuild_core.specs.SlotsHistory.{is_under_way, is_taken_out, taken_out_number, generation_of, IsSlotsHistory}
use Rattle.lb_rebuild_core.specs.SlotsCalls.{is_change, Prepares, FitsIfThere, is_awaited, is_owed, taken_out_at, asked_events, done_at}
use Rattle.lb_rebuild_core.specs.SlotsCalls.{publish_events, abandon_events, select_events, serves, has_retired, ticket_events}
use Rattle.lb_rebuild_core.specs.Stands as core
use Rattle.lb_rebuild_core.specs.Stands.{Made}
use Rattle.lb_rebuild_core.specs.Values.{Task, BuiltValue, PreparedValue, SlotsValue, configs_of}
use Rattle.lb_rebuild_core.specs.SlotCalls.{ask_told}
use Rattle.lb_rebuild_core.specs.declared.answers.Ask.{Ask}
use Rattle.lb_rebuild_core.specs.declared.answers.Ask.TheVariants as asked
use Rattle.lb_rebuild_core.specs.declared.answers.Selection.{Selection}
use Rattle.lb_rebuild_core.specs.declared.answers.Publication.{Publication}
use Rattle.lb_rebuild_core.specs.declared.answers.Publication.TheVariants as told
use Rattle.lb_rebuild_core.proofs.SlotsSteps.{configs-after}
use Rattle.lb_rebuild_core.proofs.Pasts.{UnderWayFits, under-way-fits, newest-past}
use Rattle.lb_health_view.specs.RegistrySide as health
use Rattle.lb_health_view.specs.Snapshots.{SnapshotValue, ViewValue}
use Rattle.lb_health_view.specs.ViewEvents as view
use Rattle.lb_health_view.specs.ViewEvents.{ViewEvent, generation_after, membership_after}
use Rattle.lb_health_view.specs.Views.{IsViewAfter, IsViewRefusal}
use Rattle.lb_health_view.specs.Causes.{IsRegistryRefusal}
use Rattle.lb_rebuild_core.specs.GroupCalls.{with_membership, Schedules}
use Rattle.lb_rebuild_core.specs.GroupHistory.{History, At, slot_events, in_group, hold_events, view_events, members_now, after_settings}
use Rattle.lb_rebuild_core.specs.GroupStates.{GroupValue, Stands, views_of, SameSite}
use Rattle.lb_rebuild_core.proofs.Histories.{group-joined, generation-is, members-are, membership-group, membership-view}
use Rattle.lb_rebuild_core.proofs.Holds.{hold-fits}

-- the generation of a flight or a lost flight is that of the slot's last job
awaited-of : (s g k : ℕ) (e : Extra) → is_under_way k e ≡ true → UnderWayFits s g e → g ≡ k
awaited-of s g k nothing up fits = absurd (cc)
awaited-of s g k (flight m) up fits = sym fits.0 ∙ eqb-true m k up
awaited-of s g k (lost m) up fits = sym fits.0 ∙ eqb-true m k up
awaited-of s g k (retired m) up fits = absurd (cc)
awaited-of s g k (taken_out m) up fits = absurd (cc)

pub awaited-granted : (slot k : ℕ) (h : slots.History) → IsSlotsHistory h → is_awaited slot k h ≡ true → granted (past_of slot h) ≡ k
awaited-granted slot k h all up =
    awaited-of (served (past_of slot h)) (granted (past_of slot h)) k (extra (past_of slot h)) up
    (under-way-fits (past_of slot h) (all slot))

-- what an event at a slot is for the view
pub granted-view : (k slot now : ℕ) (e : History) → slot < k
    → view_events k (At slot (slots.Granted now) ∷ e) ≡ view.Held (newest (slot_events e)) ∷ view_events k e
granted-view k slot now e few = rw (lt-ltb slot k few) (ap (λ n. view.Held n ∷ view_events k e) (newest-past slot (slot_events e)))

pub failed-view : (k slot now g : ℕ) (ms : List Member) (e : History) → slot < k → granted (past_of slot (slot_events e)) ≡ g
    → view_events k (At slot (slots.Failed now ms) ∷ e) ≡ view.Released g ∷ view_events k e
failed-view k slot now g ms e few at = rw (lt-ltb slot k few) (ap (λ n. view.Released n ∷ view_events k e) at)

pub destroyed-view : (k slot g : ℕ) (e : History) → slot < k → generation_of (extra (past_of slot (slot_events e))) ≡ g
    → view_events k (At slot slots.Destroyed ∷ e) ≡ view.Released g ∷ view_events k e
destroyed-view k slot g e few at = rw (lt-ltb slot k few) (ap (λ n. view.Released n ∷ view_events k e) at)

-- what was taken out of a slot
number-of : (g : ℕ) (e : Extra) → taken_out_number e ≡ Some g → (generation_of e ≡ g) × (is_taken_out e ≡ true)
number-of g nothing is = absurd (cc)
number-of g (flight m) is = absurd (cc)
number-of g (lost m) is = absurd (cc)
number-of g (retired m) is = absurd (cc)
number-of g (taken_out m) is = (let same : m ≡ g = cc in same, refl)

none-of : (e : Extra) → taken_out_number e ≡ None → is_taken_out e ≡ false
none-of nothing is = refl
none-of (flight m) is = refl
none-of (lost m) is = refl
none-of (retired m) is = refl
none-of (taken_out m) is = absurd (cc)

module _ {C : Type 0} where
  pub out-is : (made : Made C) (slot g : ℕ) (h : slots.History) → taken_out_at made slot h ≡ Some g
      → (slot < length made.configs) × (generation_of (extra (past_of slot h)) ≡ g)
  out-is made slot g h is =
      elim (nat_lt slot (length made.configs)) as (λ b. nat_lt slot (length made.configs) ≡ b
      → cond b (taken_out_number (extra (past_of slot h))) None ≡ Some g
      → (slot < length made.configs) × (generation_of (extra (past_of slot h)) ≡ g)) [
        | true ↦ λ few o. (ltb-true slot (length made.configs) few, (number-of g (extra (past_of slot h)) o).0)
        | false ↦ λ few o. absurd (cc)
      ] refl is

  pub nothing-out : (made : Made C) (slot : ℕ) (h : slots.History) → taken_out_at made slot h ≡ None → is_owed made slot h ≡ false
  nothing-out made slot h is =
      elim (nat_lt slot (length made.configs)) as (λ b. cond b (taken_out_number (extra (past_of slot h))) None ≡ None
      → (b && is_taken_out (extra (past_of slot h))) ≡ false)
      [ true ↦ λ o. none-of (extra (past_of slot h)) o | false ↦ λ o. refl ] is

  -- the slot of a job is one of the group's
  pub inside-made : (made : Made C) (h : slots.History) (w : SlotsValue C) (i : ℕ) (c : C) → core.StandsFor made h w
      → slice_get (configs_of w) i ≡ Some c → i < length made.configs
  inside-made made h w i c s own =
      let configs : configs_of w ≡ made.configs = ap (λ (z : SlotsValue C). configs_of z) s.shows
      ∙ configs-after made.gate 0 made.configs h in
      slice_get_within made.configs i c (sym (ap (λ (l : List C). slice_get l i) configs) ∙ own)

  -- group and view after what happened to each
  pub joined : {n : ℕ} (made : Made C) (e : History) (es : slots.History) (w z : SlotsValue C) (u t : ViewValue) (v : GroupValue C)
      → (let parts : GroupValue C = record { group = w; view = u; registry = n } in parts ≡ v) → Stands made e v
      → ((h : slots.History) → core.StandsFor made h w → core.StandsFor made (es ++ h) z)
      → (IsViewAfter (views_of made e) u → IsViewAfter (views_of made (in_group es ++ e)) t)
      → (let after : GroupValue C = record { group = z; view = t; registry = n } in Stands made (in_group es ++ e) after)
  joined {n} made e es w z u t v is s group_ view_ =
      let before : Stands made e (record { group = w; view = u; registry = n }) =
      subst (λ (x : GroupValue C). Stands made e x) (sym is) s in
      record {
        few = before.few;
        group = subst (λ (h : slots.History). core.StandsFor made h z) (sym (group-joined es e)) (group_ (slot_events e) before.group);
        view = view_ before.view;
      }

  pub group-part : {n : ℕ} (made : Made C) (e : History) (w : SlotsValue C) (u : ViewValue) (v : GroupValue C)
      → (let parts : GroupValue C = record { group = w; view = u; registry = n } in parts ≡ v) → Stands made e v
      → core.StandsFor made (slot_events e) w
  group-part made e w u v is s = subst (λ (x : SlotsValue C). core.StandsFor made (slot_events e) x)
      (sym (ap (λ (x : GroupValue C). x.group) is)) s.group

  pub view-part : {n : ℕ} (made : Made C) (e : History) (w : SlotsValue C) (u : ViewValue) (v : GroupValue C)
      → (let parts : GroupValue C = record { group = w; view = u; registry = n } in parts ≡ v) → Stands made e v
      → IsViewAfter (views_of made e) u
  view-part made e w u v is s = subst (λ (x : ViewValue). IsViewAfter (views_of made e) x) (sym (ap (λ (x : GroupValue C). x.view) is))
      s.view

  -- a job can hold the newest snapshot
  pub ask-fits : (made : Made C) (e : History) (slot now g : ℕ) (w : SlotsValue C) (u : ViewValue) → length made.configs < 2 ^ 64
      → IsViewAfter (views_of made e) u
      → slot < length made.configs → core.StandsFor made (slots.At slot (slots.Granted now) ∷ slot_events e) w → g ≡ newest (slot_events e)
      → All (λ (s : SnapshotValue). s.generation ≡ g → s.holds + 1 < 2 ^ 64) u.snapshots
  ask-fits made e slot now g w u few is inside s at =
      subst (λ (ss : List SnapshotValue). All (λ (x : SnapshotValue). x.generation ≡ g → x.holds + 1 < 2 ^ 64) ss) (sym is.snapshots)
      (subst (λ (n : ℕ). All (λ (x : SnapshotValue). x.generation ≡ n → x.holds + 1 < 2 ^ 64) (view.snapshots_after (views_of made e)))
      (sym at)
      (hold-fits (length made.configs) slot now e few inside s.possible))

  -- a membership that reached both
  pub schedules : {n : ℕ} (made : Made C) (e : History) (members : List Member) (cells : List (Member × ℕ))
      (settings : List (Member × Bool))
      (now : ℕ) (b : Bool) (w : SlotsValue C) (u : ViewValue)
      → length made.configs < 2 ^ 64 → is_change members (slot_events e) ≡ b
      → core.StandsFor made (cond b (slots.Scheduled members now ∷ slot_events e) (slot_events e)) w
      → IsViewAfter (health.after_settings settings (health.with_membership members cells (views_of made e))) u
      → (let after : GroupValue C = record { group = w; view = u; registry = n }
      in Stands made (after_settings settings (with_membership members cells now e)) after)
  schedules made e members cells settings now b w u few change g i = record {
    few = few;
    group =
        subst (λ (h : slots.History). core.StandsFor made h w) (sym (membership-group members cells now e settings))
        (subst (λ (c : Bool). core.StandsFor made (cond c (slots.Scheduled members now ∷ slot_events e) (slot_events e)) w) (sym change) g);
    view = subst (λ (l : List ViewEvent). IsViewAfter l u) (sym (membership-view members cells now e (length made.configs) settings)) i;
  }

  -- a call that the view does not see
  pub joined-still : {n : ℕ} (made : Made C) (e : History) (es : slots.History) (w z : SlotsValue C) (u : ViewValue) (v : GroupValue C)
      → (let parts : GroupValue C = record { group = w; view = u; registry = n } in parts ≡ v) → Stands made e v
      → ((h : slots.History) → core.StandsFor made h w → core.StandsFor made (es ++ h) z)
      → views_of made (in_group es ++ e) ≡ views_of made e
      → (let after : GroupValue C = record { group = z; view = u; registry = n } in Stands made (in_group es ++ e) after)
  joined-still made e es w z u v is s group_ still =
      joined made e es w z u u v is s group_ (λ i. subst (λ (l : List ViewEvent). IsViewAfter l u) (sym still) i)

pub still-done : {A B : Type 0} (k slot : ℕ) (x : slots.SlotEvent) (r : Result A B) (e : History)
    → ((b : Bool) (p : slots.History) → hold_events b x p ≡ [])
    → view_events k (in_group (done_at slot x r) ++ e) ≡ view_events k e
still-done k slot x (Ok a) e none = ap (λ (l : List ViewEvent). l ++ view_events k e) (none (nat_lt slot k) (past_of slot (slot_events e)))
still-done k slot x (Err b) e none = refl

module _ {C : Type 0} where
  pub still-published : (k : ℕ) (b : BuiltValue C) (r : Result Publication (BuiltValue C)) (e : History)
      → view_events k (in_group (publish_events b r) ++ e) ≡ view_events k e
  still-published k b (Ok (told.Published n)) e = refl
  still-published k b (Ok (told.Abandoned n)) e = refl
  still-published k b (Err c) e = refl

  pub still-abandoned : (k : ℕ) (b : BuiltValue C) (r : Result (Unit {0}) (BuiltValue C)) (e : History)
      → view_events k (in_group (abandon_events b r) ++ e) ≡ view_events k e
  still-abandoned k b (Ok u) e = refl
  still-abandoned k b (Err c) e = refl

  pub still-selected : (made : Made C) (slot : ℕ) (s : Selection) (e : History)
      → views_of made (in_group (select_events made slot s) ++ e) ≡ views_of made e
  still-selected made slot s e =
      elim (nat_lt slot (length made.configs)) as
      (λ b. views_of made (in_group (cond b (slots.At slot (slots.Drew s.tickets) ∷ []) []) ++ e) ≡ views_of made e) [
        | true ↦ refl
        | false ↦ refl
      ]

  -- a ticket of a reader, whose events rest on what the slot serves and has retired
  pub joined-ticket : {r : ℕ} (made : Made C) (e : History) (slot n t : ℕ) (w z : SlotsValue C) (u : ViewValue) (v : GroupValue C)
      → (let parts : GroupValue C = record { group = w; view = u; registry = r } in parts ≡ v) → Stands made e v
      → ((h : slots.History) → core.StandsFor made h w → core.StandsFor made (ticket_events made slot n t h ++ h) z)
      → (let after : GroupValue C = record { group = z; view = u; registry = r }
      in Stands made (in_group (ticket_events made slot n t (slot_events e)) ++ e) after)
  joined-ticket {r} made e slot n t w z u v is s group_ =
      let before : Stands made e (record { group = w; view = u; registry = r }) =
      subst (λ (x : GroupValue C). Stands made e x) (sym is) s in
      let es : slots.History = ticket_events made slot n t (slot_events e) in
      let still : views_of made (in_group es ++ e) ≡ views_of made e =
      by-selector (serves made slot n (slot_events e)) (has_retired made slot n (slot_events e)) in
      record {
        few = before.few;
        group = subst (λ (h : slots.History). core.StandsFor made h z) (sym (group-joined es e)) (group_ (slot_events e) before.group);
        view = subst (λ (l : List ViewEvent). IsViewAfter l u) (sym still) before.view;
      }
    where
      by-selector : (b d : Bool)
          → views_of made (in_group (cond b (slots.At slot (slots.Drew ((t + 1) % 2 ^ 64)) ∷ [])
          (cond d (slots.At slot (slots.DrewRetired ((t + 1) % 2 ^ 64)) ∷ []) [])) ++ e)
          ≡ views_of made e
      by-selector true d = refl
      by-selector false true = refl
      by-selector false false = refl

module _ {S C W : Type 0} where
  -- an answer that is a job
  pub job-stands : (made : Made C) (h : slots.History) (slot now : ℕ) (a : Ask S C W) (j : Task C) (w : SlotsValue C) → a ≡ asked.Job j
      → core.StandsFor made (asked_events slot now (ask_told a) ++ h) w → core.StandsFor made (slots.At slot (slots.Granted now) ∷ h) w
  job-stands made h slot now a j w is s = subst (λ (x : Ask S C W). core.StandsFor made (asked_events slot now (ask_told x) ++ h) w) is s

module _ {C : Type 0} where
  -- a job that is held
  pub job-joined : {n : ℕ} (made : Made C) (e : History) (slot now g : ℕ) (w : SlotsValue C) (t : ViewValue) → length made.configs < 2 ^ 64
      → slot < length made.configs
      → core.StandsFor made (slots.At slot (slots.Granted now) ∷ slot_events e) w → g ≡ newest (slot_events e)
      → IsViewAfter (view.Held g ∷ views_of made e) t
      → (let after : GroupValue C = record { group = w; view = t; registry = n } in Stands made (At slot (slots.Granted now) ∷ e) after)
  job-joined made e slot now g w t few inside s at i = record {
    few = few;
    group = s;
    view =
        subst (λ (l : List ViewEvent). IsViewAfter l t) (sym (granted-view (length made.configs) slot now e inside))
        (subst (λ (n : ℕ). IsViewAfter (view.Held n ∷ views_of made e) t) at i);
  }

  -- the snapshot of a job that failed, and of what was destroyed, is released
  pub failed-joined : {n : ℕ} (made : Made C) (e : History) (slot now g : ℕ) (ms : List Member) (c : C) (v : GroupValue C)
      (w : SlotsValue C)
      (t : ViewValue) → Stands made e v
      → slice_get (configs_of v.group) slot ≡ Some c → is_awaited slot g (slot_events e) ≡ true
      → core.StandsFor made (slots.At slot (slots.Failed now ms) ∷ slot_events e) w → IsViewAfter (view.Released g ∷ views_of made e) t
      → (let after : GroupValue C = record { group = w; view = t; registry = n } in Stands made (At slot (slots.Failed now ms) ∷ e) after)
  failed-joined made e slot now g ms c v w t s own up after i = record {
    few = s.few;
    group = after;
    view =
        subst (λ (l : List ViewEvent). IsViewAfter l t)
        (sym (failed-view (length made.configs) slot now g ms e (inside-made made (slot_events e) v.group slot c s.group own)
        (awaited-granted slot g (slot_events e) s.group.possible up))) i;
  }

  pub destroyed-joined : {n : ℕ} (made : Made C) (e : History) (slot g : ℕ) (v : GroupValue C) (w : SlotsValue C) (t : ViewValue)
      → Stands made e v
      → Some g ≡ taken_out_at made slot (slot_events e)
      → core.StandsFor made (slots.At slot slots.Destroyed ∷ slot_events e) w → IsViewAfter (view.Released g ∷ views_of made e) t
      → (let after : GroupValue C = record { group = w; view = t; registry = n } in Stands made (At slot slots.Destroyed ∷ e) after)
  destroyed-joined made e slot g v w t s out after i =
      let is = out-is made slot g (slot_events e) (sym out) in
      record {
        few = s.few;
        group = after;
        view = subst (λ (l : List ViewEvent). IsViewAfter l t) (sym (destroyed-view (length made.configs) slot g e is.0 is.1)) i;
      }

-- what holds of a result's value gives what follows from it
pub if-ok : {A B : Type 0} (r : Result A B) (P Q : A → Type 0) → IfOk r P → ((a : A) → P a → Q a) → IfOk r Q
if-ok (Ok a) P Q p more = more a p
if-ok (Err b) P Q p more = tt

not-false : (b : Bool) → not b ≡ false → b ≡ true
not-false true h = refl
not-false false h = absurd (cc)

module _ {C : Type 0} where
  -- what a prepared membership says
  pub none-change : (made : Made C) (h : slots.History) (members : List Member) (o : Option (PreparedValue C)) → o ≡ None
      → Prepares made h members (Ok o)
      → is_change members h ≡ false
  none-change made h members None is p = p.1
  none-change made h members (Some q) is p = absurd (cc)

  pub some-change : (made : Made C) (h : slots.History) (members : List Member) (o : Option (PreparedValue C)) (q : PreparedValue C)
      → o ≡ Some q → Prepares made h members (Ok o)
      → (is_change members h ≡ true) × (q.members ≡ members)
  some-change made h members None q is p = absurd (cc)
  some-change made h members (Some x) q is p = (p.1, (let same : x ≡ q = cc in ap (λ (z : PreparedValue C). z.members) (sym same)) ∙ p.3)

  -- a membership that the view refuses
  pub refused-schedule : (made : Made C) (e : History) (members : List Member) (w : SlotsValue C) (o : Option (PreparedValue C))
      (r : Refusal)
      → core.StandsFor made (slot_events e) w → Prepares made (slot_events e) members (Ok o) → FitsIfThere w o
      → ((same_members members (membership_after (views_of made e)) ≡ true) → ⊥)
      → (r ≡ refusal.GenerationsExhausted → generation_after (views_of made e) + 1 ≡ 2 ^ 64)
      → (r ≡ refusal.GenerationsExhausted) ⊎ IsRegistryRefusal r
      → Schedules made e members (Err r)
  refused-schedule made e members w None r s p f same last why =
      absurd (same (ap (same_members members) (members-are (length made.configs) e) ∙ not-false (same_members members (members_now e)) p.1))
  refused-schedule made e members w (Some q) r s p f same last (inr why) = inr (p.0, p.1, why)
  refused-schedule made e members w (Some q) r s p f same last (inl why) =
      let end : generation_after (views_of made e) + 1 ≡ 2 ^ 64 = last why in
      let gen : generation_after (views_of made e) ≡ newest (slot_events e) = generation-is (length made.configs) e in
      let is : w.newest ≡ newest (slot_events e) = ap (λ (z : SlotsValue C). z.newest) s.shows in
      let few : w.newest + 1 < 2 ^ 64 = f.bounded in
      absurd (omega (arith, end, gen, is, few))

-- of a result that is an error, what it is refused for
pub error-is : {A : Type 0} (r c : Refusal) → (let one : Result A Refusal = Err r in let other : Result A Refusal = Err c in one ≡ other)
    → r ≡ c
error-is r c h = cc

pub view-refused : {A : Type 0} (r : Refusal) → (let it : Result A Refusal = Err r in IsViewRefusal it) → (r ≡ refusal.GenerationsExhausted)
    ⊎ IsRegistryRefusal r
view-refused {A} r (inl h) = inl (error-is {A = A} r refusal.GenerationsExhausted h)
view-refused {A} r (inr (inl h)) = inr (inl (error-is {A = A} r refusal.OutOfMemory h))
view-refused {A} r (inr (inr (inl h))) = inr (inr (inl (error-is {A = A} r refusal.NumbersExhausted h)))
view-refused {A} r (inr (inr (inr h))) = inr (inr (inr (error-is {A = A} r refusal.NoSuch h)))

module _ {S C W : Type 0} where
  -- an answer that is no job
  pub other-joined : {n : ℕ} (made : Made C) (e : History) (slot now : ℕ) (a : Ask S C W) (w : SlotsValue C) (u : ViewValue)
      → length made.configs < 2 ^ 64
      → ((j : Task C) → a ≡ asked.Job j → ⊥)
      → core.StandsFor made (asked_events slot now (ask_told a) ++ slot_events e) w → IsViewAfter (views_of made e) u
      → (let after : GroupValue C = record { group = w; view = u; registry = n }
      in Stands made (in_group (asked_events slot now (ask_told a)) ++ e) after)
  other-joined made e slot now asked.Cancelled w u few never s i = record { few = few; group = s; view = i }
  other-joined made e slot now asked.Building w u few never s i = record { few = few; group = s; view = i }
  other-joined made e slot now asked.Nothing w u few never s i = record { few = few; group = s; view = i }
  other-joined made e slot now (asked.NotDue m) w u few never s i = record { few = few; group = s; view = i }
  other-joined made e slot now asked.Busy w u few never s i = record { few = few; group = s; view = i }
  other-joined made e slot now (asked.Job j) w u few never s i = absurd (never j refl)
