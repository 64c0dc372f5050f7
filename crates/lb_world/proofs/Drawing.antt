-- A selection that memory was refused to has drawn few tickets, and changed nothing but their counter.
use Rattle.std.proofs.Common.{◌≡◌, inl, inr, ◌≤◌, ◌+◌, ◌*◌, ◌/◌, ◌%◌, ◌^◌, ◌==◌, ◌&&◌, ◌∙◌, ℕ, Bool, true, false, cond, List, [], ◌∷◌}
use Rattle.std.proofs.Common.{length, refl, sym, ap, subst, arith}
use Rattle.std.proofs.Math.Nat.{mod-add-div, add-mul-mod_self_left}
use Rattle.std.specs.Prelude.{max, nat_le, Option, Some, None, Result, Ok, Err, slice_get, MatchBool, MatchOption}
use Rattle.lb_select_base.specs.Backends.{Member, same_member}
use Rattle.lb_select_base.specs.Draws.{Draw, ticket, random, load, Gives, HandedValue, LoadedGives, words_in}
use Rattle.lb_select_base.specs.Selections.{Selects}
use Rattle.lb_select_base.specs.declared.refusal.Refusal.{Refusal}
use Rattle.lb_select_base.specs.declared.refusal.Refusal.TheVariants as refusal
use Rattle.lb_rebuild_core.specs.GroupHistory as group
use Rattle.lb_rebuild_core.specs.SlotsHistory as slots
use Rattle.lb_world.specs.Steps.{Step}
use Rattle.lb_world.specs.Steps as step
use Rattle.lb_world.specs.declared.answer.Answer.{Answer}
use Rattle.lb_world.specs.declared.answer.Answer.TheVariants as answer
use Rattle.lb_world.specs.Meanings.{Meaning}
use Rattle.lb_world.specs.History.{History, Made, is_at, config_in, drew, made_at, gate_of, slot_events, past, is_grant, is_failure}
use Rattle.lb_world.specs.History.{is_destruction, is_out, load_of}
use Rattle.lb_world.specs.Shared.{registry_at, registry_events}
use Rattle.lb_world.specs.GroupEvents.{group_events, cells_in, cells_of, view_events, views_in}
use Rattle.lb_world.specs.History.{count_on}
use Rattle.lb_world.specs.Answers.{IsRun, SelectAnswers, SelectsIn, Judges, refuse, selected}
use Rattle.lb_world.specs.Refused.{DrewAlone, RefusedStays}
use Rattle.lb_world.proofs.Unrefused.{as-before}
use Rattle.lb_world.proofs.Placing.{same-either}
use Rattle.lb_world.proofs.Refusing.{ap2, none-more}
use Rattle.lb_world.proofs.Own.{group-of}

-- what was drawn at a slot is the group's own alone: its view has none of it, and no generation's cells are others
module _ {C : Type 0} {h now : History C} {g s limit t : ℕ} (d : DrewAlone h now g s limit t) where
  pub own-drawn : (i : ℕ) → slot_events i now ≡ cond (g == i) (slots.At s (slots.Drew t) ∷ slot_events i h) (slot_events i h)
  own-drawn i =
      sym (group-of i now) ∙ ap group.slot_events (d.joined i)
      ∙ either-events (g == i) ∙ ap (λ (k : slots.History). cond (g == i) (slots.At s (slots.Drew t) ∷ k) k) (group-of i h)
    where
      either-events : (b : Bool) → group.slot_events (cond b (group.At s (slots.Drew t) ∷ group_events i h) (group_events i h))
          ≡ cond b (slots.At s (slots.Drew t) ∷ group.slot_events (group_events i h)) (group.slot_events (group_events i h))
      either-events true = refl
      either-events false = refl

  pub views-kept : (i : ℕ) → view_events i now ≡ view_events i h
  views-kept i =
      ap2 views_in (ap (λ (ms : List (Made C)). slice_get ms i) d.rest.groups_made) (d.joined i)
      ∙ either-views (made_at i h) (g == i)
    where
      either-views : (m : Option (Made C)) (b : Bool)
          → views_in m (cond b (group.At s (slots.Drew t) ∷ group_events i h) (group_events i h)) ≡ views_in m (group_events i h)
      either-views None b = refl
      either-views (Some m) true = refl
      either-views (Some m) false = refl

  pub cells-kept : (i n : ℕ) → cells_of i n now ≡ cells_of i n h
  cells-kept i n = ap (cells_in n) (d.joined i) ∙ either-cells (g == i)
    where
      either-cells : (b : Bool) → cells_in n (cond b (group.At s (slots.Drew t) ∷ group_events i h) (group_events i h))
          ≡ cells_in n (group_events i h)
      either-cells true = refl
      either-cells false = refl

-- the counter goes on by as many tickets as were drawn
further : (s m u whole : ℕ) → u + whole ≡ s + 1 → s + (m + 1) ≡ u + m + whole
further s m u whole e = omega arith

one-more : (t s m u : ℕ) → u ≡ (s + 1) % 2 ^ 64 → t % 2 ^ 64 ≡ (u + m) % 2 ^ 64 → t % 2 ^ 64 ≡ (s + (m + 1)) % 2 ^ 64
one-more t s m u is e =
    let whole : u + 2 ^ 64 * ((s + 1) / 2 ^ 64) ≡ s + 1 = ap (λ (x : ℕ). x + 2 ^ 64 * ((s + 1) / 2 ^ 64)) is
    ∙ mod-add-div (s + 1) (2 ^ 64) in
    e
    ∙ sym
    (ap (λ (x : ℕ). x % 2 ^ 64) (further s m u (2 ^ 64 * ((s + 1) / 2 ^ 64)) whole)
    ∙ add-mul-mod_self_left (u + m) (2 ^ 64) ((s + 1) / 2 ^ 64))

drawn-by : (L : Member → ℕ) (ds : List Draw) (s t : HandedValue) → Gives (LoadedGives L) s ds t
    → (n : ℕ) × (n ≤ words_in ds) × (t.tickets % 2 ^ 64 ≡ (s.tickets + n) % 2 ^ 64)
drawn-by L [] s t g = (0, omega arith, ap (λ (x : HandedValue). x.tickets % 2 ^ 64) (sym g) ∙ ap (λ (x : ℕ). x % 2 ^ 64) (omega arith))
drawn-by L (ticket w ∷ ds) s t g =
    let r = drawn-by L ds g.0 t g.2 in
    (r.0 + 1, omega (arith, r.1), one-more t.tickets s.tickets r.0 g.0.tickets g.1.1 r.2)
drawn-by L (random w ∷ ds) s t g =
    let r = drawn-by L ds g.0 t g.2 in
    (r.0, omega (arith, r.1), r.2 ∙ ap (λ (x : ℕ). (x + r.0) % 2 ^ 64) g.1.1)
drawn-by L (load m l ∷ ds) s t g =
    let r = drawn-by L ds g.0 t g.2 in
    (r.0, omega (arith, r.1), r.2 ∙ ap (λ (x : HandedValue). (x.tickets + r.0) % 2 ^ 64) g.1.1)

within : (n w c limit : ℕ) → n ≤ w → w ≤ max 1 c → c ≤ limit → n ≤ limit + 1
within n w c limit a b d = omega arith

-- how many tickets a counter went on by
abbrev Few : ℕ → ℕ → ℕ → Type 0
Few from limit t = (n : ℕ) × (n ≤ limit + 1) × (t % 2 ^ 64 ≡ (from + n) % 2 ^ 64)

not-selected : (t u : ℕ) (r : Result (Option Member) Refusal) → answer.NotSelected t ≡ selected u r → (e : Refusal) × (r ≡ Err e) × (t ≡ u)
not-selected t u (Ok None) e = absurd (cc)
not-selected t u (Ok (Some b)) e = absurd (cc)
not-selected t u (Err x) e = (x, refl, cc)

-- a walk draws at most one word for each candidate, and one where there is none
abbrev pub DrawsFew : {C : Type 0} → Meaning C → Type 0
DrawsFew {C} M =
    (ms : List Member) (c : C) (key : List ℕ) (ds : List Draw) (cs : List Member) (ended : Bool) → M.walks ms c key ds cs ended
    → words_in ds ≤ max 1 (length cs)

module _ {C : Type 0} (M : Meaning C) (few : DrawsFew M) (h : History C) (g s : ℕ) (key : List ℕ) (limit : ℕ) (words : List ℕ) (t : ℕ) where
  few-drawn : (n : ℕ) (c : C) (u : HandedValue) (x : Refusal)
      → Selects same_member (Judges h g n) limit (LoadedGives (λ b. load_of g b h))
      (M.walks (slots.members_of n (slot_events g h)) c key)
      (record { tickets = slots.drawn (past g s h); words = words }) (Err x) u
      → Few (slots.drawn (past g s h)) limit u.tickets
  few-drawn n c u x found = elim found.1 [
    | inl same ↦ (0, omega arith, ap (λ (v : HandedValue). v.tickets % 2 ^ 64) same ∙ ap (λ (i : ℕ). i % 2 ^ 64) (omega arith))
    | inr walk ↦
        let r = drawn-by (λ b. load_of g b h) walk.1.draws (record { tickets = slots.drawn (past g s h); words = words }) u walk.1.drawn in
        let most = few (slots.members_of n (slot_events g h)) c key walk.1.draws walk.0 false walk.1.walked in
        (r.0, within r.0 (words_in walk.1.draws) (length walk.0) limit r.1 most walk.2, r.2)
  ]

  few-in : (b : Bool) (n : ℕ) (c : C)
      → MatchBool b (answer.NotSelected t ≡ refuse refusal.NotEnoughWords)
      ((q : Result (Option Member) Refusal) × (u : HandedValue)
      × Selects same_member (Judges h g n) limit (LoadedGives (λ x. load_of g x h))
      (M.walks (slots.members_of n (slot_events g h)) c key)
      (record { tickets = slots.drawn (past g s h); words = words }) q u
      × (answer.NotSelected t ≡ selected u.tickets q))
      → Few (slots.drawn (past g s h)) limit t
  few-in true n c right = absurd (cc)
  few-in false n c right =
      let is = not-selected t right.1.tickets right.0 right.3 in
      subst (λ (i : ℕ). Few (slots.drawn (past g s h)) limit i) (sym is.2)
      (few-drawn n c right.1 is.0
      (subst
      (λ (q : Result (Option Member) Refusal).
      Selects same_member (Judges h g n) limit (LoadedGives (λ x. load_of g x h))
      (M.walks (slots.members_of n (slot_events g h)) c key)
      (record { tickets = slots.drawn (past g s h); words = words }) q right.1)
      is.1 right.2))

  slot-few : (o : Option C) (n : ℕ)
      → MatchOption o (answer.NotSelected t ≡ answer.NoBackend 0) (λ c. SelectsIn M h g s n c key limit words (answer.NotSelected t))
      → ((c : C) × (o ≡ Some c)) × Few (slots.drawn (past g s h)) limit t
  slot-few None n right = absurd (cc)
  slot-few (Some c) n right =
      ((c, refl), few-in (M.random (slots.members_of n (slot_events g h)) c && nat_le (length words) limit) n c right)

  there-few : (o : Option (Made C))
      → MatchOption o (answer.NotSelected t ≡ refuse refusal.NoSuch)
      (λ m.
      MatchOption (slice_get m.configs s) (answer.NotSelected t ≡ answer.NoBackend 0)
      (λ c. SelectsIn M h g s (slots.served (past g s h)) c key limit words (answer.NotSelected t)))
      → ((c : C) × (config_in s o ≡ Some c)) × Few (slots.drawn (past g s h)) limit t
  there-few None right = absurd (cc)
  there-few (Some m) right = slot-few (slice_get m.configs s) (slots.served (past g s h)) right

  pub drew-alone : SelectAnswers M h g s key limit words (answer.NotSelected t)
      → DrewAlone h ((step.select g s key limit words, answer.NotSelected t) ∷ h) g s limit t
  drew-alone right =
      let x = there-few (made_at g h) right in
      record {
        tickets = x.1.0;
        few = x.1.1;
        counter = x.1.2;
        joined =
            λ i. ap (λ (o : Option C). cond (g == i) (drew o s t (group_events i h)) (group_events i h)) x.0.1;
        rest =
            record {
              registries_made = refl;
              gates_made = refl;
              groups_made = refl;
              readers = refl;
              works = λ i r. refl;
              shared = λ r. same-either (is_at r (registry_at h (step.select g s key limit words))) (registry_events r h);
              outs = λ a. same-either (is_at a (gate_of g h)) (is_out a h);
              grants = λ a. none-more (count_on is_grant a h);
              failures = λ a. none-more (count_on is_failure a h);
              destructions = λ a. none-more (count_on is_destruction a h);
              loads = λ i b. refl;
            };
      }

module _ {C : Type 0} (M : Meaning C) (few : DrawsFew M) where
  pub refused-stays : (h : History C) (st : Step C) (a : Answer) → IsRun M ((st, a) ∷ h) → RefusedStays M h st a
  refused-stays h st (answer.Refused r) run = as-before M h st r
  refused-stays h (step.select g s key limit words) (answer.NotSelected t) run = drew-alone M few h g s key limit words t run.1
  refused-stays h st a run = tt
