-- After histories that tell alike the same answers are right; so what comes after a refused step is a run without it too.
use Rattle.std.proofs.Common.{◌≡◌, ◌⊎◌, ◌+◌, ◌-◌, ◌==◌, ◌∙◌, not, ℕ, Bool, true, false, cond, List, [], ◌∷◌, ◌++◌, length, map, refl, ap}
use Rattle.std.proofs.Common.{subst}
use Rattle.std.proofs.Math.Path.{fun_ext}
use Rattle.std.specs.Prelude.{◌↔◌, ◌&&◌, IsTrue, nat_lt, nat_le, Option, Some, None, Result, slice_get, MatchBool, MatchOption}
use Rattle.lb_select_base.specs.Backends.{Member, same_member}
use Rattle.lb_select_base.specs.Draws.{HandedValue, LoadedGives}
use Rattle.lb_select_base.specs.Refusals.{earlier, least}
use Rattle.lb_select_base.specs.Selections.{Selects}
use Rattle.lb_select_base.specs.declared.refusal.Refusal.{Refusal}
use Rattle.lb_select_base.specs.declared.refusal.Refusal.TheVariants as refusal
use Rattle.lb_health_core.specs.Registry.{targets_after}
use Rattle.lb_health_core.specs.RegistryEvents as registry
use Rattle.lb_health_view.specs.RegistrySide.{IsReady}
use Rattle.lb_health_view.specs.ViewEvents.{ViewEvent}
use Rattle.lb_rebuild_core.specs.SlotsHistory as slots
use Rattle.lb_rebuild_core.specs.SlotsCalls.{is_change, schedule_refusal, is_served}
use Rattle.lb_world.specs.Steps.{Step}
use Rattle.lb_world.specs.Steps as step
use Rattle.lb_world.specs.declared.answer.Answer.{Answer}
use Rattle.lb_world.specs.declared.answer.Answer.TheVariants as answer
use Rattle.lb_world.specs.Meanings.{Meaning}
use Rattle.lb_world.specs.History.{History, RegistryMade, Made, Entered, Work, members_in, registries, made_at, config, entries}
use Rattle.lb_world.specs.History.{slot_events, past, is_free, load_of}
use Rattle.lb_world.specs.Shared.{key_by, registry_events}
use Rattle.lb_world.proofs.Accepted.{right_answer}
use Rattle.lb_world.specs.Answers.{Answers, IsRun, Judges, ReadyAnswers, VerdictAnswers, SelectsIn, SelectAnswers, without_memory, refuse}
use Rattle.lb_world.specs.Answers.{unless_refused, at_one, at_backend, no_such, no_number, has_refused, update_answer, asked}
use Rattle.lb_world.specs.Answers.{built_or_failed, of_job, of_built, flight_of, lost_answer, enter_answer, leave_answer, destroy_refusal}
use Rattle.lb_world.specs.Answers.{numbers_of, selected}
use Rattle.lb_world.specs.Refused.{TellsAlike, AnswersAlike, IsAsBefore, unrefused}
use Rattle.lb_world.proofs.Refusing.{ap2, ap3, refused-alike, alike-sym, alike-then, at-alike, config-alike, key-alike, events-alike}
use Rattle.lb_world.proofs.Refusing.{past-alike, alike-step, groups-alike, views-alike}

-- at what is there, alike
at-one-alike : {A : Type 0} (o p : Option A) (f d : A → Answer) → o ≡ p → ((x : A) → f x ≡ d x) → at_one o f ≡ at_one p d
at-one-alike o p f d e alike = ap (λ (q : Option _). at_one q f) e ∙ each p
  where
    each : (q : Option _) → at_one q f ≡ at_one q d
    each None = refl
    each (Some x) = alike x

module _ {C : Type 0} (M : Meaning C) (k h : History C) (e : TellsAlike k h) where
  there : (r : ℕ) → slice_get (registries k) r ≡ slice_get (registries h) r
  there r = ap (λ (rs : List RegistryMade). slice_get rs r) e.rest.registries_made

  abbrev grouped : (there : Bool) (es : List registry.Event) (n : ℕ) (configs : List C) → Answer
  grouped there es n configs =
      unless_refused
      (earlier (no_such there) (earlier (least (map (M.refusal []) configs)) (no_number (registry.registered_after es + 1))))
      (answer.Group n)

  free-alike : (a : ℕ) → is_free a k ≡ is_free a h
  free-alike a = ap3 (λ J F D. J - F - D == 0) (e.rest.grants a) (e.rest.failures a) (e.rest.destructions a)

  -- the answer that is right where memory is at hand
  answer-alike : (st : Step C) → right_answer M k st ≡ right_answer M h st
  answer-alike (step.registry rule healthy) = ap (λ (rs : List RegistryMade). answer.Registry (length rs)) e.rest.registries_made
  answer-alike step.gate = ap answer.Gate e.rest.gates_made
  answer-alike (step.group r a configs) =
      ap3
      (λ (rs : List RegistryMade) (p : ℕ × List registry.Event) (ms : List (Made C)).
      grouped (nat_lt r (length rs) && nat_lt a p.0) p.1 (length ms) configs)
      e.rest.registries_made (ap2 (λ (n : ℕ) (es : List registry.Event). (n, es)) e.rest.gates_made (e.rest.shared r)) e.rest.groups_made
  answer-alike (step.update g now listings) =
      ap (cond (has_refused listings) (refuse refusal.InvalidAddress))
      (at-one-alike (made_at g k) (made_at g h) _ _ (at-alike k h e g)
      (λ m.
      ap3
      (λ (x : slots.History) (key : Member → Member) (es : List registry.Event).
      unless_refused
      (earlier (schedule_refusal (members_in listings) x)
      (cond (is_change (members_in listings) x)
      (no_number (registry.cells_given key (registry.Updated m.view (members_in listings) ∷ registry.Applied ∷ es)))
      None))
      (update_answer (slots.newest x) (is_change (members_in listings) x)))
      (groups-alike k h e g) (key-alike k h e g) (e.rest.shared m.registry)))
  answer-alike (step.ask g s now) =
      at-one-alike (made_at g k) (made_at g h) _ _ (at-alike k h e g)
      (λ m.
      ap2
      (λ (x : slots.History) (free : Bool).
      at_one (slice_get m.configs s) (λ c. asked (slots.newest x) (slots.ask_answer (slots.past_of s x) (not free) now)))
      (groups-alike k h e g) (free-alike m.gate))
  answer-alike (step.build g s now) =
      at-one-alike (config g s k) (config g s h) _ _ (config-alike k h e g s)
      (λ c.
      ap2
      (λ (w : Work) (x : slots.History).
      of_job w
      (built_or_failed (slots.granted (slots.past_of s x)) (M.refusal (slots.members_of (slots.granted (slots.past_of s x)) x) c)))
      (e.rest.works g s) (groups-alike k h e g))
  answer-alike (step.failbuild g s now) =
      at-one-alike (config g s k) (config g s h) _ _ (config-alike k h e g s)
      (λ c. ap2 (λ (w : Work) (p : slots.History). of_job w (answer.Failed (slots.granted p))) (e.rest.works g s) (past-alike k h e g s))
  answer-alike (step.lost g s) =
      at-one-alike (config g s k) (config g s h) _ _ (config-alike k h e g s)
      (λ c. ap (λ (p : slots.History). lost_answer (flight_of (slots.extra p))) (past-alike k h e g s))
  answer-alike (step.publish g s) =
      at-one-alike (config g s k) (config g s h) _ _ (config-alike k h e g s)
      (λ c.
      ap2
      (λ (w : Work) (x : slots.History).
      of_built w
      (cond (is_served s x) (answer.Published (slots.granted (slots.past_of s x))) (answer.Abandoned (slots.granted (slots.past_of s x)))))
      (e.rest.works g s) (groups-alike k h e g))
  answer-alike (step.abandon g s) =
      at-one-alike (config g s k) (config g s h) _ _ (config-alike k h e g s)
      (λ c. ap2 (λ (w : Work) (p : slots.History). of_built w (answer.Abandoned (slots.granted p))) (e.rest.works g s)
      (past-alike k h e g s))
  answer-alike (step.enter g s) =
      at-one-alike (config g s k) (config g s h) _ _ (config-alike k h e g s)
      (λ c.
      ap2
      (λ (p : slots.History) (es : List (Option Entered)).
      enter_answer (slots.readers (slots.served p) p) (length es) (slots.served p))
      (past-alike k h e g s) e.rest.readers)
  answer-alike (step.ready t b) = refl
  answer-alike (step.leave t) = ap (λ (es : List (Option Entered)). leave_answer (slice_get es t)) e.rest.readers
  answer-alike (step.destroy g s) =
      at-one-alike (config g s k) (config g s h) _ _ (config-alike k h e g s)
      (λ c. ap (λ (p : slots.History). unless_refused (destroy_refusal p) answer.Destroyed) (past-alike k h e g s))
  answer-alike (step.select g s key limit words) = refl
  answer-alike (step.verdict r c ok threshold) = refl
  answer-alike (step.enable g b) = ap (λ (o : Option (Made C)). at_backend b (at_one o (λ m. answer.Done))) (at-alike k h e g)
  answer-alike (step.disable g b) = ap (λ (o : Option (Made C)). at_backend b (at_one o (λ m. answer.Done))) (at-alike k h e g)
  answer-alike (step.cancel g) = ap (λ (o : Option (Made C)). at_one o (λ m. answer.Cancelled)) (at-alike k h e g)
  answer-alike (step.targets r) =
      at-one-alike (slice_get (registries k) r) (slice_get (registries h) r) _ _ (there r)
      (λ m.
      ap (λ (es : List registry.Event). answer.Targets (targets_after (key_by m.rule) (registry.Applied ∷ es))) (e.rest.shared r))
  answer-alike (step.counts g s) =
      at-one-alike (config g s k) (config g s h) _ _ (config-alike k h e g s)
      (λ c. ap (λ (p : slots.History). answer.Numbers (numbers_of p)) (past-alike k h e g s))
  answer-alike (step.timing g s) =
      at-one-alike (config g s k) (config g s h) _ _ (config-alike k h e g s)
      (λ c. ap (λ (p : slots.History). answer.Timed (slots.timing p)) (past-alike k h e g s))
  answer-alike (step.load g b load) = ap (λ (o : Option (Made C)). at_backend b (at_one o (λ m. answer.Done))) (at-alike k h e g)

  -- judgements are the same relation
  judges-alike : (g n : ℕ) → Judges k g n ≡ Judges h g n
  judges-alike g n =
      let by : (Member → Member) → List ViewEvent → List registry.Event → Member → Bool → Type 0 =
      λ key views es b is. IsTrue is ↔ IsReady key views es n b in
      ap3 by (key-alike k h e g) (views-alike k h e g) (events-alike k h e g)

  loads-alike : (g : ℕ) → ◌≡◌ {A = Member → ℕ} (λ b. load_of g b k) (λ b. load_of g b h)
  loads-alike g = fun_ext (λ b. e.rest.loads g b)

  ready-follows : (o : Option (Option Entered)) (b : Option Member) (a : Answer) → ReadyAnswers k o b a → ReadyAnswers h o b a
  ready-follows o None a right = right
  ready-follows None (Some b) a right = right
  ready-follows (Some None) (Some b) a right = right
  ready-follows (Some (Some x)) (Some b) a right =
      (right.0, right.1, subst (λ (J : Member → Bool → Type 0). J b right.0) (judges-alike x.group x.generation) right.2)

  option-follows : {A : Type 0} (o : Option A) (X : Type 0) (F D : A → Type 0) → ((x : A) → F x → D x) → MatchOption o X F
      → MatchOption o X D
  option-follows None X F D follows right = right
  option-follows (Some x) X F D follows right = follows x right

  bool-follows : (b : Bool) (X Y Z : Type 0) → (Y → Z) → MatchBool b X Y → MatchBool b X Z
  bool-follows true X Y Z follows right = right
  bool-follows false X Y Z follows right = follows right

  selects-follow : (g s n : ℕ) (c : C) (key : List ℕ) (limit : ℕ) (words : List ℕ) (a : Answer)
      → SelectsIn M k g s n c key limit words a → SelectsIn M h g s n c key limit words a
  selects-follow g s n c key limit words a right =
      subst
      (λ (J : Member → Bool → Type 0).
      MatchBool (M.random (slots.members_of n (slot_events g h)) c && nat_le (length words) limit)
      (a ≡ refuse refusal.NotEnoughWords)
      ((r : Result (Option Member) Refusal) × (t : HandedValue)
      × Selects same_member J limit (LoadedGives (λ b. load_of g b h))
      (M.walks (slots.members_of n (slot_events g h)) c key)
      (record { tickets = slots.drawn (past g s h); words = words }) r t
      × (a ≡ selected t.tickets r)))
      (judges-alike g n)
      (subst
      (λ (L : Member → ℕ).
      MatchBool (M.random (slots.members_of n (slot_events g h)) c && nat_le (length words) limit)
      (a ≡ refuse refusal.NotEnoughWords)
      ((r : Result (Option Member) Refusal) × (t : HandedValue)
      × Selects same_member (Judges k g n) limit (LoadedGives L)
      (M.walks (slots.members_of n (slot_events g h)) c key)
      (record { tickets = slots.drawn (past g s h); words = words }) r t
      × (a ≡ selected t.tickets r)))
      (loads-alike g)
      (subst
      (λ (x : slots.History).
      MatchBool (M.random (slots.members_of n x) c && nat_le (length words) limit)
      (a ≡ refuse refusal.NotEnoughWords)
      ((r : Result (Option Member) Refusal) × (t : HandedValue)
      × Selects same_member (Judges k g n) limit (LoadedGives (λ b. load_of g b k))
      (M.walks (slots.members_of n x) c key)
      (record { tickets = slots.drawn (slots.past_of s x); words = words }) r t
      × (a ≡ selected t.tickets r)))
      (groups-alike k h e g) right))

  select-follows : (g s : ℕ) (key : List ℕ) (limit : ℕ) (words : List ℕ) (a : Answer)
      → SelectAnswers M k g s key limit words a → SelectAnswers M h g s key limit words a
  select-follows g s key limit words a right =
      subst
      (λ (o : Option (Made C)).
      MatchOption o (a ≡ refuse refusal.NoSuch)
      (λ m.
      MatchOption (slice_get m.configs s) (a ≡ answer.NoBackend 0)
      (λ c. SelectsIn M h g s (slots.served (past g s h)) c key limit words a)))
      (at-alike k h e g)
      (option-follows (made_at g k) (a ≡ refuse refusal.NoSuch) _ _
      (λ m r.
      option-follows (slice_get m.configs s) (a ≡ answer.NoBackend 0) _ _
      (λ c x.
      subst (λ (p : slots.History). SelectsIn M h g s (slots.served p) c key limit words a) (past-alike k h e g s)
      (selects-follow g s (slots.served (past g s k)) c key limit words a x))
      r)
      right)

  plain-follows : (st : Step C) (a : Answer)
      → (a ≡ right_answer M k st) ⊎ (a ≡ without_memory st (right_answer M k st))
      → (a ≡ right_answer M h st) ⊎ (a ≡ without_memory st (right_answer M h st))
  plain-follows st a right =
      subst (λ (b : Answer). (a ≡ b) ⊎ (a ≡ without_memory st b)) (answer-alike st) right

  pub answers-follow : (st : Step C) (a : Answer) → Answers M k st a → Answers M h st a
  answers-follow (step.ready t b) a right =
      subst (λ (es : List (Option Entered)). ReadyAnswers h (slice_get es t) b a) e.rest.readers
      (ready-follows (slice_get (entries k) t) b a right)
  answers-follow (step.select g s key limit words) a right = select-follows g s key limit words a right
  answers-follow (step.verdict r c ok threshold) a right =
      subst
      (λ (o : Option RegistryMade).
      MatchOption o (a ≡ refuse refusal.NoSuch) (λ m. VerdictAnswers (key_by m.rule) (registry_events r h) c ok threshold a))
      (there r)
      (subst
      (λ (es : List registry.Event).
      MatchOption (slice_get (registries k) r) (a ≡ refuse refusal.NoSuch) (λ m. VerdictAnswers (key_by m.rule) es c ok threshold a))
      (e.rest.shared r) right)
  answers-follow st a right = plain-follows st a right

module _ {C : Type 0} (M : Meaning C) where
  pub answers-alike : (k h : History C) → TellsAlike k h → AnswersAlike M k h
  answers-alike k h e st a = (answers-follow M k h e st a, answers-follow M h k (alike-sym k h e) st a)

  -- after the same further steps too
  pub told-later : (later k h : History C) → TellsAlike k h → TellsAlike (later ++ k) (later ++ h)
  told-later [] k h e = e
  told-later ((st, a) ∷ later) k h e = alike-step (later ++ k) (later ++ h) (told-later later k h e) st a

  run-follows : (later k h : History C) → TellsAlike k h → (IsRun M k → IsRun M h) → IsRun M (later ++ k) → IsRun M (later ++ h)
  run-follows [] k h e base run = base run
  run-follows ((st, a) ∷ later) k h e base run =
      (run-follows later k h e base run.0, answers-follow M (later ++ k) (later ++ h) (told-later later k h e) st a run.1)

  pub as-before : (h : History C) (st : Step C) (r : Refusal) → IsAsBefore M h st (answer.Refused r)
  as-before h st r =
      let now : History C = (st, answer.Refused r) ∷ h in
      let e : TellsAlike now h = refused-alike h st r in
      record {
        told = λ later. told-later later now h e;
        answered = λ later. answers-alike (later ++ now) (later ++ h) (told-later later now h e);
        run =
            λ later right. (
              run-follows later now h e (λ run. run.0),
              run-follows later h now (alike-sym now h e) (λ run. (run, right)),
            );
      }

  -- without any of them
  pub told-unrefused : (h : History C) → TellsAlike h (unrefused h)
  told-unrefused [] =
      record {
        rest =
            record {
              registries_made = refl;
              gates_made = refl;
              groups_made = refl;
              readers = refl;
              works = λ g s. refl;
              shared = λ r. refl;
              outs = λ a. refl;
              grants = λ a. refl;
              failures = λ a. refl;
              destructions = λ a. refl;
              loads = λ g b. refl;
            };
        joined = λ g. refl;
      }
  told-unrefused ((st, answer.Refused r) ∷ h) =
      alike-then ((st, answer.Refused r) ∷ h) h (unrefused h) (refused-alike h st r) (told-unrefused h)
  told-unrefused ((st, a) ∷ h) = alike-step h (unrefused h) (told-unrefused h) st a

  pub run-unrefused : (h : History C) → IsRun M h → IsRun M (unrefused h)
  run-unrefused [] run = run
  run-unrefused ((st, answer.Refused r) ∷ h) run = run-unrefused h run.0
  run-unrefused ((st, a) ∷ h) run =
      (run-unrefused h run.0, answers-follow M h (unrefused h) (told-unrefused h) st a run.1)
