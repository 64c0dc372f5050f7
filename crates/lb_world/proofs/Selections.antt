-- The right answer to a selection, by what the call of a joined group says of it, and where it left the counter of its slot.
use Rattle.std.proofs.Common.{◌≡◌, ◌⊎◌, ◌&&◌, ◌++◌, ◌∙◌, ℕ, Bool, true, false, cond, nat_le, nat_lt, List, [], ◌∷◌, length, inl, inr, refl}
use Rattle.std.proofs.Common.{sym, ap, subst}
use Rattle.std.specs.Prelude.{MatchOption, Option, Some, None, Result, Ok, Err, slice_get}
use Rattle.std.specs.Option.{option_map}
use Rattle.std.proofs.lemmas.Bool.{le-ltb, lt-ltb}
use Rattle.std.proofs.lemmas.Option.{slice_get_cases, slice_get_within}
use Rattle.lb_select_base.specs.Backends.{Member, same_member}
use Rattle.lb_select_base.specs.Draws.{Draw, LoadedGives}
use Rattle.lb_select_base.specs.Selections.{Selects}
use Rattle.lb_select_base.specs.declared.refusal.Refusal.{Refusal}
use Rattle.lb_select_base.specs.declared.refusal.Refusal.TheVariants as refusal
use Rattle.lb_select_base.proofs.SelectionsSeen.{selects-more}
use Rattle.lb_rebuild_core.specs.Drawn.{DrawnGives, DrawnValue}
use Rattle.lb_rebuild_core.specs.SlotsCalls as calls
use Rattle.lb_rebuild_core.specs.SlotsHistory as slots
use Rattle.lb_rebuild_core.specs.SlotsHistory.{At, Drew, drawn, members_of, past_of, served, served_members}
use Rattle.lb_rebuild_core.specs.SlotCalls.{SelectsFrom}
use Rattle.lb_rebuild_core.specs.Stands as group-made
use Rattle.lb_rebuild_core.specs.declared.answers.Selection.{Selection}
use Rattle.lb_rebuild_core.proofs.Pasts.{members-past}
use Rattle.lb_rebuild_core.proofs.Selecting.{handed-selects}
use Rattle.lb_rebuild_core.specs.GroupCalls as joined-calls
use Rattle.lb_rebuild_core.specs.GroupCalls.{after_select, served_at}
use Rattle.lb_rebuild_core.specs.GroupHistory as group
use Rattle.lb_rebuild_core.specs.GroupHistory.{in_group}
use Rattle.lb_world.specs.Steps.{Step}
use Rattle.lb_world.specs.Steps as step
use Rattle.lb_world.specs.declared.answer.Answer.{Answer}
use Rattle.lb_world.specs.declared.answer.Answer.TheVariants as answer
use Rattle.lb_world.specs.Meanings.{Meaning}
use Rattle.lb_world.specs.History.{History, Made, config, config_in, slot_events, load_of, made_at, past, registry_of}
use Rattle.lb_world.specs.Shared.{key_of, registry_events}
use Rattle.lb_world.specs.Answers.{IsRun, Judges, SelectAnswers, SelectsIn, refuse, selected}
use Rattle.lb_world.specs.GroupEvents.{group_events}
use Rattle.lb_world.proofs.Promised.{members-kept}
use Rattle.lb_world.proofs.Together.{views-of}
use Rattle.lb_world.proofs.Own.{drew, group-of, group_after_step}

-- a selection is refused for memory alone
for-memory : {S : Type 0} (accepts : Member → Bool → Type 0) (limit : ℕ) (gives : S → Draw → S → Type 0)
    (walks : List Draw → List Member → Bool → Type 0) (s t : S) (r : Result (Option Member) Refusal)
    → Selects same_member accepts limit gives walks s r t → (e : Refusal) → r ≡ Err e → e ≡ refusal.OutOfMemory
for-memory accepts limit gives walks s t (Ok o) is e to = absurd (cc)
for-memory accepts limit gives walks s t (Err x) is e to = let same : x ≡ e = cc in sym same ∙ is.0

not-refused : {r : Result (Option Member) Refusal} {o : Option Member} {e : Refusal} → r ≡ Ok o → r ≡ Err e → ⊥
not-refused a b = absurd (let clash = sym a ∙ b in cc)

-- the counter moves where the slot is there
drew-there : {C : Type 0} (cs : List C) (s t : ℕ) → drew (slice_get cs s) s t ≡ cond (nat_lt s (length cs)) (At s (Drew t) ∷ []) []
drew-there cs s t =
    elim (slice_get_cases cs s).1 [
      | inl p ↦ rw (p.2, lt-ltb s (length cs) (slice_get_within cs s p.0 p.2)) refl
      | inr p ↦ rw (p.1, le-ltb s (length cs) p.0) refl
    ]

module _ {C : Type 0} (M : Meaning C) (h : History C) (g s : ℕ) (key : List ℕ) (limit : ℕ) (words : List ℕ) (m : Made C)
    (made : group-made.Made C) (load_by : Member → ℕ) (x : Selection) where
  abbrev st : Step C
  st = step.select g s key limit words

  abbrev Right : Answer → Type 0
  Right a = SelectAnswers M h g s key limit words a

  -- what the call judged by, and what it says
  abbrev Was : Member → Bool → Type 0
  Was = joined-calls.Judges (key_of g h) (registry_events m.registry h) made (group_events g h) (served_at s (group_events g h))

  abbrev pub Told : slots.History → Type 0
  Told k = calls.SelectsIn M.random M.walks Was load_by made k s key limit words x

  -- too few words were given, or it was refused for memory at most
  abbrev pub Selected : Type 0
  Selected =
      ((x.answer ≡ Err refusal.NotEnoughWords) × (x.tickets ≡ drawn (past_of s (group.slot_events (group_events g h))))
      × Right (refuse refusal.NotEnoughWords))
      ⊎ (((e : Refusal) → x.answer ≡ Err e → e ≡ refusal.OutOfMemory) × Right (selected x.tickets x.answer))

  module _ (made_is : made_at g h ≡ Some m) (same : m.configs ≡ made.configs) where
    config-is : config g s h ≡ slice_get made.configs s
    config-is = ap (config_in s) made_is ∙ ap (λ cs. slice_get cs s) same

    -- what a selection with these tickets does, in the words of the call
    pub drew-so : (r : Result (Option Member) Refusal)
        → group_after_step h (slot_events g h) (group_events g h) st (selected x.tickets r) ≡ after_select made s x (group_events g h)
    drew-so r = by-answer r ∙ ap (λ es. in_group es ++ group_events g h) (ap (λ o. drew o s x.tickets) config-is
        ∙ drew-there made.configs s x.tickets)
      where
        by-answer : (r : Result (Option Member) Refusal) → group_after_step h (slot_events g h) (group_events g h) st (selected x.tickets r)
            ≡ in_group (drew (config g s h) s x.tickets) ++ group_events g h
        by-answer (Ok None) = refl
        by-answer (Ok (Some b)) = refl
        by-answer (Err e) = refl

    placed : (c : Option C) (a : Answer) → slice_get made.configs s ≡ c
        → MatchOption c (a ≡ answer.NoBackend 0) (λ y. SelectsIn M h g s (served (past g s h)) y key limit words a) → Right a
    placed c a at right = rw made_is (rw (ap (λ cs. slice_get cs s) same ∙ at) right)

    module _ (run : IsRun M h) (loads_are : (b : Member) → load_by b ≡ load_of g b h) where
      judged-alike : (b : Member) (is : Bool) → Was b is → Judges h g (served (past g s h)) b is
      judged-alike b is was =
          let registry-is : registry_of g h ≡ Some m.registry = ap (λ o. option_map (λ y. y.registry) o) made_is in
          rw (registry-is, ← views-of g h m made_is, same, ← group-of g h) (rw registry-is at was)

      -- the selection of a slot that is there
      from-slot : (c : C) → slice_get made.configs s ≡ Some c
          → SelectsFrom M.random M.walks Was load_by key limit words (served_members (past g s h)) c (drawn (past g s h)) x → Selected
      from-slot c at from =
          by-words
          (rw ((members-kept h g s).serving, members-past (served (past g s h)) s (slot_events g h)) at from)
          (M.random (members_of (served (past g s h)) (slot_events g h)) c && nat_le (length words) limit) refl
        where
          walks : List Draw → List Member → Bool → Type 0
          walks = M.walks (members_of (served (past g s h)) (slot_events g h)) c key

          source : DrawnValue
          source = record { words = record { tickets = drawn (past g s h); words = words }; drawn = 0 }

          by-words : SelectsFrom M.random M.walks Was load_by key limit words (members_of (served (past g s h)) (slot_events g h)) c
              (drawn (past g s h)) x
              → (few : Bool) → (M.random (members_of (served (past g s h)) (slot_events g h)) c && nat_le (length words) limit) ≡ few
              → Selected
          by-words from true few =
              let short = rw few at from in
              inl (short.0, rw (group-of g h) short.2, placed (Some c) (refuse refusal.NotEnoughWords) at (rw few refl))
          by-words from false enough =
              let long = rw enough at from in
              let t : DrawnValue = long.0 in
              let walked =
              selects-more same_member Was (Judges h g (served (past g s h))) judged-alike limit (LoadedGives (λ b. load_of g b h))
              walks source.words t.words x.answer
              (handed-selects load_by (λ b. load_of g b h) loads_are Was limit walks source t x.answer long.1) in
              inr (
                for-memory Was limit (DrawnGives load_by) walks source t x.answer long.1,
                placed (Some c) (selected x.tickets x.answer) at
                    (rw enough (x.answer, t.words, walked, ap (λ n. selected n x.answer) long.3)),
              )

      in-slot : Told (slot_events g h) → Selected
      in-slot told =
          elim (slice_get_cases made.configs s).1 [
            | inl p ↦ from-slot p.0 p.2 (rw p.2 at told)
            | inr p ↦
                let none = rw p.1 at told in
                inr (
                  λ e to. absurd (not-refused none.0 to),
                  placed None (selected x.tickets x.answer) p.1
                      (ap (selected x.tickets) none.0 ∙ ap (λ n. answer.NoBackend n) none.2),
                )
          ]

      pub selects : Told (group.slot_events (group_events g h)) → Selected
      selects told = in-slot (subst Told (group-of g h) told)
