-- The extras of a gate, counted: over the steps, and over what the slots have.
use Rattle.std.proofs.Common.{◌≡◌, inl, inr, ◌<◌, ◌≤◌, ◌+◌, ◌-◌, ◌==◌, ◌&&◌, ◌||◌, ◌∙◌, ℕ, zero, suc, Bool, true, false, cond, List, []}
use Rattle.std.proofs.Common.{◌∷◌, length, refl, sym, ap, subst, arith, if◌then◌else◌}
use Rattle.std.specs.Prelude.{Option, Some, None, slice_get}
use Rattle.std.specs.Option.{option_map}
use Rattle.std.proofs.lemmas.Bool.{eq-eqb, eqb-true, false≢true, false_from_ne_true}
use Rattle.std.proofs.lemmas.Option.{none-some, same_Some, slice_get_within}
use mathlib.Core.Logic.{dite}
use native.Mathlib.Decide.{ℕ_discrete}
use Rattle.lb_rebuild_core.specs.SlotsHistory as slots
use Rattle.lb_rebuild_core.specs.SlotsHistory.{past_of, extra, is_extra}
use Rattle.lb_rebuild_core.specs.Laws.{number, extras_from}
use Rattle.lb_world.specs.Meanings.{Meaning}
use Rattle.lb_world.specs.History.{History, Made, made, made_at, gate_at, slot_gate, slot_events, extras, is_out}
use Rattle.lb_world.specs.Answers.{IsRun}
use Rattle.lb_world.specs.Promises.{HasExtra, OneExtra, PermitsOut, extras_over, Counted}
use Rattle.lb_world.proofs.Holders.{HeldBy, one-has, out-then}
use Rattle.lb_world.proofs.Extras.{seek, has, held, extras-out, most}

pub there-at : {X : Type 0} (xs : List X) (i : ℕ) → i < length xs → (x : X) × (slice_get xs i ≡ Some x)
there-at [] i h = absurd (omega arith)
there-at (a ∷ xs) zero h = (a, refl)
there-at (a ∷ xs) (suc i) h = there-at xs i (omega arith)

-- of so many slots none has an extra, or one alone
none-in : (i n : ℕ) (k : slots.History) → ((r : ℕ) → i ≤ r → r < i + n → is_extra (extra (past_of r k)) ≡ false) → extras_from i n k ≡ 0
none-in i zero k none = refl
none-in i (suc n) k none =
    let first : number (is_extra (extra (past_of i k))) ≡ 0 = ap number (none i (omega arith) (omega arith)) in
    let rest : extras_from (i + 1) n k ≡ 0 = none-in (i + 1) n k (λ r low high. none r (omega arith) (omega arith)) in
    omega arith

one-in : (i n s : ℕ) (k : slots.History) → i ≤ s → s < i + n → is_extra (extra (past_of s k)) ≡ true
    → ((r : ℕ) → i ≤ r → r < i + n → is_extra (extra (past_of r k)) ≡ true → r ≡ s) → extras_from i n k ≡ 1
one-in i zero s k low high has only = absurd (omega arith)
one-in i (suc n) s k low high has only =
    dite (ℕ_discrete i s)
    (λ at.
    let first : number (is_extra (extra (past_of i k))) ≡ 1 = ap (λ (r : ℕ). number (is_extra (extra (past_of r k)))) at ∙ ap number has in
    let rest : extras_from (i + 1) n k ≡ 0 =
    none-in (i + 1) n k
    (λ r above within.
    false_from_ne_true (is_extra (extra (past_of r k))) (λ t. let e : r ≡ s = only r (omega arith) (omega arith) t in omega arith)) in
    omega arith)
    (λ off.
    let first : number (is_extra (extra (past_of i k))) ≡ 0 =
    ap number (false_from_ne_true (is_extra (extra (past_of i k))) (λ t. off (only i (omega arith) (omega arith) t))) in
    let rest : extras_from (i + 1) n k ≡ 1 =
    one-in (i + 1) n s k (omega arith) (omega arith) has (λ r above within. only r (omega arith) (omega arith)) in
    omega arith)

head-none : (b : Bool) (x y : ℕ) → (b ≡ true → x ≡ 0) → y ≡ 0 → (if b then x else 0) + y ≡ 0
head-none true x y none rest = let e : x ≡ 0 = none refl in omega arith
head-none false x y none rest = omega arith

head-one : (b : Bool) (x y : ℕ) → b ≡ true → x ≡ 1 → y ≡ 0 → (if b then x else 0) + y ≡ 1
head-one true x y t one rest = omega arith
head-one false x y t one rest = absurd (false≢true t)

tail-one : (b : Bool) (x y : ℕ) → (b ≡ true → x ≡ 0) → y ≡ 1 → (if b then x else 0) + y ≡ 1
tail-one true x y none rest = let e : x ≡ 0 = none refl in omega arith
tail-one false x y none rest = omega arith

module _ {C : Type 0} (h : History C) (a : ℕ) where
  -- these groups are there from the place g on
  abbrev Stand : ℕ → List (Made C) → Type 0
  Stand g ms = (j : ℕ) (m : Made C) → slice_get ms j ≡ Some m → made_at (g + j) h ≡ Some m

  next : (g : ℕ) (m : Made C) (ms : List (Made C)) → Stand g (m ∷ ms) → Stand (g + 1) ms
  next g m ms all j n e =
      subst (λ (i : ℕ). made_at i h ≡ Some n) (let same : g + suc j ≡ g + 1 + j = omega arith in same) (all (suc j) n e)

  slot-there : (g r : ℕ) (m : Made C) → made_at g h ≡ Some m → m.gate ≡ a → r < length m.configs → slot_gate g r h ≡ Some a
  slot-there g r m e on within =
      let c = there-at m.configs r within in
      ap (gate_at r) e ∙ ap (option_map (λ (x : C). m.gate)) c.1 ∙ ap Some on

  first-made : (g : ℕ) (m : Made C) (ms : List (Made C)) → Stand g (m ∷ ms) → made_at g h ≡ Some m
  first-made g m ms all = subst (λ (i : ℕ). made_at i h ≡ Some m) (let same : g + 0 ≡ g = omega arith in same) (all zero m refl)

  none-over : (g : ℕ) (ms : List (Made C)) → Stand g ms → ((i r : ℕ) → g ≤ i → slot_gate i r h ≡ Some a → has h i r ≡ false)
      → extras_over a g ms h ≡ 0
  none-over g [] all none = refl
  none-over g (m ∷ ms) all none =
      head-none (m.gate == a) (extras_from 0 (length m.configs) (slot_events g h)) (extras_over a (g + 1) ms h)
      (λ on.
      none-in 0 (length m.configs) (slot_events g h)
      (λ r low high. none g r (omega arith) (slot-there g r m (first-made g m ms all) (eqb-true m.gate a on) (omega arith))))
      (none-over (g + 1) ms (next g m ms all) (λ i r above. none i r (omega arith)))

  gate-parts : (s : ℕ) (o : Option (Made C)) (m : Made C) → o ≡ Some m → gate_at s o ≡ Some a → (m.gate ≡ a) × (s < length m.configs)
  gate-parts s o m is on =
      parts (slice_get m.configs s) refl (ap (gate_at s) (sym is) ∙ on)
    where
      parts : (c : Option C) → slice_get m.configs s ≡ c → option_map (λ (x : C). m.gate) (slice_get m.configs s) ≡ Some a → (m.gate ≡ a)
          × (s < length m.configs)
      parts None e on = absurd (none-some a (sym (ap (option_map (λ (x : C). m.gate)) e) ∙ on))
      parts (Some c) e on =
          (same_Some m.gate a (sym (ap (option_map (λ (x : C). m.gate)) e) ∙ on), slice_get_within m.configs s c e)

  one-over : (g : ℕ) (ms : List (Made C)) (i s : ℕ) → Stand g ms → g ≤ i → i < g + length ms → slot_gate i s h ≡ Some a → has h i s ≡ true
      → ((j r : ℕ) → slot_gate j r h ≡ Some a → has h j r ≡ true → (j ≡ i) × (r ≡ s)) → extras_over a g ms h ≡ 1
  one-over g [] i s all low high on has_ only = absurd (omega arith)
  one-over g (m ∷ ms) i s all low high on has_ only =
      dite (ℕ_discrete g i)
      (λ at.
      let parts = gate-parts s (made_at g h) m (first-made g m ms all) (ap (λ (j : ℕ). slot_gate j s h) at ∙ on) in
      let made_here = first-made g m ms all in
      let slot-on : (r : ℕ) → r < 0 + length m.configs → slot_gate g r h ≡ Some a = λ r within. slot-there g r m made_here parts.0
      (omega (arith, within)) in
      head-one (m.gate == a) (extras_from 0 (length m.configs) (slot_events g h)) (extras_over a (g + 1) ms h)
      (eq-eqb m.gate a parts.0)
      (one-in 0 (length m.configs) s (slot_events g h) (omega arith) (omega (arith, parts.1)) (ap (λ (j : ℕ). has h j s) at ∙ has_)
      (λ r above within t. (only g r (slot-on r within) t).1))
      (none-over (g + 1) ms (next g m ms all)
      (λ j r above there. false_from_ne_true (has h j r) (λ t. let e : j ≡ i = (only j r there t).0 in omega arith))))
      (λ off.
      tail-one (m.gate == a) (extras_from 0 (length m.configs) (slot_events g h)) (extras_over a (g + 1) ms h)
      (λ t.
      none-in 0 (length m.configs) (slot_events g h)
      (λ r above within.
      false_from_ne_true (is_extra (extra (past_of r (slot_events g h))))
      (λ u. off (only g r (slot-there g r m (first-made g m ms all) (eqb-true m.gate a t) (omega arith)) u).0)))
      (one-over (g + 1) ms i s (next g m ms all) (omega arith) (omega arith) on has_ only))

  -- what the slots on the gate have
  from-first : Stand 0 (made h)
  from-first j m e = subst (λ (i : ℕ). made_at i h ≡ Some m) (let same : j ≡ 0 + j = omega arith in same) e

  pub standing : (o : Bool) → HeldBy (λ i r. slot_gate i r h) (has h) a o → extras_over a 0 (made h) h ≡ number o
  standing false held_by = none-over 0 (made h) from-first (λ i r low. held_by i r)
  standing true held_by =
      let within : held_by.0 < length (made h) =
      elim (seek (made_at held_by.0 h)) [
        | inl none ↦ absurd (none-some a (sym (ap (gate_at held_by.1) none) ∙ held_by.2))
        | inr m ↦ slice_get_within (made h) held_by.0 m.0 m.1
      ] in
      one-over 0 (made h) held_by.0 held_by.1 from-first (omega arith) (omega arith) held_by.2 held_by.3 held_by.4

module _ {C : Type 0} (M : Meaning C) where
  pub one-extra : (h : History C) → IsRun M h → OneExtra h
  one-extra h run a g s i r on there has_ has_too =
      one-has (λ j q. slot_gate j q h) (has h) (has h) g s a (is_out a h) on has_ (held M h run a) i r there has_too

  pub permits-out : (h : History C) → IsRun M h → PermitsOut h
  permits-out h run =
      record {
        out = λ a g s on has_. out-then (λ j q. slot_gate j q h) (has h) (has h) g s a (is_out a h) on has_ (held M h run a);
        whose = λ a out. whose-of a (is_out a h) out (held M h run a);
        counted = extras-out M h run;
      }
    where
      whose-of : (a : ℕ) (o : Bool) → o ≡ true → HeldBy (λ j q. slot_gate j q h) (has h) a o
          → (g : ℕ) × (s : ℕ) × (slot_gate g s h ≡ Some a) × HasExtra g s h
      whose-of a true out k = (k.0, k.1, k.2, k.3)
      whose-of a false out k = absurd (false≢true out)

  pub counted : (h : History C) → IsRun M h → Counted h
  counted h run =
      record {
        at_most = λ a. most (is_out a h) (extras a h) (extras-out M h run a);
        standing = λ a. extras-out M h run a ∙ sym (standing h a (is_out a h) (held M h run a));
      }
