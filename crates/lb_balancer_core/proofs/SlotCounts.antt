-- Which slots are there, by what a reading call answers of them.
use Rattle.std.proofs.Common.{◌≡◌, ◌<◌, ◌≤◌, ◌∙◌, ℕ, Bool, true, false, cond, nat_lt, length, Option, Some, None, sym, subst, arith, refl}
use Rattle.std.proofs.Common.{◌+◌}
use Rattle.std.proofs.lemmas.Bool.Decides.{nat_tests}
use Rattle.std.proofs.lemmas.Option.{none-some, same_Some}
use Rattle.lb_rebuild_core.specs.SlotsCalls.{at_slot}
use Rattle.lb_rebuild_core.specs.Stands.{Made}

below : (slot n : ℕ) → nat_lt slot n ≡ true → slot < n
below slot n e = grind (arith, nat_tests)

not_below : (slot n : ℕ) → nat_lt slot n ≡ false → n ≤ slot
not_below slot n e = grind (arith, nat_tests)

module _ {A : Type 0} where
  gone_by : (b : Bool) (slot n : ℕ) (a : A) → nat_lt slot n ≡ b → None ≡ cond b (Some a) None → n ≤ slot
  gone_by true slot n a e h = absurd (none-some a h)
  gone_by false slot n a e h = not_below slot n e

  there_by : (b : Bool) (slot n : ℕ) (a x : A) → nat_lt slot n ≡ b → Some x ≡ cond b (Some a) None → (slot < n) × (x ≡ a)
  there_by true slot n a x e h = (below slot n e, same_Some x a h)
  there_by false slot n a x e h = absurd (none-some x (sym h))

  -- no such slot is there
  pub gone : {C : Type 0} (made : Made C) (slot : ℕ) (a : A) (o : Option A) → o ≡ at_slot made slot a → o ≡ None
      → length made.configs ≤ slot
  gone made slot a o is none = gone_by (nat_lt slot (length made.configs)) slot (length made.configs) a refl (sym none ∙ is)

  -- the slot is there, and this is read of it
  pub there : {C : Type 0} (made : Made C) (slot : ℕ) (a x : A) (o : Option A) → o ≡ at_slot made slot a → o ≡ Some x
      → (slot < length made.configs) × (x ≡ a)
  there made slot a x o is some = there_by (nat_lt slot (length made.configs)) slot (length made.configs) a x refl (sym some ∙ is)

up_to_by : (P : ℕ → Type 0) (b : Bool) (n i : ℕ) → nat_lt i n ≡ b → ((k : ℕ) → k < n → P k) → P n → i < n + 1 → P i
up_to_by P true n i e h p lt = h i (below i n e)
up_to_by P false n i e h p lt =
    let least = not_below i n e in
    let same : n ≡ i = omega arith in
    subst P same p

-- one more
pub up_to : (P : ℕ → Type 0) (n : ℕ) → ((k : ℕ) → k < n → P k) → P n → (i : ℕ) → i < n + 1 → P i
up_to P n h p i lt = up_to_by P (nat_lt i n) n i refl h p lt
