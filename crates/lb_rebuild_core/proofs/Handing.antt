-- Orders are handed out to the slots from the last one on.
use Rattle.std.proofs.Common.{◌≡◌, ◌<◌, ◌≤◌, ◌+◌, ℕ, zero, suc, List, [], ◌∷◌, ◌++◌, length, get_or, set, refl, sym, ap, subst, ◌∙◌, arith}
use Rattle.std.proofs.Common.{length-append, length-set, get_or-set_same, get_or-set_other}
use Rattle.std.proofs.lemmas.List.{get_or_default}
use mathlib.Core.Logic.{dite}
use native.Mathlib.Decide.{ℕ_discrete}
use Rattle.lb_rebuild_core.specs.Values.{OrderValue}
use Rattle.lb_rebuild_core.specs.SlotCalls.{ordered_slot}
use Rattle.lb_rebuild_core.specs.SlotSeen.{slot_value}
use Rattle.lb_rebuild_core.specs.Orders.{AreOrdered}
use Rattle.lb_rebuild_core.specs.declared.slot.Slot.{Slot}

front_at : {A : Type 0} (xs : List A) (b : A) (k : ℕ) (d : A) → k < length xs → get_or (xs ++ b ∷ []) k d ≡ get_or xs k d
front_at [] b k d h = absurd (omega arith)
front_at (a ∷ xs) b zero d h = refl
front_at (a ∷ xs) b (suc k) d h = front_at xs b k d (omega arith)

last_at : {A : Type 0} (xs : List A) (b d : A) → get_or (xs ++ b ∷ []) (length xs) d ≡ b
last_at [] b d = refl
last_at (a ∷ xs) b d = last_at xs b d

module _ {S C W : Type 0} where
  -- y is the slot x with the order o
  pub record IsOrdered (newest : ℕ) (x : Slot S C W) (o : OrderValue C) (y : Slot S C W) : Type 0 where
    pub is : slot_value y ≡ ordered_slot newest o (slot_value x)

  -- the orders that are left are the first ones, their slots are as they were, and the others have theirs
  pub record HandsOut (newest : ℕ) (xs : List (Slot S C W)) (all left : List (OrderValue C)) (ys : List (Slot S C W)) : Type 0 where
    pub count : length ys ≡ length xs
    pub few : length left ≤ length xs
    pub front : (k : ℕ) (o : OrderValue C) → k < length left → get_or left k o ≡ get_or all k o
    pub rest : (k : ℕ) (d : Slot S C W) → k < length left → get_or ys k d ≡ get_or xs k d
    pub done : (k : ℕ) (d : Slot S C W) (o : OrderValue C) → length left ≤ k → k < length xs
        → IsOrdered newest (get_or xs k d) (get_or all k o) (get_or ys k d)

  pub hands_first : (n : ℕ) (xs : List (Slot S C W)) (all : List (OrderValue C)) → length all ≡ length xs → HandsOut n xs all all xs
  hands_first n xs all h = record {
    count = refl;
    few = omega arith;
    front = λ k o l. refl;
    rest = λ k d l. refl;
    done = λ k d o l m. absurd (omega arith);
  }

  pub hands_last : (n : ℕ) (xs : List (Slot S C W)) (all left : List (OrderValue C)) (ys : List (Slot S C W))
      → HandsOut n xs all left ys → length left ≡ 0 → AreOrdered n xs all ys
  hands_last n xs all left ys h none = record {
    count = h.count;
    each = λ k d o l. (h.done k d o (omega arith) l).is;
  }

  -- one order more is handed out
  pub hands_on : (n : ℕ) (xs : List (Slot S C W)) (all left fewer : List (OrderValue C)) (ys : List (Slot S C W)) (m : ℕ)
      (o : OrderValue C) (x y : Slot S C W)
      → HandsOut n xs all left ys → left ≡ fewer ++ o ∷ [] → m ≡ length fewer → x ≡ get_or ys m x
      → slot_value y ≡ ordered_slot n o (slot_value x)
      → HandsOut n xs all fewer (set ys m y)
  hands_on n xs all left fewer ys m o x y h split place is order =
      let size : length left ≡ length fewer + 1 = ap length split ∙ length-append fewer (o ∷ []) in
      let inside : m < length ys = omega (arith, size, place, h.count, h.few) in
      record {
        count = length-set ys m y ∙ h.count;
        few = omega (arith, size, h.few);
        front = λ k e l. sym (front_at fewer o k e l) ∙ ap (λ (z : List (OrderValue C)). get_or z k e) (sym split)
            ∙ h.front k e (omega (arith, size, l));
        rest = λ k d l. let apart : ¬ (k ≡ m) = λ e. omega (arith, l, e, place) in get_or-set_other ys m k y d apart
            ∙ h.rest k d (omega (arith, size, l));
        done = λ k d e low high.
            dite (ℕ_discrete k m)
            (λ at. here k d e at)
            (λ apart. subst (λ (z : Slot S C W). IsOrdered n (get_or xs k d) (get_or all k e) z) (sym (get_or-set_other ys m k y d apart))
            (h.done k d e (omega (arith, size, low, apart, place)) high));
      }
    where
      here : (k : ℕ) (d : Slot S C W) (e : OrderValue C) → k ≡ m → IsOrdered n (get_or xs k d) (get_or all k e) (get_or (set ys m y) k d)
      here k d e at =
          let size : length left ≡ length fewer + 1 = ap length split ∙ length-append fewer (o ∷ []) in
          let inside : m < length ys = omega (arith, size, place, h.count, h.few) in
          let within : m < length left = omega (arith, size, place) in
          let slot : x ≡ get_or xs m d = is ∙ get_or_default ys m x d inside ∙ h.rest m d within in
          let order_is : o ≡ get_or all m e =
          sym (last_at fewer o e) ∙ ap (λ (j : ℕ). get_or (fewer ++ o ∷ []) j e) (sym place)
          ∙ ap (λ (z : List (OrderValue C)). get_or z m e) (sym split) ∙ h.front m e within in
          let set_is : y ≡ get_or (set ys m y) m d = sym (get_or-set_same ys m y d inside) in
          let begins : IsOrdered n x o y = record { is = order } in
          subst (λ (j : ℕ). IsOrdered n (get_or xs j d) (get_or all j e) (get_or (set ys m y) j d)) (sym at)
          (subst (λ (u : Slot S C W). IsOrdered n u (get_or all m e) (get_or (set ys m y) m d)) slot
          (subst (λ (u : OrderValue C). IsOrdered n x u (get_or (set ys m y) m d)) order_is
          (subst (λ (u : Slot S C W). IsOrdered n x o u) set_is begins)))
