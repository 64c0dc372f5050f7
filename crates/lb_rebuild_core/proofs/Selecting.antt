-- A selection from a slot: the words that are counted, with the loads that it borrows.
use Rattle.std.proofs.Common.{◌≡◌, ◌&&◌, ℕ, Bool, true, false, nat_le, MatchBool, MatchOption, List, length, Option, Some, None, Result}
use Rattle.std.proofs.Common.{refl, subst, ◌∙◌, slice_get}
use Rattle.std.specs.Borrow.{Bor}
use Rattle.std.specs.Fn.{Shared, FnReturnsAt}
use Rattle.lb_select_base.specs.Backends.{Member, same_member}
use Rattle.lb_select_base.specs.Draws.{Draw, ticket, random, load, LoadedGives}
use Rattle.lb_select_base.specs.Loads.{load_in}
use Rattle.lb_select_base.specs.Selections.{Selects}
use Rattle.lb_select_base.specs.declared.refusal.Refusal.{Refusal}
use Rattle.lb_select_base.proofs.SelectionsSeen.{selects-more, selects-seen}
use Rattle.lb_rebuild_core.specs.Drawn.{DrawnValue, DrawnGives, LentValue, LentGives}
use Rattle.lb_rebuild_core.specs.SlotsCalls.{SelectsIn}
use Rattle.lb_rebuild_core.specs.SlotsHistory.{History, past_of, served_members, drawn}
use Rattle.lb_rebuild_core.specs.SlotCalls.{SelectsFrom}
use Rattle.lb_rebuild_core.specs.Stands.{Made}
use Rattle.lb_rebuild_core.specs.Values.{ServingValue}
use Rattle.lb_rebuild_core.specs.declared.answers.Selection.{Selection}

lent-step : (loads : List (Member × ℕ)) (a : LentValue) (d : Draw) (b : LentValue) → a.loads ≡ loads → LentGives a d b
    → DrawnGives (load_in loads) a.source d b.source × (b.loads ≡ loads)
lent-step loads a d b same gives =
    (subst (λ (ls : List (Member × ℕ)). DrawnGives (load_in ls) a.source d b.source) same gives.0, gives.1 ∙ same)

-- the loads are those of the beginning
pub lent-selects : (accepts : Member → Bool → Type 0) (limit : ℕ) (walks : List Draw → List Member → Bool → Type 0) (s t : LentValue)
    (r : Result (Option Member) Refusal)
    → Selects same_member accepts limit LentGives walks s r t
    → Selects same_member accepts limit (DrawnGives (load_in s.loads)) walks s.source r t.source
lent-selects accepts limit walks s t r is =
    selects-seen LentGives (DrawnGives (load_in s.loads)) (λ a. a.source) (λ a. a.loads ≡ s.loads) (lent-step s.loads) walks same_member
    accepts limit s t r refl is

pub not-random : (x b : Bool) → x ≡ false → (x && b) ≡ false
not-random x b is = rw is refl

pub enough-words : (x b : Bool) → b ≡ false → (x && b) ≡ false
enough-words true b is = is
enough-words false b is = refl

module _ {C : Type 0} (random : List Member → C → Bool) (walks : List Member → C → List ℕ → List Draw → List Member → Bool → Type 0)
    (accepts : Member → Bool → Type 0) where
  -- the words that were drawn, and where they left the counter, are those of the selection
  pub selected : (loads : List (Member × ℕ)) (key : List ℕ) (limit : ℕ) (words : List ℕ) (sv st : ServingValue C) (a : Selection)
      (s t : LentValue)
      → st ≡ sv → (random st.members st.config && nat_le (length words) limit) ≡ false
      → s ≡ record { source = record { words = record { tickets = st.tickets; words = words }; drawn = 0 }; loads = loads }
      → a.drawn ≡ t.source.drawn → a.tickets ≡ t.source.words.tickets
      → Selects same_member accepts limit LentGives (walks st.members st.config key) s a.answer t
      → SelectsFrom random walks accepts (load_in loads) key limit words sv.members sv.config sv.tickets a
  selected loads key limit words sv st a s t is enough begins count drawn answer =
      let told : Selects same_member accepts limit (DrawnGives (load_in s.loads)) (walks st.members st.config key) s.source a.answer
      t.source =
      lent-selects accepts limit (walks st.members st.config key) s t a.answer answer in
      let Begun : LentValue → Type 0 = λ z. Selects same_member accepts limit (DrawnGives (load_in z.loads))
      (walks st.members st.config key) z.source a.answer t.source in
      let Here : ServingValue C → Type 0 = λ z. SelectsFrom random walks accepts (load_in loads) key limit words z.members z.config
      z.tickets a in
      subst Here is (rw enough (t.source, subst Begun begins told, count, drawn))

match-bool : (b : Bool) (A X Y : Type 0) → (X → Y) → MatchBool b A X → MatchBool b A Y
match-bool true A X Y f is = is
match-bool false A X Y f is = f is

match-option : {C : Type 0} (o : Option C) (A : Type 0) (X Y : C → Type 0) → ((c : C) → o ≡ Some c → X c → Y c) → MatchOption o A X
    → MatchOption o A Y
match-option None A X Y f is = is
match-option (Some c) A X Y f is = f c refl is

module _ {C : Type 0} (may : List Member → C → Bool) (walks : List Member → C → List ℕ → List Draw → List Member → Bool → Type 0)
    (P Q : Member → Bool → Type 0) (load_by : Member → ℕ) where
  from-more : (key : List ℕ) (limit : ℕ) (words : List ℕ) (ms : List Member) (c : C) (tickets : ℕ) (s : Selection)
      → ((b : Member) (a : Bool) → P b a → Q b a)
      → SelectsFrom may walks P load_by key limit words ms c tickets s → SelectsFrom may walks Q load_by key limit words ms c tickets s
  from-more key limit words ms c tickets s more is =
      match-bool (may ms c && nat_le (length words) limit) _ _ _
      (λ (t, answer, count, left). (
        t,
        selects-more same_member P Q more limit (DrawnGives load_by) (walks ms c key) _ t s.answer answer,
        count,
        left,
      ))
      is

  -- what one test answered, a test that follows from it answered; it need not follow where no such slot is there
  pub selects-in-more : (made : Made C) (h : History) (slot : ℕ) (key : List ℕ) (limit : ℕ) (words : List ℕ) (s : Selection)
      → SelectsIn may walks P load_by made h slot key limit words s
      → ((c : C) → slice_get made.configs slot ≡ Some c → (b : Member) (a : Bool) → P b a → Q b a)
      → SelectsIn may walks Q load_by made h slot key limit words s
  selects-in-more made h slot key limit words s is more =
      match-option (slice_get made.configs slot) _ _ _
      (λ c there selection. from-more key limit words (served_members (past_of slot h)) c (drawn (past_of slot h)) s
      (more c there) selection)
      is

-- the same of a function that was asked; its type is found from what it was asked
pub asked-in-more : {C F : Type 0} {g : Shared F (Bor Member × Unit {0}) Bool} {f : F} (may : List Member → C → Bool)
    (walks : List Member → C → List ℕ → List Draw → List Member → Bool → Type 0) (Q : Member → Bool → Type 0) (load_by : Member → ℕ)
    (made : Made C) (h : History) (slot : ℕ) (key : List ℕ) (limit : ℕ) (words : List ℕ) (s : Selection)
    → SelectsIn may walks (λ b a. FnReturnsAt g f b a) load_by made h slot key limit words s
    → ((c : C) → slice_get made.configs slot ≡ Some c → (b : Member) (a : Bool) → FnReturnsAt g f b a → Q b a)
    → SelectsIn may walks Q load_by made h slot key limit words s
asked-in-more {g = g} {f = f} may walks Q load_by made h slot key limit words s is more =
    selects-in-more may walks (λ b a. FnReturnsAt g f b a) Q load_by made h slot key limit words s is more

handed-step : (load_by other : Member → ℕ) → ((m : Member) → load_by m ≡ other m) → (a : DrawnValue) (d : Draw) (b : DrawnValue) → Unit {0}
    → DrawnGives load_by a d b → LoadedGives other a.words d b.words × Unit {0}
handed-step load_by other alike a (ticket w) b kept gives = (gives.0, tt)
handed-step load_by other alike a (random w) b kept gives = (gives.0, tt)
handed-step load_by other alike a (load m l) b kept gives = ((gives.0.0 ∙ alike m, gives.0.1), tt)

-- the words that are handed in alone, where two meanings of the loads agree
pub handed-selects : (load_by other : Member → ℕ) → ((m : Member) → load_by m ≡ other m)
    → (accepts : Member → Bool → Type 0) (limit : ℕ) (walks : List Draw → List Member → Bool → Type 0) (s t : DrawnValue)
    (r : Result (Option Member) Refusal)
    → Selects same_member accepts limit (DrawnGives load_by) walks s r t
    → Selects same_member accepts limit (LoadedGives other) walks s.words r t.words
handed-selects load_by other alike accepts limit walks s t r is =
    selects-seen (DrawnGives load_by) (LoadedGives other) (λ a. a.words) (λ a. Unit {0}) (handed-step load_by other alike) walks same_member
    accepts limit s t r tt is
