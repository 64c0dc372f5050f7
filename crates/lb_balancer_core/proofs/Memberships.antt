-- What an update leaves of a membership, and what holds of an answer that is none of a refusal.
use Rattle.std.proofs.Common.{◌≡◌, ◌∙◌, Bool, true, false, ℕ, List, [], ◌∷◌, Result, Ok, Err, IfOk, OnOk, IsOk, refl, ap, subst}
use Rattle.std.proofs.Common.{IfErr, OnErr}
use Rattle.std.specs.Prelude.{if◌then◌else◌}
use Rattle.std.specs.List.{list_any}
use Rattle.std.proofs.lemmas.Bool.{false≢true}
use Rattle.lb_select_base.specs.Backends.{Member, same_member}
use Rattle.lb_select_base.specs.Memberships.{same_members}
use Rattle.lb_health_view.specs.RegistrySide.{after_settings, with_membership}
use Rattle.lb_health_view.specs.ViewEvents.{ViewEvent, Set, Shown, membership_after}

pub on-ok : {T E : Type 0} (r : Result T E) (P : Type 0) → IsOk r → OnOk r P → P
on-ok (Ok t) P is p = p
on-ok (Err e) P is p = absurd (false≢true is)

pub if-ok : {T E : Type 0} (r : Result T E) (t : T) (P : T → Type 0) → r ≡ Ok t → IfOk r P → P t
if-ok r t P is p = subst (λ x. IfOk x P) is p

pub if-err : {T E : Type 0} (r : Result T E) (e : E) (P : E → Type 0) → r ≡ Err e → IfErr r P → P e
if-err r e P is p = subst (λ x. IfErr x P) is p

pub on-err : {T E : Type 0} (r : Result T E) (e : E) (P : Type 0) → r ≡ Err e → OnErr r P → P
on-err r e P is p = subst (λ x. OnErr x P) is p

-- what holds anyway holds of an answer
pub if-answered : {T E : Type 0} (r : Result T E) (P : Type 0) → P → OnOk r P
if-answered (Ok t) P p = p
if-answered (Err e) P p = tt

-- what follows from an answer follows of it
pub on-ok-more : {T E : Type 0} (r : Result T E) (P Q : Type 0) → OnOk r P → (P → Q) → OnOk r Q
on-ok-more (Ok t) P Q p more = more p
on-ok-more (Err e) P Q p more = tt

by-setting : (b : Bool) (m : Member) (on : Bool) (views : List ViewEvent)
    → membership_after (if b then Set m on ∷ views else views) ≡ membership_after views
by-setting true m on views = refl
by-setting false m on views = refl

settings-members : (settings : List (Member × Bool)) (views : List ViewEvent)
    → membership_after (after_settings settings views) ≡ membership_after views
settings-members [] views = refl
settings-members (e ∷ rest) views =
    settings-members rest (if list_any (same_member e.0) (membership_after views) then Set e.0 e.1 ∷ views else views)
    ∙ by-setting (list_any (same_member e.0) (membership_after views)) e.0 e.1 views

module _ (settings : List (Member × Bool)) (members : List Member) (cells : List (Member × ℕ)) (views : List ViewEvent) where
  pub kept-members : same_members members (membership_after views) ≡ true
      → membership_after (after_settings settings (with_membership members cells views)) ≡ membership_after views
  kept-members same =
      let kept : with_membership members cells views ≡ views = rw same refl in
      settings-members settings (with_membership members cells views) ∙ ap membership_after kept

  pub new-members : same_members members (membership_after views) ≡ false
      → membership_after (after_settings settings (with_membership members cells views)) ≡ members
  new-members other =
      let shown : with_membership members cells views ≡ Shown members cells ∷ views = rw other refl in
      settings-members settings (with_membership members cells views) ∙ ap membership_after shown
