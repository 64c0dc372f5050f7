-- What an event at one slot, or of one group, does to the pasts of all slots of all groups, with what is held of their jobs.
-- Histories and tables are plain variables here.
use Rattle.std.proofs.Common.{◌≡◌, ◌==◌, ◌&&◌, ◌∙◌, ℕ, Bool, true, false, cond, [], ◌∷◌, ◌++◌, refl, sym, ap, subst}
use Rattle.std.proofs.lemmas.Bool.{eq-eqb, ne_eqb}
use mathlib.Core.Logic.{dite}
use native.Mathlib.Decide.{ℕ_discrete}
use Rattle.lb_rebuild_core.specs.SlotsHistory.{SlotEvent, Entered, Left, SlotsEvent, Scheduled, Cancelled, At, History, past_of, granted}
use Rattle.lb_rebuild_core.specs.SlotsHistory.{readers, is_under_way, extra, MayHappen, IsPast}
use Rattle.lb_rebuild_core.proofs.Pasts.{past-same, past-other}
use Rattle.lb_world.specs.History.{Work, is_held}

-- a past that can be, whose flight or lost flight is there exactly where something is held of its job
abbrev pub Fits : History → Work → Type 0
Fits p w = IsPast p × (is_under_way (granted p) (extra p) ≡ is_held w)

abbrev pub AllFit : (ℕ → History) → (ℕ → ℕ → Work) → Type 0
AllFit K W = (i r : ℕ) → Fits (past_of r (K i)) (W i r)

-- nothing happened
cond-same : {A : Type 0} (b : Bool) (x : A) → cond b x x ≡ x
cond-same true x = refl
cond-same false x = refl

-- one group has another history
pub spread : (K N : ℕ → History) (W V : ℕ → ℕ → Work) (g : ℕ) → AllFit K W
    → ((r : ℕ) → Fits (past_of r (N g)) (V g r)) → ((i r : ℕ) → ¬ (i ≡ g) → V i r ≡ W i r)
    → (i r : ℕ) → Fits (past_of r (cond (g == i) (N i) (K i))) (V i r)
spread K N W V g all own else_ i r =
    dite (ℕ_discrete i g)
    (λ at. rw (eq-eqb g i (sym at)) (subst (λ (j : ℕ). Fits (past_of r (N j)) (V j r)) (sym at) (own r)))
    (λ apart. rw (ne_eqb g i (λ e. apart (sym e))) (subst (λ (w : Work). Fits (past_of r (K i)) w) (sym (else_ i r apart)) (all i r)))

-- one slot of one group has another past
pub placed : (K N : ℕ → History) (W V : ℕ → ℕ → Work) (g s : ℕ) → AllFit K W
    → Fits (past_of s (N g)) (V g s) → ((r : ℕ) → ¬ (r ≡ s) → past_of r (N g) ≡ past_of r (K g))
    → ((i r : ℕ) → ¬ ((i ≡ g) × (r ≡ s)) → V i r ≡ W i r)
    → (i r : ℕ) → Fits (past_of r (cond (g == i) (N i) (K i))) (V i r)
placed K N W V g s all own other else_ =
    spread K N W V g all
    (λ r.
    dite (ℕ_discrete r s)
    (λ on. subst (λ (q : ℕ). Fits (past_of q (N g)) (V g q)) (sym on) own)
    (λ off.
    subst (λ (p : History). Fits p (V g r)) (sym (other r off))
    (subst (λ (w : Work). Fits (past_of r (K g)) w) (sym (else_ g r (λ e. off e.1))) (all g r))))
    (λ i r apart. else_ i r (λ e. apart e.0))

-- one event at one slot
pub happens : (K : ℕ → History) (W V : ℕ → ℕ → Work) (e : ℕ → SlotEvent) (g s : ℕ) → AllFit K W
    → MayHappen (past_of s (K g)) (e g)
    → is_under_way (granted (At s (e g) ∷ past_of s (K g))) (extra (At s (e g) ∷ past_of s (K g))) ≡ is_held (V g s)
    → ((i r : ℕ) → ¬ ((i ≡ g) × (r ≡ s)) → V i r ≡ W i r)
    → (i r : ℕ) → Fits (past_of r (cond (g == i) (At s (e i) ∷ K i) (K i))) (V i r)
happens K W V e g s all may held else_ =
    placed K (λ i. At s (e i) ∷ K i) W V g s all
    (subst (λ (p : History). Fits p (V g s)) (sym (past-same s (e g) (K g))) (((all g s).0, may), held))
    (λ r off. past-other r s (e g) (K g) (λ at. off (sym at)))
    else_

-- nothing happened at all
pub idles : (K : ℕ → History) (W V : ℕ → ℕ → Work) (b : ℕ → Bool) (N : ℕ → History) → AllFit K W
    → ((i : ℕ) → N i ≡ K i) → ((i r : ℕ) → V i r ≡ W i r)
    → (i r : ℕ) → Fits (past_of r (cond (b i) (N i) (K i))) (V i r)
idles K W V b N all none else_ i r =
    subst (λ (p : History). Fits (past_of r p) (V i r)) (sym (ap (λ (x : History). cond (b i) x (K i)) (none i) ∙ cond-same (b i) (K i)))
    (subst (λ (w : Work). Fits (past_of r (K i)) w) (sym (else_ i r)) (all i r))

-- the test that a step is at a slot
pub beside : (g s i r : ℕ) → ¬ ((i ≡ g) × (r ≡ s)) → (g == i && s == r) ≡ false
beside g s i r apart =
    dite (ℕ_discrete g i)
    (λ at. dite (ℕ_discrete s r) (λ on. absurd (apart (sym at, sym on))) (λ off. rw (eq-eqb g i at, ne_eqb s r off) refl))
    (λ off. rw (ne_eqb g i off) refl)

pub here : (g s : ℕ) → (g == g && s == s) ≡ true
here g s = rw (eq-eqb g g refl, eq-eqb s s refl) refl

-- An event that is no entry and no leaving keeps the readers.
abbrev pub unread : SlotsEvent → Bool
unread (At i Entered) = false
unread (At i (Left m)) = false
unread e = true

abbrev pub all-unread : History → Bool
all-unread [] = true
all-unread (e ∷ h) = cond (unread e) (all-unread h) false

kept-at : (n i : ℕ) (e : SlotEvent) (p : History) → unread (At i e) ≡ true → readers n (At i e ∷ p) ≡ readers n p
kept-at n i Entered p u = absurd (cc)
kept-at n i (Left m) p u = absurd (cc)
kept-at n i e p u = refl

kept-if : (b : Bool) (n i : ℕ) (e : SlotEvent) (p : History) → unread (At i e) ≡ true → readers n (cond b (At i e ∷ p) p) ≡ readers n p
kept-if true n i e p u = kept-at n i e p u
kept-if false n i e p u = refl

kept-one : (n r : ℕ) (e : SlotsEvent) (k : History) → unread e ≡ true → readers n (past_of r (e ∷ k)) ≡ readers n (past_of r k)
kept-one n r (Scheduled ms now) k u = refl
kept-one n r Cancelled k u = refl
kept-one n r (At i e) k u = kept-if (i == r) n i e (past_of r k) u

both-unread : (b c : Bool) → cond b c false ≡ true → (b ≡ true) × (c ≡ true)
both-unread true c e = (refl, e)
both-unread false c e = absurd (cc)

pub kept-readers : (n r : ℕ) (es k : History) → all-unread es ≡ true → readers n (past_of r (es ++ k)) ≡ readers n (past_of r k)
kept-readers n r [] k u = refl
kept-readers n r (e ∷ es) k u =
    let both = both-unread (unread e) (all-unread es) u in
    kept-one n r e (es ++ k) both.0 ∙ kept-readers n r es k both.1

pub kept-group : (b : Bool) (n r : ℕ) (es k : History) → all-unread es ≡ true
    → readers n (past_of r (cond b (es ++ k) k)) ≡ readers n (past_of r k)
kept-group true n r es k u = kept-readers n r es k u
kept-group false n r es k u = refl

-- pasts of other slots at an event, and of its own
pub off-past : (K : ℕ → History) (e : ℕ → SlotEvent) (g s i r : ℕ) → ¬ ((i ≡ g) × (r ≡ s))
    → past_of r (cond (g == i) (At s (e i) ∷ K i) (K i)) ≡ past_of r (K i)
off-past K e g s i r off =
    dite (ℕ_discrete g i)
    (λ at. rw (eq-eqb g i at) (past-other r s (e i) (K i) (λ on. off (sym at, sym on))))
    (λ apart. rw (ne_eqb g i apart) refl)

pub on-past : (K : ℕ → History) (e : ℕ → SlotEvent) (g s : ℕ)
    → past_of s (cond (g == g) (At s (e g) ∷ K g) (K g)) ≡ At s (e g) ∷ past_of s (K g)
on-past K e g s = rw (eq-eqb g g refl) (past-same s (e g) (K g))

-- two events at one slot
pub off-both : (K : ℕ → History) (d e : SlotEvent) (g s i r : ℕ) → ¬ ((i ≡ g) × (r ≡ s))
    → past_of r (cond (g == i) (At s d ∷ At s e ∷ K i) (K i)) ≡ past_of r (K i)
off-both K d e g s i r off =
    dite (ℕ_discrete g i)
    (λ at.
    let apart : ¬ (s ≡ r) = λ on. off (sym at, sym on) in
    rw (eq-eqb g i at) (past-other r s d (At s e ∷ K i) apart ∙ past-other r s e (K i) apart))
    (λ apart. rw (ne_eqb g i apart) refl)

pub on-both : (K : ℕ → History) (d e : SlotEvent) (g s : ℕ)
    → past_of s (cond (g == g) (At s d ∷ At s e ∷ K g) (K g)) ≡ At s d ∷ At s e ∷ past_of s (K g)
on-both K d e g s =
    rw (eq-eqb g g refl) (past-same s d (At s e ∷ K g) ∙ ap (λ (p : History). At s d ∷ p) (past-same s e (K g)))

-- what an event at a slot keeps there it keeps everywhere
pub everywhere : {A : Type 0} (f : History → A) (K : ℕ → History) (e : ℕ → SlotEvent) (g s : ℕ)
    → f (At s (e g) ∷ past_of s (K g)) ≡ f (past_of s (K g))
    → (i r : ℕ) → f (past_of r (cond (g == i) (At s (e i) ∷ K i) (K i))) ≡ f (past_of r (K i))
everywhere f K e g s kept i r =
    dite (ℕ_discrete i g)
    (λ at.
    dite (ℕ_discrete r s)
    (λ on.
    subst (λ (j : ℕ). f (past_of r (cond (g == j) (At s (e j) ∷ K j) (K j))) ≡ f (past_of r (K j))) (sym at)
    (subst (λ (q : ℕ). f (past_of q (cond (g == g) (At s (e g) ∷ K g) (K g))) ≡ f (past_of q (K g))) (sym on)
    (ap f (on-past K e g s) ∙ kept)))
    (λ off. ap f (off-past K e g s i r (λ e. off e.1))))
    (λ off. ap f (off-past K e g s i r (λ e. off e.0)))

-- and what an event of a whole group keeps
pub throughout : {A : Type 0} (f : History → A) (K : ℕ → History) (e : SlotsEvent) (b : ℕ → Bool)
    → ((r : ℕ) (k : History) → f (past_of r (e ∷ k)) ≡ f (past_of r k))
    → (i r : ℕ) → f (past_of r (cond (b i) (e ∷ K i) (K i))) ≡ f (past_of r (K i))
throughout f K e b kept i r = either (b i)
  where
    either : (t : Bool) → f (past_of r (cond t (e ∷ K i) (K i))) ≡ f (past_of r (K i))
    either true = kept r (K i)
    either false = refl

pub nowhere : {A : Type 0} (f : History → A) (K N : ℕ → History) (b : ℕ → Bool) → ((i : ℕ) → N i ≡ K i)
    → (i r : ℕ) → f (past_of r (cond (b i) (N i) (K i))) ≡ f (past_of r (K i))
nowhere f K N b none i r = ap (λ (k : History). f (past_of r k)) (ap (λ (x : History). cond (b i) x (K i)) (none i) ∙ cond-same (b i) (K i))

pub same-either : {A : Type 0} (b : Bool) (x : A) → cond b x x ≡ x
same-either b x = cond-same b x
