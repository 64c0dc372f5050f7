-- One answer more: what becomes of the least cause and of the backends so far.
use Rattle.std.proofs.Common.{◌≡◌, inl, inr, ℕ, List, [], ◌∷◌, ◌++◌, map, Bool, true, false, cond, Option, Some, None, Result, Ok, Err}
use Rattle.std.proofs.Common.{refl, sym, ap, ◌∙◌, subst, ok_or}
use Rattle.std.specs.Borrow.{Bor}
use Rattle.std.specs.List.{AllZip}
use Rattle.std.specs.Net.Grammar.{IsSocketText}
use Rattle.std.specs.Result.{result_err}
use Rattle.std.specs.declared.net.socket_addr.SocketAddr.{SocketAddr}
use Rattle.std.proofs.lemmas.List.{map-append}
use Rattle.std.proofs.lemmas.List.Sums.{fold-append}
use Rattle.lb_select_base.specs.AddressText.{socket_seen}
use Rattle.lb_select_base.specs.Backends.{Address, Member}
use Rattle.lb_select_base.specs.Refusals.{Refuses, earlier}
use Rattle.lb_select_base.specs.declared.refusal.Refusal.{Refusal}
use Rattle.lb_select_base.specs.declared.refusal.Refusal.TheVariants.{InvalidAddress, OutOfMemory}
use Rattle.std.proofs.lemmas.Option.{none-some, same_Some}
use Rattle.lb_select_base.proofs.AddressTexts.{internet_read}
use Rattle.lb_select_base.proofs.LeastCauses.{earlier-none}
use Rattle.lb_health_view.specs.Discoveries.{IsDiscoveryRefusal}
use Rattle.lb_health_view.specs.Lookups.{Answer, AreAnswers, Gathers, IsLookupCause, cause_of, cause_after, socket_answer, with_answer}
use Rattle.lb_health_view.specs.Lookups.{with_answers}

-- the two addresses that one text spells are one answer
pub one_answer : (text : List ℕ) (s t : SocketAddr) → IsSocketText text s → IsSocketText text t → socket_answer t ≡ socket_answer s
one_answer text s t hs ht = ap (λ o. ok_or o InvalidAddress) (sym (internet_read text t ht) ∙ internet_read text s hs)

-- why a lookup may be refused
pub cause_of_lookup : {A : Type 0} (e : Refusal) → IsDiscoveryRefusal {A = A} (Err e) → IsLookupCause e
cause_of_lookup e (inl h) = inr (inl (cc))
cause_of_lookup e (inr h) = inr (inr (cc))

-- nothing comes after the want of memory
after_memory : (e : Refusal) → IsLookupCause e → earlier (Some e) (Some OutOfMemory) ≡ Some e
after_memory e (inl is) = rw is refl
after_memory e (inr (inl is)) = rw is refl
after_memory e (inr (inr is)) = rw is refl

before_memory : (e : Refusal) → IsLookupCause e → earlier (Some OutOfMemory) (Some e) ≡ Some e
before_memory e (inl is) = rw is refl
before_memory e (inr (inl is)) = rw is refl
before_memory e (inr (inr is)) = rw is refl

-- the earlier of two is one of them
one_of : (b : Bool) (e f : Refusal) → IsLookupCause e → IsLookupCause f → (g : Refusal) × (cond b (Some f) (Some e) ≡ Some g)
    × IsLookupCause g
one_of true e f he hf = (f, refl, hf)
one_of false e f he hf = (e, refl, he)

-- a refusal more
pub refused_more : (c : Option Refusal) (members : List Member) (cause : Option Refusal) (keys after : List Member) (f : Refusal)
    → IsLookupCause f
    → Gathers c members cause keys → Gathers (earlier c (Some f)) members (earlier cause (Some f)) after
refused_more c members None keys after f hf h = (hf, inl (rw h.0 refl))
refused_more c members (Some e) keys after f hf (he, inl is) =
    let (g, same, hg) = one_of _ e f he hf in
    rw is (subst (λ o. Gathers o members o after) (sym same) (hg, inl refl))
refused_more c members (Some e) keys after f hf (he, inr is) =
    rw (is.0, is.1) (subst (λ o. Gathers (Some f) members o after) (sym (before_memory f hf)) (hf, inl refl))

-- no memory for one more backend
unkept : (c : Option Refusal) (members with : List Member) (cause : Option Refusal) (keys after : List Member)
    → Gathers c members cause keys → Gathers c with (earlier cause (Some OutOfMemory)) after
unkept c members with None keys after h = (inr (inr refl), inr (h.0, refl))
unkept c members with (Some e) keys after h = rw (after_memory e h.0) h

-- one backend more
kept : (c : Option Refusal) (members keys : List Member) (cause : Option Refusal) (x : Answer) → cause_of x ≡ None
    → Gathers c members cause keys → Gathers c (with_answer members x) cause (with_answer keys x)
kept c members keys None x none h = (h.0, ap (λ ms. with_answer ms x) h.1)
kept c members keys (Some e) x none h = h

-- one address more
one_address : (c cause : Option Refusal) (members keys after : List Member) (o : Option Address) (r : Result (Unit {0}) Refusal)
    → Refuses (cause_of (ok_or o InvalidAddress)) (λ _. after ≡ with_answer keys (ok_or o InvalidAddress)) r → Gathers c members cause keys
    → Gathers (earlier c (cause_of (ok_or o InvalidAddress))) (with_answer members (ok_or o InvalidAddress))
    (earlier cause (result_err r)) after
one_address c cause members keys after None (Ok u) h g = absurd (none-some InvalidAddress (sym h.0))
one_address c cause members keys after None (Err e) (inl h) g =
    let is = same_Some InvalidAddress e h in
    rw (← is) (refused_more c members cause keys after InvalidAddress (inl refl) g)
one_address c cause members keys after None (Err e) (inr h) g = absurd (none-some InvalidAddress (sym h.0))
one_address c cause members keys after (Some a) (Ok u) h g =
    rw (earlier-none c, earlier-none cause, h.1) (kept c members keys cause (Ok a) refl g)
one_address c cause members keys after (Some a) (Err e) (inl h) g = absurd (none-some e h)
one_address c cause members keys after (Some a) (Err e) (inr h) g =
    rw (earlier-none c, h.1) (unkept c members (with_answer members (Ok a)) cause keys after g)

-- one more of the addresses that were found
pub one_more : (c cause : Option Refusal) (members keys after : List Member) (ys : List SocketAddr) (y : SocketAddr)
    (r : Result (Unit {0}) Refusal)
    → Refuses (cause_of (socket_answer y)) (λ _. after ≡ with_answer keys (socket_answer y)) r
    → Gathers (cause_after c (map socket_answer ys)) (with_answers members (map socket_answer ys)) cause keys
    → Gathers (cause_after c (map socket_answer (ys ++ y ∷ []))) (with_answers members (map socket_answer (ys ++ y ∷ [])))
    (earlier cause (result_err r)) after
one_more c cause members keys after ys y r h g =
    let xs = map socket_answer ys in
    let more = map-append socket_answer ys (y ∷ []) in
    let causes = fold-append (λ d a. earlier d (cause_of a)) c xs (socket_answer y ∷ []) in
    let backends = fold-append with_answer members xs (socket_answer y ∷ []) in
    rw (more, causes, backends) (one_address (cause_after c xs) cause (with_answers members xs) keys after (socket_seen y) r h g)

-- the answers for one text more
pub text_more : (texts : List (Bor (List ℕ))) (all : List (List Answer)) (t : Bor (List ℕ)) (answers : List Answer)
    → AllZip (λ t answers. AreAnswers t.now answers) texts all → AreAnswers t.now answers
    → AllZip (λ t answers. AreAnswers t.now answers) (texts ++ t ∷ []) (all ++ answers ∷ [])
text_more [] [] t answers h a = (a, tt)
text_more [] (earlier_answers ∷ all) t answers h a = absurd h
text_more (u ∷ texts) [] t answers h a = absurd h
text_more (u ∷ texts) (earlier_answers ∷ all) t answers h a = (h.0, text_more texts all t answers h.1 a)
