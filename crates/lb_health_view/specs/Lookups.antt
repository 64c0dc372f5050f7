-- What a network may answer for texts, and the backends that its answers make.
use Rattle.std.specs.Prelude.{◌≡◌, ◌⊎◌, ℕ, List, [], ◌∷◌, Option, Some, None, Result, Ok, Err, IsOkAnd}
use Rattle.std.specs.Borrow.{Bor}
use Rattle.std.specs.BTreeSet.{insert_key}
use Rattle.std.specs.List.{AllZip, fold}
use Rattle.std.specs.Option.{ok_or}
use Rattle.std.specs.Net.Grammar.{IsSocketText}
use Rattle.std.specs.Net.ToAddrs.{HostAddrs, host_addrs}
use Rattle.std.specs.declared.net.socket_addr.SocketAddr.{SocketAddr}
use Rattle.lb_select_base.specs.AddressText.{bare_member, socket_seen}
use Rattle.lb_select_base.specs.Backends.{Address, Member, member_cmp}
use Rattle.lb_select_base.specs.Refusals.{Refuses, earlier}
use Rattle.lb_select_base.specs.declared.refusal.Refusal.{Refusal}
use Rattle.lb_select_base.specs.declared.refusal.Refusal.TheVariants.{InvalidAddress, Discovery, OutOfMemory}

-- one answer for a text: an address, or why there is none
abbrev pub Answer : Type 0
Answer = Result Address Refusal

-- a socket address of std is an address, but is refused where it has a scope
abbrev pub socket_answer : SocketAddr → Answer
socket_answer s = ok_or (socket_seen s) InvalidAddress

-- A text that spells a socket address, by the grammar that std parses, has that answer alone, whatever the network. A text that
-- spells none may have any answers: what a lookup gives is the network's.
abbrev pub AreAnswers : List ℕ → List Answer → Type 0
AreAnswers text answers = (s : SocketAddr) → IsSocketText text s → answers ≡ socket_answer s ∷ []

-- where std parses the text, the one address that it spells comes
abbrev pub FindsSpelled : List ℕ → Result HostAddrs Refusal → Type 0
FindsSpelled text r =
    (s : SocketAddr) → IsSocketText text s
    → IsOkAnd r (λ it. (t : SocketAddr) × (host_addrs it ≡ t ∷ []) × IsSocketText text t)

-- why an answer has no address
abbrev pub cause_of : Answer → Option Refusal
cause_of (Ok a) = None
cause_of (Err e) = Some e

-- the cause of the least number among some answers and an earlier one; the want of memory is the last of those that come
abbrev pub cause_after : Option Refusal → List Answer → Option Refusal
cause_after c answers = fold (λ d a. earlier d (cause_of a)) c answers

-- the same among the answers for all texts
abbrev pub cause_among : List (List Answer) → Option Refusal
cause_among all = fold cause_after None all

-- a backend of weight 1 at the address, unless it is there already
abbrev pub with_answer : List Member → Answer → List Member
with_answer members (Ok a) = insert_key member_cmp members (bare_member 1 a)
with_answer members (Err e) = members

-- the same for some answers, and for those of all texts
abbrev pub with_answers : List Member → List Answer → List Member
with_answers members answers = fold with_answer members answers

abbrev pub backends_of : List (List Answer) → List Member
backends_of all = fold with_answers [] all

-- why a text may be refused
abbrev pub IsLookupCause : Refusal → Type 0
IsLookupCause e = (e ≡ InvalidAddress) ⊎ ((e ≡ Discovery) ⊎ (e ≡ OutOfMemory))

-- How far it came: without a cause to refuse these are the backends, and else the cause is kept, or that a set had no memory
-- where there is no other.
abbrev pub Gathers : Option Refusal → List Member → Option Refusal → List Member → Type 0
Gathers c members None keys = (c ≡ None) × (keys ≡ members)
Gathers c members (Some e) keys = IsLookupCause e × ((c ≡ Some e) ⊎ ((c ≡ None) × (e ≡ OutOfMemory)))

-- the backends at all addresses that some network answered for the texts, or the least of its refusals
abbrev pub IsMadeOf : List (Bor (List ℕ)) → Result (List Member) Refusal → Type 0
IsMadeOf texts r =
    (all : List (List Answer)) × AllZip (λ t answers. AreAnswers t.now answers) texts all
    × Refuses (cause_among all) (λ members. members ≡ backends_of all) r
