use Rattle.std.proofs.Common.{◌≡◌, ◌*◌, ◌<◌, ◌∙◌, sym, ap, arith, refl, true, false, IsTrue}
use Rattle.std.specs.Prelude.{slice_get, Some}
use Rattle.std.proofs.lemmas.Option.{slice_get_read, same_Some}
use Rattle.lb_select_base.specs.Backends.{Member}
use Rattle.lb_select_base.specs.Seen.{address_seen}
use Rattle.lb_select.specs.Chains.{hashed_text}
use Rattle.lb_select.specs.Choices.{is_internet}
use Rattle.lb_select.specs.Crc.{crc_fed}
use Rattle.lb_select.specs.Placed.{Bears}
use Rattle.lb_select.proofs.Filling.{inet_is_internet}
use Rattle.lb_select.proofs.Marking.{marked_same, marked_more}
use Rattle.lb_select.proofs.fill.add_backend.Goals as goal
use Rattle.lb_select.proofs.fill.add_backend.Goals.{else-backend-gt0-via-then-backend-gt0+else-stands}
use Rattle.lb_select.proofs.fill.add_backend.Goals.{else-backend-gt0-via-else-backend-gt0}

pub returns-in_default : goal.returns-in_default
returns-in_default c =
    let at : slice_get c.args.list.now c.args.index ≡ Some c.index-list-index.result =
    slice_get_read _ _ _ _ refl c.requires.inside c.index-list-index.is in
    let address : is_internet (address_seen c.backend.inside.addr) ≡ is_internet c.index-list-index.result.address =
    ap (λ (z : Member). is_internet z.address) c.backend.view_is in
    let path : is_internet (address_seen c.backend.inside.addr) ≡ false = ap (λ a. is_internet (address_seen a)) c.in_default.is in
    marked_same c.args.list.now c.args.index c.args.marks.now.owners.items c.args.marks.now.chains.items c.requires.marked
    c.index-list-index.result at
    (λ b bears. let same : c.index-list-index.result ≡ b = same_Some _ _ (sym at ∙ bears.at) in
    let wrong : false ≡ true = sym path ∙ address ∙ ap (λ (z : Member). is_internet z.address) same ∙ bears.internet in absurd (cc))

pub returns-else-backend-gt0 : goal.returns-else-backend-gt0
returns-else-backend-gt0 c =
    let at : slice_get c.args.list.now c.args.index ≡ Some c.index-list-index.result =
    slice_get_read _ _ _ _ refl c.requires.inside c.index-list-index.is in
    marked_same c.args.list.now c.args.index c.args.marks.now.owners.items c.args.marks.now.chains.items c.requires.marked
    c.index-list-index.result at
    (λ b bears. let same : c.index-list-index.result ≡ b = same_Some _ _ (sym at ∙ bears.at) in
    elim c.else-backend-gt0.branch [
      | else-backend-gt0-via-then-backend-gt0+else-stands w ↦ (let t : IsTrue w.stands.result = (w.stands.ensures b bears.at).1 bears.stands
          in let f : w.stands.result ≡ false = w.if-stands.false in
          let wrong : true ≡ false = sym t ∙ f in absurd (cc))
      | else-backend-gt0-via-else-backend-gt0 w ↦
          (let weight : c.backend.inside.weight ≡ b.weight = ap (λ (z : Member). z.weight) (c.backend.view_is ∙ same) in
          let light = w.if-backend-gt0.false in let heavy : 0 < b.weight = bears.weighs in absurd (omega arith))
    ])

pub returns-in_ok-push-2 : goal.returns-in_ok-push-2
returns-in_ok-push-2 c =
    let at : slice_get c.args.list.now c.args.index ≡ Some c.index-list-index.result =
    slice_get_read _ _ _ _ refl c.requires.inside c.index-list-index.is in
    let address : address_seen c.backend.inside.addr ≡ c.index-list-index.result.address =
    ap (λ (z : Member). z.address) c.backend.view_is in
    let inet = sym (ap address_seen c.in-Inet.is) ∙ address in
    let weight : c.backend.inside.weight ≡ c.index-list-index.result.weight = ap (λ (z : Member). z.weight) c.backend.view_is in
    let bears : Bears c.args.list.now c.args.index c.index-list-index.result = record {
      at = at;
      internet = sym (ap is_internet inet) ∙ inet_is_internet c.in-Inet.inet;
      weighs = (let h : 0 < c.backend.inside.weight = c.if-backend-gt0.true in omega arith);
      stands = (c.stands.ensures c.index-list-index.result at).0 c.if-stands.true;
    } in
    rw (c.in_ok-push.ensures.items, c.in_ok-push-2.ensures.items)
    (marked_more c.args.list.now c.args.index c.args.marks.now.owners.items c.args.marks.now.chains.items c.requires.marked
    c.index-list-index.result at bears
    c.in_ok-state.state _ (c.in_ok-state.ensures ∙ ap (λ a. crc_fed 0xFFFFFFFF (hashed_text a)) inet) (ap (λ w. 160 * w) weight))
