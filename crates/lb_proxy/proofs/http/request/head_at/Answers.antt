use Rattle.std.proofs.Common.{sym, ◌∙◌, ◌≡◌, true, false, Err, codes, map}
use Rattle.std.specs.List.{list_any}
use Rattle.lb_proxy.specs.Http.Fields.{values_of, options_of, is_guarded}
use Rattle.lb_proxy.specs.Http.Framing.{request_framing, statement_of}
use Rattle.lb_proxy.specs.Http.Refusals.{asks_more}
use Rattle.lb_proxy.specs.Http.Heads.{version_of, right_host, is_right_target}
use Rattle.lb_proxy.proofs.HttpHeadLemmas.{few_fields, never_long, never_bare, never_framed, never_asking, never_guarded, never_hosted}
use Rattle.lb_proxy.proofs.HttpHeadLemmas.{asks_seen}
use Rattle.lb_proxy.proofs.HttpHeadLemmas.{never_targeted}
use Rattle.lb_proxy.proofs.http.request.head_at.Goals as goal

pub returns-then-found-gt-HEAD_LIMIT-clause-refused : goal.returns-then-found-gt-HEAD_LIMIT-clause-refused
returns-then-found-gt-HEAD_LIMIT-clause-refused c other more =
    never_long c.args.bytes.now more c.args.spans.now c.args.found.now c.requires.complete c.if-found-gt-HEAD_LIMIT.true

pub returns-then-has_bare_feed-clause-refused : goal.returns-then-has_bare_feed-clause-refused
returns-then-has_bare_feed-clause-refused c other more =
    never_bare c.args.bytes.now more c.args.spans.now c.args.found.now c.requires.complete c.requires.within.section.len_fits
    c.if-has_bare_feed.ensures

pub returns-then-names_guarded-clause-refused : goal.returns-then-names_guarded-clause-refused
returns-then-names_guarded-clause-refused c other more =
    let fields = c.in-Ok.fields.items in
    let options = c.in-Ok-connection_options.options.items in
    let listed : map (λ o. o.now) options ≡ options_of fields = cc (c.in-Ok-connection_options.ensures.listed, c.deref.ensures.value) in
    let holds : list_any (λ o. is_guarded o.now) options ≡ true =
    cc (c.names_guarded.ensures, c.deref-3.ensures.value, c.if-names_guarded.true) in
    never_guarded c.args.bytes.now more c.args.spans.now c.args.found.now c.requires.complete fields options
    c.in-Ok.ensures.copied listed holds

pub returns-then-not-has_right_host-clause-refused : goal.returns-then-not-has_right_host-clause-refused
returns-then-not-has_right_host-clause-refused c other more =
    let fields = c.in-Ok.fields.items in
    let fails : right_host (version_of c.args.found.now.version) (values_of (codes "host") fields) ≡ false =
    cc (c.has_right_host.ensures, c.version_of-version.ensures, c.deref-4.ensures.value, c.if-not-has_right_host.true) in
    never_hosted c.args.bytes.now more c.args.spans.now c.args.found.now c.requires.complete fields c.in-Ok.ensures.copied fails

pub returns-then-not-is_right_target-clause-refused : goal.returns-then-not-is_right_target-clause-refused
returns-then-not-is_right_target-clause-refused c other more =
    let method = c.of-method.result.now in
    let target = c.of-target.result.now in
    let fails : is_right_target method target ≡ false = cc (c.is_right_target.ensures, c.if-not-is_right_target.true) in
    never_targeted c.args.bytes.now more c.args.spans.now c.args.found.now c.requires.complete method target
    c.of-method.ensures c.of-target.ensures fails

pub returns-clause-few : goal.returns-clause-few
returns-clause-few c =
    few_fields c.args.bytes.now c.args.spans.now c.args.found.now.headers c.in-Ok.fields.items c.requires.room c.in-Ok.ensures.copied

pub returns-then-asks_more-clause-refused : goal.returns-then-asks_more-clause-refused
returns-then-asks_more-clause-refused c other more =
    let fields = c.in-Ok.fields.items in
    let method = c.of-method.result.now in
    let holds : asks_more (statement_of (version_of c.args.found.now.version) fields) method ≡ true =
    cc (c.asks_more.ensures, c.statement_of-stated.ensures, c.version_of-version.ensures, c.deref-2.ensures.value, c.if-asks_more.true) in
    never_asking c.args.bytes.now more c.args.spans.now c.args.found.now c.requires.complete fields method c.in-Ok.ensures.copied
    c.of-method.ensures holds

pub returns-then-asks_more-clause-why : goal.returns-then-asks_more-clause-why
returns-then-asks_more-clause-why c =
    let fields = c.in-Ok.fields.items in
    let method = c.of-method.result.now in
    let holds : asks_more (statement_of (version_of c.args.found.now.version) fields) method ≡ true =
    cc (c.asks_more.ensures, c.statement_of-stated.ensures, c.version_of-version.ensures, c.deref-2.ensures.value, c.if-asks_more.true) in
    let seen = asks_seen c.args.bytes.now c.args.spans.now c.args.found.now fields method c.in-Ok.ensures.copied c.of-method.ensures in
    ((c.if-found-gt-HEAD_LIMIT.false, c.if-has_bare_feed.ensures), sym seen ∙ holds)

pub returns-in_default-request_framing-clause-refused : goal.returns-in_default-request_framing-clause-refused
returns-in_default-request_framing-clause-refused c other more =
    let fields = c.in-Ok.fields.items in
    let fails : request_framing (statement_of (version_of c.args.found.now.version) fields) ≡ Err c.in_default-request_framing.field-0 =
    cc (
      c.request_framing.ensures,
      c.statement_of-stated.ensures,
      c.version_of-version.ensures,
      c.deref-2.ensures.value,
      c.in_default-request_framing.is,
    ) in
    never_framed c.args.bytes.now more c.args.spans.now c.args.found.now c.requires.complete fields c.in_default-request_framing.field-0
    c.in-Ok.ensures.copied fails

pub returns-in_default-request_framing-clause-why : goal.returns-in_default-request_framing-clause-why
returns-in_default-request_framing-clause-why c =
    let fields = c.in-Ok.fields.items in
    let method = c.of-method.result.now in
    let fails : asks_more (statement_of (version_of c.args.found.now.version) fields) method ≡ false =
    cc (c.asks_more.ensures, c.statement_of-stated.ensures, c.version_of-version.ensures, c.deref-2.ensures.value, c.if-asks_more.false) in
    let seen = asks_seen c.args.bytes.now c.args.spans.now c.args.found.now fields method c.in-Ok.ensures.copied c.of-method.ensures in
    (c.if-found-gt-HEAD_LIMIT.false, λ strict. sym seen ∙ fails)

pub returns-then-names_guarded-clause-why : goal.returns-then-names_guarded-clause-why
returns-then-names_guarded-clause-why c =
    let fields = c.in-Ok.fields.items in
    let method = c.of-method.result.now in
    let fails : asks_more (statement_of (version_of c.args.found.now.version) fields) method ≡ false =
    cc (c.asks_more.ensures, c.statement_of-stated.ensures, c.version_of-version.ensures, c.deref-2.ensures.value, c.if-asks_more.false) in
    let seen = asks_seen c.args.bytes.now c.args.spans.now c.args.found.now fields method c.in-Ok.ensures.copied c.of-method.ensures in
    (c.if-found-gt-HEAD_LIMIT.false, λ strict. sym seen ∙ fails)

pub returns-then-not-has_right_host-clause-why : goal.returns-then-not-has_right_host-clause-why
returns-then-not-has_right_host-clause-why c =
    let fields = c.in-Ok.fields.items in
    let method = c.of-method.result.now in
    let fails : asks_more (statement_of (version_of c.args.found.now.version) fields) method ≡ false =
    cc (c.asks_more.ensures, c.statement_of-stated.ensures, c.version_of-version.ensures, c.deref-2.ensures.value, c.if-asks_more.false) in
    let seen = asks_seen c.args.bytes.now c.args.spans.now c.args.found.now fields method c.in-Ok.ensures.copied c.of-method.ensures in
    (c.if-found-gt-HEAD_LIMIT.false, λ strict. sym seen ∙ fails)

pub returns-then-not-is_right_target-clause-why : goal.returns-then-not-is_right_target-clause-why
returns-then-not-is_right_target-clause-why c =
    let fields = c.in-Ok.fields.items in
    let method = c.of-method.result.now in
    let fails : asks_more (statement_of (version_of c.args.found.now.version) fields) method ≡ false =
    cc (c.asks_more.ensures, c.statement_of-stated.ensures, c.version_of-version.ensures, c.deref-2.ensures.value, c.if-asks_more.false) in
    let seen = asks_seen c.args.bytes.now c.args.spans.now c.args.found.now fields method c.in-Ok.ensures.copied c.of-method.ensures in
    (c.if-found-gt-HEAD_LIMIT.false, λ strict. sym seen ∙ fails)
