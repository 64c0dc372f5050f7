use Rattle.std.proofs.Common.{◌≡◌, true, Err, map}
use Rattle.std.specs.List.{list_any}
use Rattle.lb_proxy.specs.Http.Fields.{options_of, is_guarded}
use Rattle.lb_proxy.specs.Http.Framing.{response_framing, statement_of}
use Rattle.lb_proxy.specs.Http.Heads.{version_of}
use Rattle.lb_proxy.proofs.HttpHeadLemmas.{few_fields, answer_never_long, answer_never_low, answer_never_switch, answer_never_bare}
use Rattle.lb_proxy.proofs.HttpHeadLemmas.{answer_never_framed, answer_never_guarded}
use Rattle.lb_proxy.proofs.http.response.head_at.Goals as goal

pub returns-then-found-gt-HEAD_LIMIT-clause-refused : goal.returns-then-found-gt-HEAD_LIMIT-clause-refused
returns-then-found-gt-HEAD_LIMIT-clause-refused c other more =
    answer_never_long c.args.bytes.now more c.args.spans.now c.args.found.now c.args.asked c.requires.complete c.if-found-gt-HEAD_LIMIT.true

pub returns-then-found-lt100-clause-refused : goal.returns-then-found-lt100-clause-refused
returns-then-found-lt100-clause-refused c other more =
    answer_never_low c.args.bytes.now more c.args.spans.now c.args.found.now c.args.asked c.requires.complete c.if-found-lt100.true

pub returns-then-found-eq101-clause-refused : goal.returns-then-found-eq101-clause-refused
returns-then-found-eq101-clause-refused c other more =
    answer_never_switch c.args.bytes.now more c.args.spans.now c.args.found.now c.args.asked c.requires.complete c.if-found-eq101.true

pub returns-then-has_bare_feed-clause-refused : goal.returns-then-has_bare_feed-clause-refused
returns-then-has_bare_feed-clause-refused c other more =
    answer_never_bare c.args.bytes.now more c.args.spans.now c.args.found.now c.args.asked c.requires.complete
    c.requires.within.section.len_fits c.if-has_bare_feed.ensures

pub returns-then-names_guarded-clause-refused : goal.returns-then-names_guarded-clause-refused
returns-then-names_guarded-clause-refused c other more =
    let fields = c.in-Ok.fields.items in
    let options = c.in-Ok-connection_options.options.items in
    let listed : map (λ o. o.now) options ≡ options_of fields = cc (c.in-Ok-connection_options.ensures.listed, c.deref.ensures.value) in
    let holds : list_any (λ o. is_guarded o.now) options ≡ true =
    cc (c.names_guarded.ensures, c.deref-2.ensures.value, c.if-names_guarded.true) in
    answer_never_guarded c.args.bytes.now more c.args.spans.now c.args.found.now c.args.asked c.requires.complete fields options
    c.in-Ok.ensures.copied listed
    holds

pub returns-clause-few : goal.returns-clause-few
returns-clause-few c =
    few_fields c.args.bytes.now c.args.spans.now c.args.found.now.headers c.in-Ok.fields.items c.requires.room c.in-Ok.ensures.copied

pub returns-in_default-response_framing-clause-refused : goal.returns-in_default-response_framing-clause-refused
returns-in_default-response_framing-clause-refused c other more =
    let fields = c.in-Ok.fields.items in
    let found = c.args.found.now in
    let fault = c.in_default-response_framing.field-0 in
    let fails : response_framing c.args.asked found.code (statement_of (version_of found.version) fields) ≡ Err fault =
    cc (
      c.response_framing.ensures,
      c.statement_of-stated.ensures,
      c.version_of-version.ensures,
      c.deref-3.ensures.value,
      c.in_default-response_framing.is,
    ) in
    answer_never_framed c.args.bytes.now more c.args.spans.now found c.args.asked c.requires.complete fields fault
    c.in-Ok.ensures.copied fails
