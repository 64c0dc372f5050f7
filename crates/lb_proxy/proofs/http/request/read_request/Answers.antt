use Rattle.httparse.specs.Grammar.{HasNoRequest}
use Rattle.std.proofs.Common.{◌≡◌, true, false, arith}
use Rattle.lb_proxy.specs.Http.Refusals.{names_other_version}
use Rattle.lb_proxy.proofs.HttpRefusalLemmas.{never_newer, why_whole}
use Rattle.lb_proxy.proofs.HttpHeadLemmas.{never_unfinished, never_started}
use Rattle.lb_proxy.proofs.http.request.read_request.Goals as goal

pub returns-then-bytes-ge-HEAD_LIMIT-clause-refused : goal.returns-then-bytes-ge-HEAD_LIMIT-clause-refused
returns-then-bytes-ge-HEAD_LIMIT-clause-refused c other more =
    let none : HasNoRequest c.args.bytes.now = rw c.in-Ok-Partial.field-0-is at c.in-Ok-Partial.ensures.partial in
    never_unfinished c.args.bytes.now more none c.if-bytes-ge-HEAD_LIMIT.true

pub returns-then-has_bare_feed-clause-refused : goal.returns-then-has_bare_feed-clause-refused
returns-then-has_bare_feed-clause-refused c other more =
    let none : HasNoRequest c.args.bytes.now = rw c.in-Ok-Partial.field-0-is at c.in-Ok-Partial.ensures.partial in
    never_started c.args.bytes.now more none c.if-has_bare_feed.ensures

pub returns-then-names_other_version-clause-refused : goal.returns-then-names_other_version-clause-refused
returns-then-names_other_version-clause-refused c other more =
    let named : names_other_version c.args.bytes.now ≡ true = cc (c.names_other_version.ensures, c.if-names_other_version.true) in
    never_newer c.args.bytes.now more named

pub returns-in-Err-head_at-clause-why : goal.returns-in-Err-head_at-clause-why
returns-in-Err-head_at-clause-why c =
    let plain : names_other_version c.args.bytes.now ≡ false = cc (c.names_other_version.ensures, c.if-names_other_version.false) in
    let complete = rw c.in-Ok-Complete.field-0-is at c.in-Ok-Complete.ensures.complete in
    let within = rw c.in-Ok-Complete.field-0-is at c.in-Ok-Complete.ensures.within in
    why_whole c.args.bytes.now c.parse_request.new.headers c.in-Ok-Complete.found complete (omega arith) within.section.count_fits plain
    c.in-Err-head_at.fault c.in-Err-head_at.ensures.why
