use Rattle.httparse.specs.Grammar.{HasNoResponse}
use Rattle.lb_proxy.proofs.HttpHeadLemmas.{answer_never_unfinished, answer_never_started}
use Rattle.lb_proxy.proofs.http.response.read_response.Goals as goal

pub returns-then-bytes-ge-HEAD_LIMIT-clause-refused : goal.returns-then-bytes-ge-HEAD_LIMIT-clause-refused
returns-then-bytes-ge-HEAD_LIMIT-clause-refused c other more =
    let none : HasNoResponse c.args.bytes.now = rw c.in-Ok-Partial.field-0-is at c.in-Ok-Partial.ensures.partial in
    answer_never_unfinished c.args.bytes.now more c.args.asked none c.if-bytes-ge-HEAD_LIMIT.true

pub returns-then-has_bare_feed-clause-refused : goal.returns-then-has_bare_feed-clause-refused
returns-then-has_bare_feed-clause-refused c other more =
    let none : HasNoResponse c.args.bytes.now = rw c.in-Ok-Partial.field-0-is at c.in-Ok-Partial.ensures.partial in
    answer_never_started c.args.bytes.now more c.args.asked none c.if-has_bare_feed.ensures
