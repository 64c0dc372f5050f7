use Rattle.std.proofs.Common.{◌≡◌, ℕ, List, ◌++◌, ◌+◌, ◌<◌, ◌≤◌, arith, length, length-append, length-take, take, drop, subst, ap, ◌∙◌}
use Rattle.std.specs.Io.KnownBytes.{prepend_known}
use Rattle.std.proofs.KnownBytes.{Keeps-trans}
use Rattle.lb_stream.specs.Counted.{inner_of}
use Rattle.lb_stream.proofs.StreamLemmas.{OnBytes-kept}
use Rattle.lb_stream.specs.Lines.{first_line}
use Rattle.lb_stream.proofs.LinesLemmas.{line_too_long, line_has_byte, line_ends, line_is_part, line_goes_on, front_goes_on, grown_by}
use Rattle.lb_stream.proofs.lines.read_line.Goals as goal

pub returns-in-Err-Read-clause-found : goal.returns-in-Err-Read-clause-found
returns-in-Err-Read-clause-found g c =
    let whole = prepend_known c.args.ahead.now (g.R.Read.remaining (inner_of c.args.reader.now)) in
    let line = c.loop-line.line.items in
    line_is_part whole (prepend_known c.fill.new.self (g.R.Read.remaining (inner_of c.fill.new.reader))) line c.loop-line.invariant.front
    (OnBytes-kept (λ stream rest. stream ≡ line ++ rest) whole _ _ c.loop-line.invariant.read c.fill.ensures.bytes)

pub returns-then-count-len-clause-found : goal.returns-then-count-len-clause-found
returns-then-count-len-clause-found g c =
    let whole = prepend_known c.args.ahead.now (g.R.Read.remaining (inner_of c.args.reader.now)) in
    let line = c.loop-line.line.items in
    let held = c.fill.new.self in
    let place : c.feed_place-count.result ≡ length (first_line held) =
    c.feed_place-count.ensures.place ∙ ap (λ bytes. length (first_line bytes)) c.bytes-bytes.ensures.value in
    line_too_long whole (g.R.Read.remaining (inner_of c.fill.new.reader)) line held c.loop-line.invariant.front
    (OnBytes-kept (λ stream rest. stream ≡ line ++ rest) whole _ _ c.loop-line.invariant.read c.fill.ensures.bytes)
    (let len = c.loop-line.line.ok in omega arith)

pub returns-in-Err-clause-found : goal.returns-in-Err-clause-found
returns-in-Err-clause-found g c =
    let whole = prepend_known c.args.ahead.now (g.R.Read.remaining (inner_of c.args.reader.now)) in
    let line = c.loop-line.line.items in
    let held = c.fill.new.self in
    let place : c.feed_place-count.result ≡ length (first_line held) =
    c.feed_place-count.ensures.place ∙ ap (λ bytes. length (first_line bytes)) c.bytes-bytes.ensures.value in
    line_has_byte whole (g.R.Read.remaining (inner_of c.fill.new.reader)) line held c.loop-line.invariant.front
    (OnBytes-kept (λ stream rest. stream ≡ line ++ rest) whole _ _ c.loop-line.invariant.read c.fill.ensures.bytes)
    (let full = c.in-Err.ensures.full in let room = c.loop-line.line.ok in
    omega (arith, length-take c.feed_place-count.result c.bytes-bytes.result.now))

pub returns-then-count-bytes-clause-found : goal.returns-then-count-bytes-clause-found
returns-then-count-bytes-clause-found g c =
    let whole = prepend_known c.args.ahead.now (g.R.Read.remaining (inner_of c.args.reader.now)) in
    let known = g.R.Read.remaining (inner_of c.fill.new.reader) in
    let line = c.loop-line.line.items in
    let held = c.fill.new.self in
    let count = c.feed_place-count.result in
    let place : count ≡ length (first_line held) =
    c.feed_place-count.ensures.place ∙ ap (λ bytes. length (first_line bytes)) c.bytes-bytes.ensures.value in
    let less : count < length held = subst (λ (bytes : List ℕ). count < length bytes) c.bytes-bytes.ensures.value c.if-count-bytes.true in
    let left : c.consume.new.self ≡ drop (count + 1) held = c.consume.ensures in
    let grown : c.extend_from_slice.new.self.items ≡ line ++ take count held =
    grown_by c.extend_from_slice.new.self.items line held c.bytes-bytes.result.now count c.in-Ok.ensures.items
    c.bytes-bytes.ensures.value in
    let short : length (line ++ take count held) ≤ 16777216 =
    (let len = c.loop-line.line.ok in omega (arith, length-append line (take count held), length-take count held)) in
    rw (left, grown) (line_ends whole known line held count c.loop-line.invariant.front
    (OnBytes-kept (λ stream rest. stream ≡ line ++ rest) whole _ _ c.loop-line.invariant.read c.fill.ensures.bytes)
    place less short)

pub loop-line-preserved : goal.loop-line-preserved
loop-line-preserved g c =
    let whole = prepend_known c.args.ahead.now (g.R.Read.remaining (inner_of c.args.reader.now)) in
    let known = g.R.Read.remaining (inner_of c.fill.new.reader) in
    let line = c.loop-line.line.items in
    let held = c.fill.new.self in
    let count = c.feed_place-count.result in
    let place : count ≡ length (first_line held) =
    c.feed_place-count.ensures.place ∙ ap (λ bytes. length (first_line bytes)) c.bytes-bytes.ensures.value in
    let all : length held ≤ count = subst (λ (bytes : List ℕ). length bytes ≤ count) c.bytes-bytes.ensures.value c.if-count-bytes.false in
    let left : c.consume-in-loop-line.new.self ≡ drop count held = c.consume-in-loop-line.ensures in
    let grown : c.extend_from_slice.new.self.items ≡ line ++ take count held =
    grown_by c.extend_from_slice.new.self.items line held c.bytes-bytes.result.now count c.in-Ok.ensures.items
    c.bytes-bytes.ensures.value in
    record {
      read = rw (left, grown) (line_goes_on whole known line held count c.loop-line.invariant.front
          (OnBytes-kept (λ stream rest. stream ≡ line ++ rest) whole _ _ c.loop-line.invariant.read c.fill.ensures.bytes));
      front = rw grown (front_goes_on line held count c.loop-line.invariant.front place all);
      room = (let len = c.in-Ok.ensures.len in omega (arith, length-take c.feed_place-count.result c.bytes-bytes.result.now));
      written = Keeps-trans _ _ _ c.loop-line.invariant.written c.fill.ensures.written;
      reader_kept = c.in-Ok-true.ensures.reader_kept (λ e. cc) ∙ c.loop-line.invariant.reader_kept;
      writer_kept = c.in-Ok-true.ensures.writer_kept (λ e. cc) ∙ c.loop-line.invariant.writer_kept;
    }
