use Rattle.std.proofs.Common.{refl}
use Rattle.lb_health_http.proofs.PartsLemmas.{name_taken, value_taken, few_taken}
use Rattle.lb_health_http.proofs.parts.to_parts.Goals as goal

pub append_field-requires-clause-name : goal.append_field-requires-clause-name
append_field-requires-clause-name c =
    let w = c.requires in
    name_taken c.args.head.now.bytes.items c.args.head.now.parts w.0 _ c.loop-span.span-index w.1 refl c.loop-span-test.true
    c.deref.result.now c.of-name.result.now _ c.deref.ensures.value c.of-name.ensures

pub append_field-requires-clause-value : goal.append_field-requires-clause-value
append_field-requires-clause-value c =
    let w = c.requires in
    value_taken c.args.head.now.bytes.items c.args.head.now.parts w.0 _ c.loop-span.span-index w.1 refl c.loop-span-test.true
    c.deref-in-loop-span.result.now c.of-value.result.now _ c.deref-in-loop-span.ensures.value c.of-value.ensures

pub append_field-requires-clause-room : goal.append_field-requires-clause-room
append_field-requires-clause-room c =
    let w = c.requires in
    few_taken c.args.head.now.bytes.items c.args.head.now.parts w.0 _ c.loop-span.span-index w.1 refl c.loop-span-test.true
    c.loop-span.headers _ c.loop-span.invariant
