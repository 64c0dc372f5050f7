use Rattle.std.proofs.Common.{◌≡◌, ℕ, ◌+◌, get_or, length, slice_range, sym, subst, arith}
use Rattle.lb_proxy.proofs.HttpOptionLemmas.{IsClear, clear_more, clear_none, no_comma, comma_same, last_same}
use Rattle.lb_proxy.proofs.http.field.push_options.Goals.{then-byte-eq44+in_ok-push, else-byte-eq44}
use Rattle.lb_proxy.proofs.http.field.push_options.Goals as goal

pub loop-index-preserved : goal.loop-index-preserved
loop-index-preserved c =
    let value = c.args.value.now in
    let start = c.loop-index.start in
    let index = c.loop-index.index in
    let ordered = c.loop-index.invariant.ordered in
    let inside = c.loop-index-test.true in
    elim c.if-byte-eq44.branch [
      | then-byte-eq44+in_ok-push w ↦
          record {
            ordered = omega (arith, w.start-is);
            within = omega arith;
            clear = subst (λ (s : ℕ). IsClear (slice_range value s (index + 1))) (sym w.start-is) (clear_none value (index + 1));
            same = comma_same value start index c.if-byte-eq44.start c.loop-index.options.items c.if-byte-eq44.options.items w.trim.result _
                ordered inside c.loop-index.invariant.clear w.if-byte-eq44.true w.trim.ensures (cc (w.in_ok-push.ensures.items)) w.start-is
                c.loop-index.invariant.same;
          }
      | else-byte-eq44 w ↦
          record {
            ordered = omega (arith, w.start-is);
            within = omega arith;
            clear = subst (λ (s : ℕ). IsClear (slice_range value s (index + 1))) (sym w.start-is)
                (clear_more value start index ordered inside c.loop-index.invariant.clear
                (no_comma (get_or value index 0) w.if-byte-eq44.false));
            same = rw (w.options-is, w.start-is) c.loop-index.invariant.same;
          }
    ]

pub returns : goal.returns
returns c =
    let value = c.args.value.now in
    let start = c.loop-index.start in
    let ordered = c.loop-index.invariant.ordered in
    let within = c.loop-index.invariant.within in
    let end : c.loop-index.index ≡ length value = omega (arith, c.loop-index-test.false) in
    last_same value start c.loop-index.options.items c.push-2.new.self.items c.trim-2.result _ (omega arith)
    (subst (λ (n : ℕ). IsClear (slice_range value start n)) end c.loop-index.invariant.clear) c.trim-2.ensures
    c.in_ok-push-2.ensures.items c.loop-index.invariant.same
