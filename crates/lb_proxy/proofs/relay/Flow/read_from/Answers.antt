use Rattle.std.proofs.Common.{◌≡◌, ◌+◌, ◌<◌, ◌≤◌, [], length, take, drop, arith, refl, sym, subst, ◌∙◌}
use Rattle.std.proofs.lemmas.List.{with_items_is}
use Rattle.std.proofs.lemmas.Result.{err_from_is_err_and}
use Rattle.lb_proxy.specs.declared.relay.Phase.TheVariants.{Ending}
use Rattle.lb_proxy.specs.Relay.{ended, read_event, CanRead, Step}
use Rattle.lb_proxy.proofs.FlowLemmas.{seen, seen_kept, read_some, read_none, length-read}
use Rattle.lb_proxy.proofs.relay.Flow.read_from.Goals as goal

pub returns-in_err-count-clause-err : goal.returns-in_err-count-clause-err
returns-in_err-count-clause-err g c =
    let a = c.self.inside in
    let new = c.read_behind.new.buffer in
    let front : take a.end c.read_behind.new.buffer ≡ take a.end a.buffer.items =
    rw c.deref_mut.ensures.value at c.read_behind.ensures.front in
    let same : length c.read_behind.new.buffer ≡ a.buffer.len = omega (arith, c.deref_mut.ensures.len, c.read_behind.auto.buffer) in
    let out = err_from_is_err_and c.from_residual.result c.from_residual.ensures.1 in
    rw out.1
    (subst (λ l. seen l a.start a.end a.phase ≡ c.args.self.now) (sym (with_items_is a.buffer new same))
    (seen_kept a.buffer.items new a.start a.end a.phase c.self.invariant.0 front ∙ c.self.view_is))

pub returns-then-count-eq0-clause-ok : goal.returns-then-count-eq0-clause-ok
returns-then-count-eq0-clause-ok g c =
    let a = c.self.inside in
    let new = c.read_behind.new.buffer in
    let front : take a.end c.read_behind.new.buffer ≡ take a.end a.buffer.items =
    rw c.deref_mut.ensures.value at c.read_behind.ensures.front in
    let same : length c.read_behind.new.buffer ≡ a.buffer.len = omega (arith, c.deref_mut.ensures.len, c.read_behind.auto.buffer) in
    let can : CanRead (seen a.buffer.items a.start a.end a.phase) = subst CanRead (sym c.self.view_is) c.requires in (
      [],
      refl,
      subst (λ l. Step c.args.self.now ended (seen l a.start a.end Ending)) (sym (with_items_is a.buffer new same))
          (subst (λ s. Step s ended (seen new a.start a.end Ending)) c.self.view_is
          (read_none a.buffer.items new a.start a.end a.phase can c.self.invariant.0 front)),
      rw c.if-count-eq0.true at c.in_ok-count.ensures.bytes.0,
    )

pub returns-clause-ok : goal.returns-clause-ok
returns-clause-ok g c =
    let a = c.self.inside in
    let n = c.in_ok-count.count in
    let new = c.read_behind.new.buffer in
    let front : take a.end c.read_behind.new.buffer ≡ take a.end a.buffer.items =
    rw c.deref_mut.ensures.value at c.read_behind.ensures.front in
    let same : length c.read_behind.new.buffer ≡ a.buffer.len = omega (arith, c.deref_mut.ensures.len, c.read_behind.auto.buffer) in
    let can : CanRead (seen a.buffer.items a.start a.end a.phase) = subst CanRead (sym c.self.view_is) c.requires in
    let whole : length c.read_behind.new.buffer ≡ 32768 = omega (arith, c.self.invariant) in
    let within : a.end + c.in_ok-count.count ≤ length c.read_behind.new.buffer =
    omega (arith, c.in_ok-count.ensures.within, c.read_behind.auto.buffer) in
    let some : 0 < c.in_ok-count.count = omega arith in (
      take n (drop a.end new),
      length-read new a.end n within,
      subst (λ l. Step c.args.self.now (read_event (take n (drop a.end new))) (seen l a.start (a.end + n) a.phase))
          (sym (with_items_is a.buffer new same))
          (subst (λ s. Step s (read_event (take n (drop a.end new))) (seen new a.start (a.end + n) a.phase)) c.self.view_is
          (read_some a.buffer.items new a.start a.end n a.phase can c.self.invariant.0 within whole front some)),
      c.in_ok-count.ensures.bytes.0,
    )
