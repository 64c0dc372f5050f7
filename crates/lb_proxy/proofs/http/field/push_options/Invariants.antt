use Rattle.std.proofs.Common.{◌≡◌, ◌≤◌, ◌==◌, ◌++◌, length, map, drop, slice_range}
use Rattle.std.specs.List.{slice_split}
use Rattle.httparse.specs.Grammar.{trim_ows}
use Rattle.lb_proxy.specs.Http.Fields.{options_in}
use Rattle.lb_proxy.proofs.HttpOptionLemmas.{IsClear}
use Rattle.lb_proxy.proofs.http.field.push_options.Given as goal

abbrev pub invariant-loop-index : goal.invariant-loop-index
invariant-loop-index l = record {
  ordered : l.start ≤ l.index;
  within : l.index ≤ length l.value;
  clear : IsClear (slice_range l.value l.start l.index);
  same : map (λ o. o.now) l.options.items ++ map trim_ows (slice_split (λ b. b == 44) (drop l.start l.value))
      ≡ map (λ o. o.now) l.fn.options.items ++ options_in l.value;
}
