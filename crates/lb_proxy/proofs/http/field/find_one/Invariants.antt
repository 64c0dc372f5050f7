use Rattle.std.proofs.Common.{drop}
use Rattle.lb_proxy.specs.Http.Fields.{values_of}
use Rattle.lb_proxy.proofs.HttpFieldLemmas.{FindsUpTo}
use Rattle.lb_proxy.proofs.http.field.find_one.Given as goal

abbrev pub invariant-loop-field : goal.invariant-loop-field
invariant-loop-field l = FindsUpTo l.found (values_of l.name (drop l.field-index l.fields)) (values_of l.name l.fields)
