use Rattle.std.proofs.Common.{◌≡◌, map, take}
use Rattle.lb_proxy.specs.Http.Fields.{options_of}
use Rattle.lb_proxy.proofs.http.field.connection_options.Given as goal

abbrev pub invariant-loop-field : goal.invariant-loop-field
invariant-loop-field l = map (λ o. o.now) l.options.items ≡ options_of (take l.field-index l.fields)
