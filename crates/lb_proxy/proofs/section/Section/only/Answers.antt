use Rattle.std.proofs.Common.{rules, ◌≡◌, true, false, map, string_bytes, ap, sym, subst, ◌∙◌}
use Rattle.lb_proxy.specs.Config.{part_of, said, is_among}
use Rattle.lb_proxy.proofs.FieldLemmas.{StillOnly, one_known, is_there, unknown_there}
use Rattle.lb_proxy.proofs.section.Section.only.Goals as goal

pub returns-then-not-is_among-clause-unknown : goal.returns-then-not-is_among-clause-unknown
returns-then-not-is_among-clause-unknown c =
    let known = map (λ name. name.now) c.args.known.now in
    let part = part_of c.args.self.now in
    let no : c.is_among.result ≡ false = search rules in
    let still = subst (StillOnly known part) c.in-Some.ensures.steps c.loop-name.invariant in
    let other : is_among known (string_bytes c.in-Some.name.now) ≡ false =
    ap (is_among known) (sym c.as_str.ensures.value) ∙ sym c.is_among.ensures ∙ no in
    unknown_there known part (said c.fault.result) _ _ c.fault.ensures c.as_str-then-not-is_among.ensures.value
    (is_there known part c.in-Some.name.now c.in-Some.field-0-1.now c.next.new.self still) other

pub loop-name-preserved : goal.loop-name-preserved
loop-name-preserved c =
    let known = map (λ name. name.now) c.args.known.now in
    let part = part_of c.args.self.now in
    let yes : c.is_among.result ≡ true = search rules in
    let still = subst (StillOnly known part) c.in-Some.ensures.steps c.loop-name.invariant in
    one_known known part c.in-Some.name.now c.in-Some.field-0-1.now c.next.new.self still
    (ap (is_among known) (sym c.as_str.ensures.value) ∙ sym c.is_among.ensures ∙ yes)
