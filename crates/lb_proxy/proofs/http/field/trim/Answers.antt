use Rattle.std.proofs.Common.{◌≡◌, ◌≤◌, ℕ, List, length, reverse, slice_range, sym, ap, ◌∙◌, arith}
use Rattle.std.proofs.lemmas.List.{reverse-reverse}
use Rattle.httparse.specs.Grammar.{skip_ows, trim_ows}
use Rattle.httparse.proofs.TrimLemmas.{skip_ows_yes, skip_ows_no, slice_first, slice_last, slice_empty}
use Rattle.lb_proxy.proofs.http.field.trim.Goals.{then-loop-start-test+else-is_space_or_tab, else-loop-start-test}
use Rattle.lb_proxy.proofs.http.field.trim.Goals.{then-loop-end-test+else-is_space_or_tab-2, else-loop-end-test}
use Rattle.lb_proxy.proofs.http.field.trim.Goals as goal

pub loop-start-preserved : goal.loop-start-preserved
loop-start-preserved c = (
  omega arith,
  c.loop-start.invariant.1 ∙ skip_ows_yes (slice_first _ _ _ c.loop-start-test.true c.requires.within) c.if-is_space_or_tab.ensures,
)

pub loop-end-init : goal.loop-end-init
unfolding trim_ows
loop-end-init c =
    let here = slice_range c.args.value.now c.loop-start.start c.args.end in
    let stays : skip_ows here ≡ here =
    elim c.loop-start-test.branch [
      | then-loop-start-test+else-is_space_or_tab w ↦
          let first = slice_first _ _ _ w.loop-start-test.true c.requires.within in
          skip_ows_no first w.if-is_space_or_tab.ensures
      | else-loop-start-test w ↦
          let empty = slice_empty c.args.value.now c.loop-start.start c.args.end (omega arith) c.requires.within in
          ap skip_ows empty ∙ sym empty
    ] in (
      omega arith,
      omega arith,
      ap (λ (t : List ℕ). reverse (skip_ows (reverse t))) (c.loop-start.invariant.1 ∙ stays),
    )

pub loop-end-preserved : goal.loop-end-preserved
loop-end-preserved c =
    let last = slice_last c.args.value.now _ _ c.loop-end-test.true (omega arith) in (
      omega arith,
      omega arith,
      c.loop-end.invariant.2 ∙ ap reverse (skip_ows_yes last c.if-is_space_or_tab-2.ensures),
    )

pub returns : goal.returns
returns c =
    let here = slice_range c.args.value.now c.loop-start.start c.loop-end.end in
    let within : c.loop-end.end ≤ length c.args.value.now = omega arith in
    let stays : reverse (skip_ows (reverse here)) ≡ here =
    elim c.loop-end-test.branch [
      | then-loop-end-test+else-is_space_or_tab-2 w ↦
          let last = slice_last c.args.value.now _ _ w.loop-end-test.true within in
          ap reverse (skip_ows_no last w.if-is_space_or_tab-2.ensures) ∙ reverse-reverse here
      | else-loop-end-test w ↦
          let empty = slice_empty c.args.value.now c.loop-start.start c.loop-end.end (omega arith) within in
          ap (λ (t : List ℕ). reverse (skip_ows (reverse t))) empty ∙ sym empty
    ] in
    sym (c.loop-end.invariant.2 ∙ stays)
