use Rattle.std.proofs.Common.{◌≡◌, ◌-◌, arith, drop, get_or, length, take}
use Rattle.lb_script.proofs.SelectionLemmas.{select_front, read_line}
use Rattle.lb_script.proofs.selection.plain_selection.Goals as goal

pub returns-in-115 : goal.returns-in-115
returns-in-115 c =
    let line = c.args.line.now in
    let long = c.in-115.len_at_least in
    let s : get_or line 0 0 ≡ 115 = omega arith in
    let e : get_or line 1 0 ≡ 101 = omega arith in
    let l : get_or line 2 0 ≡ 108 = omega arith in
    let e_again : get_or line 3 0 ≡ 101 = omega arith in
    let c_there : get_or line 4 0 ≡ 99 = omega arith in
    let t : get_or line 5 0 ≡ 116 = omega arith in
    let space : get_or line 6 0 ≡ 32 = omega arith in
    read_line c.selection_of.result line (take (length line - 7) (drop 7 line)) (select_front line long s e l e_again c_there t space)
    c.selection_of.ensures
