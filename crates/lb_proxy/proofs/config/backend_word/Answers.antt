use Rattle.std.proofs.Common.{rules, ◌≡◌, Some, None, Err, [], ◌∷◌, codes, refl, inl, inr, sym}
use Rattle.toml.specs.Data.{as_str, as_table}
use Rattle.toml.specs.View.{view}
use Rattle.lb_proxy.specs.Config.{part_of, said, required_of, number_of}
use Rattle.lb_proxy.specs.Faults.{fault_of, first_fault}
use Rattle.lb_proxy.proofs.config.backend_word.Goals as goal

pub returns-in_err-only-clause-fault : goal.returns-in_err-only-clause-fault
returns-in_err-only-clause-fault c =
    let none : as_str (view c.args.value.now) ≡ None = search rules in
    let table : as_table (view c.args.value.now) ≡ Some (part_of c.new-entry.result).1 = search rules in
    let at : (part_of c.new-entry.result).0 ≡ c.args.place = search rules in
    let is : c.from_residual.result ≡ Err c.in_err-only.field-0.0 = search rules in
    rw is (inr (part_of c.new-entry.result, none, table, at, inl c.in_err-only.ensures.unknown))

pub returns-in_err-text-clause-fault : goal.returns-in_err-text-clause-fault
returns-in_err-text-clause-fault c =
    let none : as_str (view c.args.value.now) ≡ None = search rules in
    let table : as_table (view c.args.value.now) ≡ Some (part_of c.new-entry.result).1 = search rules in
    let at : (part_of c.new-entry.result).0 ≡ c.args.place = search rules in
    let is : c.from_residual-in_err-text.result ≡ Err c.in_err-text.field-0.0 = search rules in
    let first : first_fault (fault_of (required_of (part_of c.new-entry.result) (codes "address"))
    ∷ fault_of (number_of (part_of c.new-entry.result) (codes "weight") 1) ∷ []) ≡ Some (said c.in_err-text.field-0.0) =
    rw (← c.in_err-text.ensures) refl in
    rw is (inr (part_of c.new-entry.result, none, table, at, inr (c.in_ok-only.ensures.known, first)))

pub returns-in_err-weight-clause-fault : goal.returns-in_err-weight-clause-fault
returns-in_err-weight-clause-fault c =
    let none : as_str (view c.args.value.now) ≡ None = search rules in
    let table : as_table (view c.args.value.now) ≡ Some (part_of c.new-entry.result).1 = search rules in
    let at : (part_of c.new-entry.result).0 ≡ c.args.place = search rules in
    let is : c.from_residual-in_err-weight.result ≡ Err c.in_err-weight.field-0.0 = search rules in
    let first : first_fault (fault_of (required_of (part_of c.new-entry.result) (codes "address"))
    ∷ fault_of (number_of (part_of c.new-entry.result) (codes "weight") 1) ∷ []) ≡ Some (said c.in_err-weight.field-0.0) =
    rw (← c.in_ok-text.ensures, ← c.in_err-weight.ensures) refl in
    rw is (inr (part_of c.new-entry.result, none, table, at, inr (c.in_ok-only.ensures.known, first)))

pub returns-clause-spelled : goal.returns-clause-spelled
returns-clause-spelled c =
    let none : as_str (view c.args.value.now) ≡ None = search rules in
    let table : as_table (view c.args.value.now) ≡ Some (part_of c.new-entry.result).1 = search rules in
    rw (none, table) (
      (part_of c.new-entry.result).0,
      c.in_ok-only.ensures.known,
      sym c.in_ok-text.ensures,
      sym c.in_ok-weight.ensures,
    )
