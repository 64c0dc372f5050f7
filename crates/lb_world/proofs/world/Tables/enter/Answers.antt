-- The group's core lets the reader enter; the reader's number is that of its place.
use Rattle.lb_world.proofs.Words.{◌∷◌, ◌∙◌, ◌≡◌, ◌++◌, [], ap, arith, inl, inr, length, refl, Some, at-place}
use Rattle.lb_world.proofs.Tables.{no-group, world-refused, enter-absent, enter-full, enter-memory, entered-now, refused-now}
use Rattle.lb_world.proofs.world.Tables.enter.Goals as goal

pub returns-then-group-len : goal.returns-then-group-len
returns-then-group-len g c =
    λ h s. world-refused s (inl (rw (no-group s c.args.group (omega arith)) refl))

pub returns-in_default : goal.returns-in_default
returns-in_default g c =
    let at = at-place c.args.self.now.groups.items c.args.group _ (omega arith) c.index_mut-entry.ensures.value in
    λ h s. enter-absent s c.args.group _ at c.args.slot _ c.readers.ensures c.in_default.is

pub returns-then-number : goal.returns-then-number
returns-then-number g c =
    let at = at-place c.args.self.now.groups.items c.args.group _ (omega arith) c.index_mut-entry.ensures.value in
    λ h s.
    elim c.then-number.branch [
      | goal.then-number-via-then-number w ↦
          rw w.self-is (enter-full s c.args.group _ at c.args.slot _ c.readers.ensures _ c.in-Some.is
          (inl (omega (arith, c.len-number.ensures, w.if-number.true))))
      | goal.then-number-via-else-number+then-readers w ↦
          rw w.self-is (enter-full s c.args.group _ at c.args.slot _ c.readers.ensures _ c.in-Some.is
          (inr (omega (arith, w.if-readers.true))))
    ]

pub returns-in_default-reserve : goal.returns-in_default-reserve
returns-in_default-reserve g c =
    let at = at-place c.args.self.now.groups.items c.args.group _ (omega arith) c.index_mut-entry.ensures.value in
    rw c.reserve.ensures.items
    (λ h s. enter-memory s c.args.group _ at c.args.slot _ c.readers.ensures _ c.in-Some.is
    (λ is. omega (arith, is, c.len-number.ensures, c.if-number.false)) (λ is. omega (arith, is, c.if-readers.false)))

pub returns-in-Ok-enter : goal.returns-in-Ok-enter
returns-in-Ok-enter g c =
    let at = at-place c.args.self.now.groups.items c.args.group _ (omega arith) c.index_mut-entry.ensures.value in
    let grown =
    c.push_reserved.ensures.items
    ∙ ap (λ l. l
    ++ Some (record { group = c.args.group; reader = c.in-Ok-enter.reader }) ∷ []) c.reserve.ensures.items in
    let last : c.len-number.result ≡ length c.args.self.now.readers.items = omega arith in
    rw c.generation-generation.ensures
    (λ h s.
    entered-now s c.args.group _ at c.args.slot _ c.readers.ensures _ c.in-Some.is
    (λ is. omega (arith, is, c.len-number.ensures, c.if-number.false)) (λ is. omega (arith, is, c.if-readers.false)) _ c.enter.new.self _
    c.in-Ok-enter.reader c.enter.ensures.rest grown last c.in-Ok-enter.ensures.entered)

pub returns-in-Err : goal.returns-in-Err
returns-in-Err g c =
    let at = at-place c.args.self.now.groups.items c.args.group _ (omega arith) c.index_mut-entry.ensures.value in
    λ h s.
    refused-now s c.args.group _ at c.args.slot _ c.readers.ensures _ c.in-Some.is
    (λ is. omega (arith, is, c.len-number.ensures, c.if-number.false)) (λ is. omega (arith, is, c.if-readers.false)) c.in-Err.refusal
    c.enter.new.self _
    c.enter.ensures.rest c.reserve.ensures.items c.in-Err.ensures.entered
