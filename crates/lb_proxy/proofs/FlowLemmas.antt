-- Lemmas on the buffer of a direction: the bytes that wait are a range of it.
use Rattle.std.proofs.Common.{◌≡◌, ◌≢◌, ℕ, ◌+◌, ◌-◌, ◌<◌, ◌≤◌, List, [], ◌∷◌, ◌++◌, length, take, drop, slice_range, arith, refl, sym, ap}
use Rattle.std.proofs.Common.{subst, ◌∙◌, take-append-drop, drop-drop, length-drop, length-take}
use Rattle.std.proofs.Math.Seq.{take-add}
use Rattle.std.proofs.lemmas.List.{append-nil, drop-take, drop-append-le, length-take-le, take_all}
use Rattle.lb_proxy.specs.declared.relay.Phase.{Phase}
use Rattle.lb_proxy.specs.declared.relay.Phase.TheVariants.{Ending}
use Rattle.lb_proxy.specs.Relay.{FlowState, read, wrote, ended, read_event, room_by, CanRead, Step}

-- a range is the rest of a front
range_is : (xs : List ℕ) (start end : ℕ) → start ≤ end → slice_range xs start end ≡ drop start (take end xs)
range_is xs start end le =
    let whole : start + (end - start) ≡ end = omega arith in
    sym (drop-take start (end - start) xs) ∙ ap (λ k. drop start (take k xs)) whole

-- how many bytes a range has
pub length-range : (xs : List ℕ) (start end : ℕ) → start ≤ end → end ≤ length xs → length (slice_range xs start end) ≡ end - start
length-range xs start end le within = omega (arith, length-take (end - start) (drop start xs), length-drop start xs)

-- a range stays where the front does
pub range_kept : (old new : List ℕ) (start end : ℕ) → start ≤ end → take end new ≡ take end old
    → slice_range new start end ≡ slice_range old start end
range_kept old new start end le front = range_is new start end le ∙ ap (drop start) front ∙ sym (range_is old start end le)

-- what is read behind a range is appended to it
pub range_more : (old new : List ℕ) (start end count : ℕ) → start ≤ end → end ≤ length new → take end new ≡ take end old
    → slice_range new start (end + count) ≡ slice_range old start end ++ take count (drop end new)
range_more old new start end count le within front =
    let short : start ≤ length (take end new) = omega (arith, length-take-le end new within) in
    let longer : start ≤ end + count = omega arith in
    range_is new start (end + count) longer
    ∙ ap (drop start) (take-add end count new)
    ∙ drop-append-le start (take end new) (take count (drop end new)) short
    ∙ ap (λ l. drop start l ++ take count (drop end new)) front
    ∙ ap (λ l. l ++ take count (drop end new)) (sym (range_is old start end le))

-- a range without its first count bytes
pub range_after : (xs : List ℕ) (start end count : ℕ) → count ≤ end - start
    → slice_range xs (start + count) end ≡ drop count (slice_range xs start end)
range_after xs start end count within =
    let whole : count + (end - (start + count)) ≡ end - start = omega arith in
    ap (take (end - (start + count))) (sym (drop-drop count start xs))
    ∙ sym (drop-take count (end - (start + count)) (drop start xs))
    ∙ ap (λ k. drop count (take k (drop start xs))) whole

room_some : (pending : List ℕ) (room : ℕ) → 0 < length pending → room_by pending room ≡ room
room_some [] room some = absurd (omega arith)
room_some (x ∷ xs) room some = refl

-- what contracts see of a buffer
abbrev pub seen : List ℕ → ℕ → ℕ → Phase → FlowState
seen items start end phase = record { pending = slice_range items start end; room = 32768 - end; phase = phase }

flow_is : (p q : List ℕ) (r s : ℕ) (f g : Phase) → p ≡ q → r ≡ s → f ≡ g
    → ◌≡◌ {A = FlowState} (record { pending = p; room = r; phase = f }) (record { pending = q; room = s; phase = g })
flow_is p q r s f g a b c =
    ap (λ x. let s : FlowState = record { pending = x; room = r; phase = f } in s) a
    ∙ ap (λ x. let s : FlowState = record { pending = q; room = x; phase = f } in s) b
    ∙ ap (λ x. let s : FlowState = record { pending = q; room = s; phase = x } in s) c

read_is : (bytes : List ℕ) → 0 < length bytes → read_event bytes ≡ read bytes
read_is [] some = absurd (omega arith)
read_is (x ∷ xs) some = refl

-- how many bytes a read gave
pub length-read : (news : List ℕ) (end count : ℕ) → end + count ≤ length news → length (take count (drop end news)) ≡ count
length-read news end count within = omega (arith, length-take count (drop end news), length-drop end news)

-- a read that gave some bytes
pub read_some : (items news : List ℕ) (start end count : ℕ) (phase : Phase) → CanRead (seen items start end phase) → start ≤ end
    → end + count ≤ length news → length news ≡ 32768 → take end news ≡ take end items → 0 < count
    → Step (seen items start end phase) (read_event (take count (drop end news))) (seen news start (end + count) phase)
read_some items news start end count phase can le within whole front some =
    let bytes : List ℕ = take count (drop end news) in
    let long : length (take count (drop end news)) ≡ count = length-read news end count within in
    let given : 0 < length (take count (drop end news)) = omega arith in
    let fits : length (take count (drop end news)) ≤ 32768 - end = omega arith in
    let left : 32768 - (end + count) ≡ (32768 - end) - length (take count (drop end news)) = omega arith in
    let reached : end ≤ length news = omega arith in
    subst (λ event. Step (seen items start end phase) event (seen news start (end + count) phase))
    (sym (read_is (take count (drop end news)) given))
    (can, fits, flow_is _ _ _ _ _ _ (range_more items news start end count le reached front) left can.is_open)

-- a read that gave none
pub read_none : (items news : List ℕ) (start end : ℕ) (phase : Phase) → CanRead (seen items start end phase) → start ≤ end
    → take end news ≡ take end items → Step (seen items start end phase) ended (seen news start end Ending)
read_none items news start end phase can le front = (can, flow_is _ _ _ _ _ _ (range_kept items news start end le front) refl refl)

-- a write that took some of the bytes
pub wrote_some : (items : List ℕ) (start end count : ℕ) (phase : Phase) → start ≤ end → end ≤ length items
    → count ≤ length (slice_range items start end) → count ≢ end - start
    → Step (seen items start end phase) (wrote (take count (slice_range items start end))) (seen items (start + count) end phase)
wrote_some items start end count phase le within most other =
    let long : length (slice_range items start end) ≡ end - start = length-range items start end le within in
    let enough : count ≤ end - start = omega arith in
    let more : start + count ≤ end = omega arith in
    let rest : length (slice_range items (start + count) end) ≡ end - (start + count) =
    length-range items (start + count) end more within in
    let some : 0 < length (slice_range items start end) = omega arith in
    let left : 0 < length (slice_range items (start + count) end) = omega arith in (
      some,
      sym (take-append-drop count (slice_range items start end))
          ∙ ap (λ l. take count (slice_range items start end) ++ l) (sym (range_after items start end count enough)),
      sym (room_some (slice_range items (start + count) end) (32768 - end) left),
      refl,
    )

-- a write that took all of them
pub wrote_all : (items : List ℕ) (start end count : ℕ) (phase : Phase) → start ≤ end → end ≤ length items
    → 0 < length (slice_range items start end) → count ≡ end - start
    → Step (seen items start end phase) (wrote (take count (slice_range items start end))) (seen items 0 0 phase)
wrote_all items start end count phase le within some is =
    let long : length (slice_range items start end) ≤ count = omega (arith, length-range items start end le within) in
    (some, sym (append-nil (take count (slice_range items start end)) ∙ take_all count (slice_range items start end) long), refl, refl)

-- a buffer whose front stayed is seen as it was
pub seen_kept : (items news : List ℕ) (start end : ℕ) (phase : Phase) → start ≤ end → take end news ≡ take end items
    → seen news start end phase ≡ seen items start end phase
seen_kept items news start end phase le front = flow_is _ _ _ _ _ _ (range_kept items news start end le front) refl refl
