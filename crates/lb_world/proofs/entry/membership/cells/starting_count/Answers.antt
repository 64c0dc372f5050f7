-- One listing more is counted, or left out.
use Rattle.lb_health_core.specs.Targets.{ViewValue}
use Rattle.std.proofs.Common.{◌-◌, get_or}
use Rattle.std.proofs.lemmas.List.{length-drop, take_all}
use Rattle.lb_world.proofs.Words.{◌∷◌, ◌+◌, ◌∙◌, ◌≡◌, ◌<◌, ◌≤◌, ap, arith, at_drop_more, Bool, cond, drop, length, List, Listing, live}
use Rattle.lb_world.proofs.Words.{Member, new_keys, starts_cell, sym, take, views_after, ℕ}
use Rattle.lb_world.proofs.Listed.{keys-more}
use Rattle.lb_world.proofs.entry.membership.cells.starting_count.Goals as goal

more : (key_of : Member → Member) (views : List ViewValue) (ls : List Listing) (i : ℕ) (item : Listing) (b : Bool) → i < length ls
    → item ≡ get_or ls i item → b ≡ starts_cell key_of views item (take (length ls - (i + 1)) (drop (i + 1) ls))
    → new_keys key_of views (drop i ls) ≡ cond b 1 0 + new_keys key_of views (drop (i + 1) ls)
more key_of views ls i item b low is starts =
    let rest = drop (i + 1) ls in
    let whole = take_all (length ls - (i + 1)) rest (omega (arith, length-drop (i + 1) ls)) in
    at_drop_more (new_keys key_of views) ls i item low ∙ ap (λ l. new_keys key_of views (l ∷ rest)) (sym is)
    ∙ keys-more key_of views item rest
    ∙ ap (λ b. cond b 1 0 + new_keys key_of views rest) (sym (starts ∙ ap (starts_cell key_of views item) whole))

at_most : (b : Bool) → cond b 1 0 ≤ 1
at_most b = grind arith

pub loop-place-preserved : goal.loop-place-preserved
loop-place-preserved c =
    let ls = c.args.listings.now in
    let i = c.loop-place.place in
    let item = c.index-listings-place.result in
    let low = c.loop-place-test.true in
    let is = c.index-listings-place.is in
    let one : c.if-starts.count ≡ c.loop-place.count + cond c.starts.result 1 0 =
    elim c.if-starts.branch [
      | goal.then-starts w ↦ rw w.if-starts.true (omega (arith, w.count-is))
      | goal.else-starts w ↦ rw w.if-starts.false (omega (arith, w.count-is))
    ] in (
      omega (arith, one, at_most c.starts.result, c.loop-place.invariant.0),
      λ key_of events r.
          let keys = more key_of (live (views_after events)) ls i item c.starts.result low is (c.starts.ensures key_of events r) in
          omega (arith, one, c.loop-place.invariant.1 key_of events r, keys),
    )
