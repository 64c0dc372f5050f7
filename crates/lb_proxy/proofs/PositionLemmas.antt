-- Lines of a text.
use Rattle.std.proofs.Common.{Bool, true, false, Some, None, option_map, ◌||◌, ◌≡◌, ◌≢◌, ◌⊎◌, ℕ, ◌+◌, ◌<◌, ◌≤◌, ◌==◌, List, [], ◌∷◌, ◌++◌}
use Rattle.std.proofs.Common.{length, take}
use Rattle.std.proofs.Common.{slice_index, if◌then◌else◌, refl, ap, sym, ◌∙◌, inl, inr, arith}
use Rattle.std.proofs.lemmas.Bool.{eqb-true, eq-eqb, ne_eqb, false≢true}
use Rattle.std.proofs.lemmas.List.{take_more}
use Rattle.toml.specs.Data.{Members}
use Rattle.toml.specs.Parse.{parse_document}
use Rattle.lb_proxy.specs.Config.{Said}
use Rattle.lb_proxy.specs.Position.{IsLineStart, IsNowhereTo, shows, shown_by, feeds, line_at}

not_less : {m n : ℕ} → m ≡ n → m < n → ⊥
not_less e lt = grind arith

pub one_later : {m n : ℕ} → m ≤ n → m ≤ n + 1
one_later le = grind arith

pub no_later : (n : ℕ) → n ≤ n
no_later n = grind arith

pub one_more_later : {m n : ℕ} → m ≤ n → m + 1 ≤ n + 1
one_more_later le = grind arith

not_both : {m n : ℕ} → m < n → n ≤ m → ⊥
not_both lt le = grind arith

not_zero : (m : ℕ) → m + 1 ≡ 0 → ⊥
not_zero m e = grind arith

one_before : {m n : ℕ} → m + 1 ≡ n + 1 → m ≡ n
one_before e = grind arith

le_or_next : (m n : ℕ) → m ≤ n + 1 → (m ≤ n) ⊎ (m ≡ n + 1)
le_or_next m n le = grind arith

neither : (a b : Bool) → (a || b) ≡ false → a ≡ false
neither true b e = absurd (false≢true (sym e))
neither false b e = refl

or_right : (a b : Bool) → (a || b) ≡ false → b ≡ false
or_right true b e = absurd (false≢true (sym e))
or_right false b e = e

-- a line begins after one that ends, unless the text does
ends : (text : List ℕ) (place : ℕ) (is_feed is_last : Bool) → is_feed ≡ (slice_index text place == 10)
    → is_last ≡ (place + 1 == length text) → (is_feed || is_last) ≡ true → place + 1 < length text → IsLineStart text (place + 1)
ends text place true is_last f l is lt = inr (place, refl, eqb-true _ _ (sym f))
ends text place false true f l is lt = absurd (not_less (eqb-true _ _ (sym l)) lt)
ends text place false false f l is lt = absurd (false≢true is)

pub start_after : (text : List ℕ) (place : ℕ) → ((slice_index text place == 10) || (place + 1 == length text)) ≡ true
    → place + 1 < length text → IsLineStart text (place + 1)
start_after text place is lt = ends text place _ _ refl refl is lt

-- a byte more
feeds_more : (xs : List ℕ) (x : ℕ) → feeds (xs ++ x ∷ []) ≡ feeds xs + (if x == 10 then 1 else 0)
feeds_more [] x = grind arith
feeds_more (y ∷ ys) x = rw (feeds_more ys x) (grind arith)

line_more : (text : List ℕ) (place : ℕ) → place < length text
    → line_at text (place + 1) ≡ line_at text place + (if slice_index text place == 10 then 1 else 0)
line_more text place lt = rw (take_more text place 0 lt, feeds_more (take place text) (slice_index text place)) (grind arith)

pub feed_more : (text : List ℕ) (place line : ℕ) → place < length text → slice_index text place ≡ 10 → line ≡ line_at text place
    → line + 1 ≡ line_at text (place + 1)
feed_more text place line lt is so = rw (line_more text place lt, eq-eqb (slice_index text place) 10 is, so) refl

pub other_more : (text : List ℕ) (place line : ℕ) → place < length text → ¬ (slice_index text place ≡ 10) → line ≡ line_at text place
    → line ≡ line_at text (place + 1)
other_more text place line lt is so = rw (line_more text place lt, ne_eqb (slice_index text place) 10 is, so) (grind arith)

-- what a text shows, by the text that was read
pub shown_there : (read text : List ℕ) (said : Said) (table : Members) (r : Bool) → read ≡ text → parse_document read ≡ Some table
    → r ≡ shows table said → Some r ≡ shown_by text said
shown_there read text said table r same is so =
    ap Some so ∙ sym (ap (option_map (λ t. shows t said)) (ap parse_document (sym same) ∙ is))

pub shown_none : (read text : List ℕ) (said : Said) → read ≡ text → parse_document read ≡ None → None ≡ shown_by text said
shown_none read text said same is = sym (ap (option_map (λ t. shows t said)) (ap parse_document (sym same) ∙ is))

-- up to one more place: no line begins there, or its start ends no document
pub none_more : (text : List ℕ) (said : Said) (start place : ℕ)
    → ((at : ℕ) → start < at → at ≤ place → IsLineStart text at → shown_by (take at text) said ≡ None)
    → (IsLineStart text (place + 1) → shown_by (take (place + 1) text) said ≡ None)
    → (at : ℕ) → start < at → at ≤ place + 1 → IsLineStart text at → shown_by (take at text) said ≡ None
none_more text said start place before here at later le line = by_order (le_or_next at place le)
  where
    by_order : (at ≤ place) ⊎ (at ≡ place + 1) → shown_by (take at text) said ≡ None
    by_order (inl earlier) = before at later earlier line
    by_order (inr same) = rw same (here (rw (sym same) line))

pub none_between : (text : List ℕ) (said : Said) (start : ℕ) (at : ℕ) → start < at → at ≤ start → IsLineStart text at
    → shown_by (take at text) said ≡ None
none_between text said start at later le line = absurd (not_both later le)

-- no line begins after a byte that ends none
pub no_line : (text : List ℕ) (place : ℕ) → ((slice_index text place == 10) || (place + 1 == length text)) ≡ false
    → ¬ (IsLineStart text (place + 1))
no_line text place not_end (inl zero) = absurd (not_zero place zero)
no_line text place not_end (inr (before, same, feed)) =
    absurd (false≢true (sym (neither _ _ not_end) ∙ eq-eqb _ 10 (ap (slice_index text) (one_before same) ∙ feed)))

-- one more place that shows nothing
no_end : (text : List ℕ) (place : ℕ) → ((slice_index text place == 10) || (place + 1 == length text)) ≡ false
    → ¬ (IsLineStart text (place + 1) ⊎ (place + 1 ≡ length text))
no_end text place not_end (inl line) = no_line text place not_end line
no_end text place not_end (inr same) = absurd (false≢true (sym (or_right _ _ not_end) ∙ eq-eqb _ _ same))

pub nowhere_more : (text : List ℕ) (said : Said) (place : ℕ) → IsNowhereTo text said place
    → ((IsLineStart text (place + 1) ⊎ (place + 1 ≡ length text)) → shown_by (take (place + 1) text) said ≢ Some true)
    → IsNowhereTo text said (place + 1)
nowhere_more text said place before here at some le line = by_order (le_or_next at place le)
  where
    by_order : (at ≤ place) ⊎ (at ≡ place + 1) → shown_by (take at text) said ≢ Some true
    by_order (inl earlier) = before at some earlier line
    by_order (inr same) = rw same (here (rw (sym same) line))

pub nowhere_no_end : (text : List ℕ) (said : Said) (place : ℕ) → IsNowhereTo text said place
    → ((slice_index text place == 10) || (place + 1 == length text)) ≡ false → IsNowhereTo text said (place + 1)
nowhere_no_end text said place before not_end = nowhere_more text said place before (λ line. absurd (no_end text place not_end line))

pub nowhere_false : (text : List ℕ) (said : Said) (place : ℕ) → IsNowhereTo text said place
    → shown_by (take (place + 1) text) said ≡ Some false → IsNowhereTo text said (place + 1)
nowhere_false text said place before is =
    nowhere_more text said place before (λ line shown. let never : Some false ≡ Some true = sym is ∙ shown in cc)

pub nowhere_none : (text : List ℕ) (said : Said) (place : ℕ) → IsNowhereTo text said place
    → shown_by (take (place + 1) text) said ≡ None → IsNowhereTo text said (place + 1)
nowhere_none text said place before is =
    nowhere_more text said place before (λ line shown. let never : None ≡ Some true = sym is ∙ shown in cc)

pub nowhere_begins : (text : List ℕ) (said : Said) → IsNowhereTo text said 0
nowhere_begins text said at some le line = absurd (not_both some le)
