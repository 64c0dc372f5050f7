-- Lemmas on what calls did to the known bytes of a reader and a writer.
use Rattle.std.proofs.Common.{◌≡◌, ℕ, ◌+◌, ◌-◌, ◌≤◌, List, ◌++◌, Option, None, Some, Result, Ok, Err, OnErr, refl, sym, ap, ◌∙◌, subst}
use Rattle.std.proofs.Common.{append_assoc, length, take, drop, take-append-drop, length-drop, arith}
use Rattle.std.proofs.Math.Seq.{take-add}
use Rattle.std.proofs.lemmas.List.{take_all}
use Rattle.std.specs.Io.KnownBytes.{Keeps, Appends}
use Rattle.std.proofs.KnownBytes.{Appends-trans, Appends-kept}
use Rattle.lb_stream.specs.Stream.{AppendsFront, OnBytes}

-- `&bytes[at..]` is what is left after the first `at` bytes
pub rest_is : (bytes : List ℕ) (at : ℕ) → take (length bytes - at) (drop at bytes) ≡ drop at bytes
rest_is bytes at = take_all (length bytes - at) (drop at bytes) (omega (arith, length-drop at bytes))

-- after the first `at` bytes the next n of the rest were written
pub put_more : (a b c : Option (List ℕ)) (bytes : List ℕ) (at n : ℕ) → Appends a b (take at bytes)
    → Appends b c (take n (take (length bytes - at) (drop at bytes))) → Appends a c (take (at + n) bytes)
put_more a b c bytes at n before after =
    let joined : take at bytes ++ take n (take (length bytes - at) (drop at bytes)) ≡ take (at + n) bytes =
    rw (rest_is bytes at) (sym (take-add at n bytes)) in
    subst (Appends a c) joined (Appends-trans a b c _ _ before after)

-- how many bytes were written in all
pub put_within : (bytes : List ℕ) (at n : ℕ) → at ≤ length bytes
    → n ≤ length (take (length bytes - at) (drop at bytes)) → at + n ≤ length bytes
put_within bytes at n within more =
    let left : n ≤ length (drop at bytes) = rw (rest_is bytes at) at more in
    omega (arith, length-drop at bytes)

-- after the first `at` bytes nothing more was written
pub put_part : (a b c : Option (List ℕ)) (bytes : List ℕ) (at : ℕ) → Appends a b (take at bytes)
    → Keeps b c → AppendsFront a c bytes
put_part a b c bytes at before kept =
    (take at bytes, drop at bytes, sym (take-append-drop at bytes), Appends-kept a b c _ before kept)

-- what was known of the bytes stays known where they stay as they were
pub OnBytes-kept : (P : List ℕ → List ℕ → Type 0) (a b c : Option (List ℕ)) → OnBytes a b P → Keeps b c → OnBytes a c P
OnBytes-kept P None b c p kept = tt
OnBytes-kept P (Some x) None c p kept = absurd p
OnBytes-kept P (Some x) (Some y) None p kept = absurd kept
OnBytes-kept P (Some x) (Some y) (Some z) p kept = subst (P x) (sym kept) p

-- a fact that holds in any case
pub on_err : {T E P : Type 0} (r : Result T E) → P → OnErr r P
on_err (Ok x) p = tt
on_err (Err e) p = p

-- a front of some bytes is a front of more
pub front_more : (a b : Option (List ℕ)) (bytes more : List ℕ) → AppendsFront a b bytes → AppendsFront a b (bytes ++ more)
front_more a b bytes more h = (h.0, h.1 ++ more, ap (λ l. l ++ more) h.2 ∙ append_assoc h.0 h.1 more, h.3)

-- a front after bytes that were written
pub front_after : (a b c : Option (List ℕ)) (bytes more : List ℕ) → Appends a b bytes → AppendsFront b c more
    → AppendsFront a c (bytes ++ more)
front_after a b c bytes more p h =
    (bytes ++ h.0, h.1, ap (λ l. bytes ++ l) h.2 ∙ sym (append_assoc bytes h.0 h.1), Appends-trans a b c bytes h.0 p h.3)

-- all of some bytes is a front of more
pub front_whole : (a b : Option (List ℕ)) (bytes more : List ℕ) → Appends a b bytes → AppendsFront a b (bytes ++ more)
front_whole a b bytes more p = (bytes, more, refl, p)
