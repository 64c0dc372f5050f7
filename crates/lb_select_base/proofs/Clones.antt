-- A clone of a map of attachments is seen as its source.
use Rattle.std.specs.Prelude.{◌≡◌, ℕ, List, [], ◌∷◌, refl, string_bytes}
use Rattle.std.proofs.Common.{String, Vec, Global}
use Rattle.std.specs.List.{AllZip}
use Rattle.std.specs.Vec.{vec_len}
use Rattle.std.specs.contracts.prelude.U8Clone.TheImpl.{ghosts as U8Clone}
use Rattle.lb_select_base.specs.Seen.{entries_seen}

-- an entry, as a map of attachments holds it
abbrev pub Entry : Type 0
Entry = String Global × Vec ℕ Global

-- bytes that are clones of bytes are those bytes
bytes_alike : (xs ys : List ℕ) → AllZip U8Clone.is_clone xs ys → ys ≡ xs
bytes_alike [] [] h = refl
bytes_alike [] (y ∷ ys) h = absurd h
bytes_alike (x ∷ xs) [] h = absurd h
bytes_alike (x ∷ xs) (y ∷ ys) h = let head : y ≡ x = h.0 in let tail : ys ≡ xs = bytes_alike xs ys h.1 in cc

-- entries that are clones are seen alike
pub entries_alike :
    (xs ys : List Entry)
    → AllZip (λ (p : Entry) (q : Entry). (string_bytes q.0 ≡ string_bytes p.0)
    × ((AllZip U8Clone.is_clone p.1.items q.1.items) × (vec_len q.1 ≡ vec_len p.1))) xs ys
    → entries_seen ys ≡ entries_seen xs
entries_alike [] [] h = refl
entries_alike [] (y ∷ ys) h = absurd h
entries_alike (x ∷ xs) [] h = absurd h
entries_alike (x ∷ xs) (y ∷ ys) h =
    let key : string_bytes y.0 ≡ string_bytes x.0 = h.0.0 in
    let value : y.1.items ≡ x.1.items = bytes_alike x.1.items y.1.items h.0.1.0 in
    let rest : entries_seen ys ≡ entries_seen xs = entries_alike xs ys h.1 in cc
