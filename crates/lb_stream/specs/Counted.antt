-- What a clause reads of a `Counted`.
use Rattle.std.specs.Prelude.{Bool}
use Rattle.lb_stream.specs.declared.counted.Counted.{Counted}

-- the reader or writer inside
abbrev pub inner_of : {T : Type 0} → Counted T → T
inner_of c = c.inner

-- whether a read or a write of it has failed so far
abbrev pub has_failed : {T : Type 0} → Counted T → Bool
has_failed c = c.has_failed

-- whether no write came since it was made or flushed
abbrev pub is_flushed : {T : Type 0} → Counted T → Bool
is_flushed c = c.is_flushed
