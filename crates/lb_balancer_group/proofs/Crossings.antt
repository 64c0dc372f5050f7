-- A closure may be sent to a thread where what it captures may.
use denote.RattleType.{RattleType}
use denote.Param.{param, arg}
use denote.Struct.Field.{rows}
use denote.Struct.Tuple.{parts, TupleAt, type_at, field_at}
use denote.Struct.Declared.{shape}
use denote.Exit.{Kept}
use mir.Syntax.{Ty, Sym}
use mathlib.Core.List.{List, [], ◌∷◌}
use Prim.Native.Nat.{ℕ}
use denote.Param.Send.{IsSend, struct_send, recorded_send, param_send, arg_send, AllSend}

all_sent : (Ts : List RattleType) → AllSend Ts → AllSend (rows (parts Ts))
all_sent [] s = tt
all_sent (T ∷ Ts) s = (s.0, all_sent Ts s.1)

-- a closure, which is the tuple of what it captures
pub sent : (i : ℕ) (τ : Ty) (k : Kept) (n : Sym) (Ts : List RattleType) → AllSend Ts → IsSend (param i (arg τ k (TupleAt n Ts)))
sent i τ k n Ts s = param_send i (arg τ k (TupleAt n Ts)) (arg_send τ k (TupleAt n Ts)
    (recorded_send (field_at n Ts).row _ _ (type_at n Ts).to_one (struct_send (shape (type_at n Ts)) (all_sent Ts s))))
