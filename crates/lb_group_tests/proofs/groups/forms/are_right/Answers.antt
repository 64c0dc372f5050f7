-- The closure may be shared by threads where what it captures may: the runtime, the allocator, the groups, their registry and the tally, in
-- the order of their use.
use denote.RattleType.{RattleType}
use denote.Param.{param, copied, arg}
use denote.Ref.{ShrRef}
use denote.Slice.{ShrSlice}
use denote.Struct.Field.{rows}
use denote.Struct.Tuple.{parts, TupleAt, type_at, field_at}
use denote.Struct.Declared.{shape}
use denote.Exit.{Kept, no}
use base.Fml.{Lft}
use mir.Syntax.{Ty, Sym, Lifetime}
use mathlib.Core.List.{List, [], ◌∷◌}
use Prim.Native.Nat.{ℕ}
use denote.Param.Send.{IsSync, AllSync, struct_sync, recorded_sync, param_sync, arg_sync, shr_sync, shr_slice_sync, sendable}
use Rattle.std.proofs.Crossing.{crosses, sync}
use Rattle.std.specs.contracts.alloc.Global as heap
use Rattle.lb_threads_core.specs.contracts.registry.HealthRegistry as registry
use Rattle.lb_threads_core.proofs.registry.HealthRegistry.TheSendSync as registry_crossing
use Rattle.lb_group_tests.specs.contracts.groups.forms.Tally as tally
use Rattle.lb_group_tests.proofs.groups.forms.Tally.TheSendSync as tally_crossing
use Rattle.lb_group_tests.proofs.groups.forms.are_right.Goals as goal

all_shared : (Ts : List RattleType) → AllSync Ts → AllSync (rows (parts Ts))
all_shared [] s = tt
all_shared (T ∷ Ts) s = (s.0, all_shared Ts s.1)

-- a closure, which is the tuple of what it captures
shared : (i : ℕ) (τ : Ty) (k : Kept) (n : Sym) (Ts : List RattleType) → AllSync Ts → IsSync (param i (arg τ k (TupleAt n Ts)))
shared i τ k n Ts s = param_sync i (arg τ k (TupleAt n Ts)) (arg_sync τ k (TupleAt n Ts)
    (recorded_sync (field_at n Ts).row _ _ (type_at n Ts).to_one (struct_sync (shape (type_at n Ts)) (all_shared Ts s))))

crossing : (τ : Ty) (k : Kept) (n : Sym) (ℓ0 ℓ1 ℓ2 ℓ3 : Lifetime) (κ0 κ1 κ2 κ3 : Lft) (W G Q T : RattleType) → IsSync W → IsSync G
    → IsSync Q → IsSync T
    → IsSync (param 3 (arg τ k (TupleAt n (ShrRef ℓ0 κ0 W ∷ heap.the_row ∷ ShrSlice ℓ1 κ1 G ∷ ShrRef ℓ2 κ2 Q ∷ ShrRef ℓ3 κ3 T ∷ []))))
crossing τ k n ℓ0 ℓ1 ℓ2 ℓ3 κ0 κ1 κ2 κ3 W G Q T w g q t =
    shared 3 τ k n (ShrRef ℓ0 κ0 W ∷ heap.the_row ∷ ShrSlice ℓ1 κ1 G ∷ ShrRef ℓ2 κ2 Q ∷ ShrRef ℓ3 κ3 T ∷ [])
    (shr_sync ℓ0 κ0 W w, (sync, (shr_slice_sync ℓ1 κ1 G g, (shr_sync ℓ2 κ2 Q q, (shr_sync ℓ3 κ3 T t, tt)))))

pub map_indices-parts-requires-sync-F : goal.map_indices-parts-requires-sync-F
map_indices-parts-requires-sync-F g c κs within =
    let G = param 0 g.row.H in let R = param 1 g.row.R in let H = param 2 g.row.C in
    let b = c.type_bounds in
    let q : IsSync (registry.the_row R H g.R.KeyRule) =
    registry_crossing.the_sync R H g.R.KeyRule b.send-R b.send-C b.sync-C in
    let t : IsSync tally.the_row = search (sendable, crosses, tally_crossing.the_sync) depth 20 in
    crossing _ no _ _ _ _ _ _ _ _ _ (copied 3 g.row.W) G (registry.the_row R H g.R.KeyRule) tally.the_row b.sync-W b.sync-H q t
