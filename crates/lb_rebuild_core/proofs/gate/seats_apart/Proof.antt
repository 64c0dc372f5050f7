-- Both seats are opened, their records are brought to one number, and two such records cannot have one name; then both are closed as they
-- were.
use Rattle.atomic_table.proofs.Names.{◌≡◌, ℕ, List, [], ◌∷◌, refl, sym, ap, a_type, named, Val, vunit, vptr, inst_fn, SProp, emp, Fml}
use Rattle.atomic_table.proofs.Names.{ftrue, fsep, flft, ‵, raw, ◌⊛◌, ◌$◌, ◌∵◌, !, qed, by, move, keep, split, split3, given, drop, learn}
use Rattle.atomic_table.proofs.Names.{rewrite, join, fsplit, fsplit3, fjoin, fjoin3, use0, use2, feq_i, unit_lit, of_opd, returns, enter}
use Rattle.atomic_table.proofs.Names.{alloc_all, pass_all, free_all, look_at, sets, tables, RattleType, owns, types_at, plain, nothing}
use Rattle.atomic_table.proofs.Names.{param, layouts, Stays, walk_of, fact, fact_i, Coded, mut_vals, mut_Tells, opens, closes, stay_ref}
use Rattle.atomic_table.proofs.Names.{Goes-ref}
use Rattle.atomic_table.proofs.Walks.{proved, leaves}
use Rattle.atomic_table.specs.Table.{Me}
use Rattle.atomic_table.specs.Seated.{TableId}
use Rattle.atomic_table.specs.contracts.shared.Seat as seat
use Rattle.lb_rebuild_core.proofs.Apart.{part, other_names}
use Rattle.lb_rebuild_core.specs.contracts.gate.seats_apart.{ended, clauses}
use Rattle.lb_rebuild_core.specs.contracts.gate.seats_apart.Key.{name as #self}
use Rattle.lb_rebuild_core.proofs.gate.seats_apart.Statement.{statement}
use Rattle.lb_rebuild_core.proofs.gate.seats_apart.Code as code

pub seats_apart_spec : {M : Type 1} → statement M
seats_apart_spec 𝓤 𝓛 𝓜 𝓡 wired T U _ _ =
    let H = 𝓛.H in let 𝓣 = tables 𝓤 H 𝓜 𝓡 𝓡.env in let R : RattleType = param 0 T in let W : RattleType = param 1 U in let En = ended T U in
    let inst = layouts (a_type ∷ a_type ∷ []) (T, (U, tt)) in let fn = inst_fn inst code.function in let Sr : RattleType = seat.the_row R W
    in let sitter = plain (λ _. Sr) in
    let hs : Stays En.signature.params En.kept = (stay_ref (0 ∷ []) tt sitter, (stay_ref (1 ∷ []) tt sitter, tt))
    in let c = clauses T U 𝓛 𝓜.mem 𝓡.returns in
    proved 𝓛 En hs c 𝓜 𝓡 (Goes-ref 𝓛 4 0 tt sitter, (Goes-ref 𝓛 4 1 tt sitter, tt)) (#self inst) fn
    (code.unfolded 𝓤 H 𝓜 𝓡 wired (T, (U, tt)))
    (λ κs. (mut_vals, (mut_vals, tt))) (λ κs. (mut_Tells (named 0) κs.0 Sr, (mut_Tells (named 1) κs.1.0 Sr, tt))) (λ κs qs bounds a gh are.
    let b : ℕ = a.0.ref_ptr.0 in let o : ℕ = a.0.ref_ptr.1 in let h : Sr.Denot = a.0.now in let z : TableId = h.table_id
    in let id : ℕ = h.id in let v : Me T.Denot U.Denot = h.me in let cv : Coded U.Denot = W.coded in
    let b₂ : ℕ = a.1.0.ref_ptr.0 in let o₂ : ℕ = a.1.0.ref_ptr.1 in let k : Sr.Denot = a.1.0.now in let z₂ : TableId = k.table_id
    in let v₂ : Me T.Denot U.Denot = k.me in
    let Told : Type 0 = (¬ (z ≡ z₂)) × (h ≡ h) × (k ≡ k) in
    let y : (walk_of 𝓛 En hs c).Ghost = ((κs, qs, bounds, a, (vptr b o ∷ [], (vptr b₂ o₂ ∷ [], tt))), gh) in let Post : Val
    → SProp 𝓤 = (walk_of 𝓛 En hs c).post y in
    let others : Fml = fsep (flft κs.1.1.0 qs.1.1.0) (fsep (flft κs.1.1.1.0 qs.1.1.1.0) ftrue) in
    qed 𝓛 (((‵ (flft κs.0 qs.0) ⊛ ‵ (flft κs.1.0 qs.1.0) ⊛ ‵ others) ⊛ ‵ (owns (types_at En.signature.params κs) a y.0.4)) ∷ raw
    (fact 𝓤 _) ∷ raw (fact 𝓤 _) ∷ given (id ≡ k.id) (‵ ftrue) ∷ []) ∵
    keep ! (3 ∷ 0 ∷ []) $ learn ! (λ same. drop ! $ split ! $ split3 ! $ move ! (3 ∷ []) $ fsplit3 ! $ fsplit3 ! $ move !
    (3 ∷ []) $ fsplit3 ! $ keep ! (1 ∷ 2 ∷ 8 ∷ 4 ∷ 5 ∷ 7 ∷ 9 ∷ []) $
    enter ! 𝓣.C 𝓣.Λ fn (vptr b o ∷ vptr b₂ o₂ ∷ []) Post $ alloc_all ! (λ l. pass_all ! refl ((tt, tt), ((tt, tt), tt)) $
    opens ! tt Sr b₂ o₂ (λ ts₂. move ! (1 ∷ []) $ fsplit ! $ move ! (6 ∷ 7 ∷ 8 ∷ []) $
    opens ! tt Sr b o (λ ts. move ! (1 ∷ []) $ fsplit ! $ move ! (1 ∷ []) $ fsplit ! $ move ! (8 ∷ []) $ fsplit ! $
    rewrite ! 0 (λ (m : ℕ). ‵ (part 𝓛 cv z₂.views_name m v₂.0)) (sym same) refl $ move ! (2 ∷ 0 ∷ []) $
    use2 𝓛 (given (¬ (z.views_name ≡ z₂.views_name)) (‵ (part 𝓛 cv z.views_name id v.0) ⊛ ‵ (part 𝓛 cv z₂.views_name id v₂.0)))
    (other_names 𝓛 cv z.views_name z₂.views_name id v.0 v₂.0) $ learn ! (λ differ. split ! $
    rewrite ! 1 (λ (m : ℕ). ‵ (part 𝓛 cv z₂.views_name m v₂.0)) same refl $ move ! (1 ∷ 2 ∷ []) $ fjoin ! $ move !
    (8 ∷ 0 ∷ []) $ fjoin ! $ move ! (8 ∷ 0 ∷ 9 ∷ 10 ∷ 11 ∷ []) $
    closes ! tt Sr k ts₂ b₂ o₂ $ feq_i ! (List Val) (vptr b₂ o₂ ∷ []) (vptr b₂ o₂ ∷ []) refl $ fjoin3 ! $
    move ! (2 ∷ 3 ∷ []) $ fjoin ! $ move ! (3 ∷ 0 ∷ []) $ fjoin ! $ move ! (3 ∷ 0 ∷ 4 ∷ 5 ∷ 6 ∷ []) $
    closes ! tt Sr h ts b o $ feq_i ! (List Val) (vptr b o ∷ []) (vptr b o ∷ []) refl $ fjoin3 ! $
    nothing ! $ move ! (3 ∷ 0 ∷ []) $ fjoin ! $ move ! (1 ∷ 0 ∷ []) $ fjoin ! $ move ! (2 ∷ 3 ∷ []) $ join ! $ move !
    (2 ∷ 0 ∷ []) $ join ! $
    sets ! (of_opd ! (unit_lit !)) refl (tt, tt) $ use0 𝓛 (raw (fact 𝓤 Told))
    (fact_i 𝓤 Told (emp 𝓤) ((λ e. differ (ap (λ (x : TableId). x.views_name) e)), refl, refl)) $ feq_i ! (List Val) (vunit ∷ [])
    (vunit ∷ []) refl $
    returns ! (look_at ! 0 refl) $ free_all ! refl $ keep ! (2 ∷ 3 ∷ 0 ∷ 1 ∷ []) $ by !
    (leaves 𝓛 En hs c y vunit tt (h, (k, tt)) (tt, (tt, tt)))))))))
