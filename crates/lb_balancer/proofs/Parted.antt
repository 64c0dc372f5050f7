-- Members that aren't ready, gathered in order: each comes after those that were gathered before, so it is put last.
use Rattle.std.proofs.Common.{◌≡◌, ◌∙◌, inl, inr, ◌++◌, Bool, true, false, List, [], ◌∷◌, refl, sym, ap, subst, append_assoc}
use Rattle.std.proofs.lemmas.List.{append-nil}
use Rattle.std.specs.BTreeSet.{insert_key}
use Rattle.std.specs.List.{AllByRecursion as Each}
use Rattle.std.specs.List.Sorted.{IsStrictlySortedBy}
use Rattle.std.proofs.Common.{Less, Greater}
use Rattle.std.specs.Ordering.{ordering_reverse}
use Rattle.lb_select_base.specs.Backends.{Member, member_cmp}
use Rattle.lb_select_base.proofs.Turns.{member_cmp_total}
use Rattle.lb_balancer.specs.Shown.{AreUnready}

each-at : (P : Member → Type 0) (us : List Member) (b : Member) (rest : List Member) → Each P (us ++ b ∷ rest) → P b
each-at P [] b rest e = e.0
each-at P (u ∷ us) b rest e = each-at P us b rest e.1

each-without : (P : Member → Type 0) (us : List Member) (b : Member) (rest : List Member) → Each P (us ++ b ∷ rest) → Each P (us ++ rest)
each-without P [] b rest e = e.1
each-without P (u ∷ us) b rest e = (e.0, each-without P us b rest e.1)

sorted-without : (us : List Member) (b : Member) (rest : List Member) → IsStrictlySortedBy member_cmp (us ++ b ∷ rest)
    → IsStrictlySortedBy member_cmp (us ++ rest)
unfolding IsStrictlySortedBy
sorted-without [] b rest s = s.1
sorted-without (u ∷ us) b rest s =
    (each-without (λ y. member_cmp u y ≡ Less) us b rest s.0, sorted-without us b rest s.1)

last-key : (us : List Member) (b : Member) (rest : List Member) → IsStrictlySortedBy member_cmp (us ++ b ∷ rest)
    → insert_key member_cmp us b ≡ us ++ b ∷ []
unfolding IsStrictlySortedBy
last-key [] b rest s = refl
last-key (u ∷ us) b rest s =
    let less : member_cmp u b ≡ Less = each-at (λ y. member_cmp u y ≡ Less) us b rest s.0 in
    let more : member_cmp b u ≡ Greater = member_cmp_total.antisymm b u ∙ ap ordering_reverse less in
    rw more (ap (λ ks. u ∷ ks) (last-key us b rest s.1))

module _ (right : Member → Bool → Type 0) where
  -- of all members some were looked at, and these of them aren't ready; the rest comes after these
  pub record IsParted (all unready rest : List Member) : Type 0 where
    pub goes : (more : List Member) → AreUnready right rest more → AreUnready right all (unready ++ more)
    pub sorted : IsStrictlySortedBy member_cmp (unready ++ rest)

  pub parted-first : (all : List Member) → IsStrictlySortedBy member_cmp all → IsParted all [] all
  parted-first all s = record { goes = (λ more h. h); sorted = s }

  pub parted-ready : (all us : List Member) (b : Member) (rest : List Member) → IsParted all us (b ∷ rest) → right b true
      → IsParted all us rest
  parted-ready all us b rest p is = record {
    goes = (λ more h. p.goes more (more, h, inr (is, refl)));
    sorted = sorted-without us b rest p.sorted;
  }

  pub parted-unready : (all us ks : List Member) (b : Member) (rest : List Member) → IsParted all us (b ∷ rest) → right b false
      → ks ≡ insert_key member_cmp us b → IsParted all ks rest
  parted-unready all us ks b rest p is inserted =
      let last : ks ≡ us ++ b ∷ [] = inserted ∙ last-key us b rest p.sorted in
      let joined : (more : List Member) → ks ++ more ≡ us ++ b ∷ more =
      λ more. ap (λ xs. xs ++ more) last ∙ append_assoc us (b ∷ []) more in
      record {
        goes = (λ more h. subst (AreUnready right all) (sym (joined more)) (p.goes (b ∷ more) (more, h, inl (is, refl))));
        sorted = subst (IsStrictlySortedBy member_cmp) (sym (joined rest)) p.sorted;
      }

  pub parted-all : (all us : List Member) → IsParted all us [] → AreUnready right all us
  parted-all all us p = subst (AreUnready right all) (append-nil us) (p.goes [] refl)
