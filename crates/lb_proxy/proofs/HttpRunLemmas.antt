-- Lemmas on runs of bytes: what a byte at the front of one says.
use Rattle.std.proofs.Common.{◌≡◌, ◌≢◌, ℕ, zero, suc, ◌+◌, ◌-◌, ◌<◌, Bool, true, false, List, [], ◌∷◌, ◌++◌, length, refl, ap, subst, arith}
use Rattle.std.proofs.lemmas.List.Elements.{All-cons, All-nil, All-head, All-tail}
use Rattle.httparse.specs.Grammar.{AllPass}
use Rattle.lb_proxy.specs.Http.Chunked.{Run, Counted}

-- what counts as one of so many
pub counted : (P : ℕ → List ℕ → Type 0) (room : ℕ) (text : List ℕ) → 0 < room → P (room - 1) text → Counted P room text
counted P zero text some p = absurd (omega arith)
counted P (suc left) text some p = let e : suc left - 1 ≡ left = omega arith in subst (λ (n : ℕ). P n text) e p

pub counted_back : (P : ℕ → List ℕ → Type 0) (room : ℕ) (text : List ℕ) → Counted P room text → P (room - 1) text
counted_back P zero text p = absurd p
counted_back P (suc left) text p = let e : left ≡ suc left - 1 = omega arith in subst (λ (n : ℕ). P n text) e p

module _ (test : ℕ → Bool) (stop : ℕ) (P : ℕ → List ℕ → Type 0) where
  pub run_stop : (most : ℕ) (text : List ℕ) → P most text → Run test stop P most (stop ∷ text)
  run_stop most text p = record {
    run = [];
    pass = All-nil (λ v. test v ≡ true);
    left = most;
    within = omega arith;
    after = text;
    is = refl;
    follows = p;
  }

  pub run_stop_back : (most : ℕ) (text : List ℕ) → test stop ≡ false → Run test stop P most (stop ∷ text) → P most text
  run_stop_back most text fails r = by r.run r.pass r.left r.within r.after r.is r.follows
    where
      by : (run : List ℕ) → AllPass test run → (left : ℕ) → most ≡ length run + left → (after : List ℕ)
          → stop ∷ text ≡ run ++ stop ∷ after → P left after → P most text
      by [] pass left within after is p =
          let e : left ≡ most = omega arith in
          let f : after ≡ text = cc in
          subst (λ (n : ℕ). P n text) e (subst (λ (t : List ℕ). P left t) f p)
      by (x ∷ run) pass left within after is p =
          let same : stop ≡ x = cc in
          let holds : test x ≡ true = All-head (λ v. test v ≡ true) x run pass in
          let also : test stop ≡ test x = ap test same in
          absurd (cc)

  pub run_more : (b most : ℕ) (text : List ℕ) → test b ≡ true → 0 < most → Run test stop P (most - 1) text → Run test stop P most (b ∷ text)
  run_more b most text holds some r =
      let within = r.within in
      record {
        run = b ∷ r.run;
        pass = All-cons (λ v. test v ≡ true) b r.run holds r.pass;
        left = r.left;
        within = omega arith;
        after = r.after;
        is = ap (λ (l : List ℕ). b ∷ l) r.is;
        follows = r.follows;
      }

  pub run_more_back : (b most : ℕ) (text : List ℕ) → b ≢ stop → Run test stop P most (b ∷ text) → Run test stop P (most - 1) text
  run_more_back b most text other r = by r.run r.pass r.left r.within r.after r.is r.follows
    where
      by : (run : List ℕ) → AllPass test run → (left : ℕ) → most ≡ length run + left → (after : List ℕ)
          → b ∷ text ≡ run ++ stop ∷ after → P left after → Run test stop P (most - 1) text
      by [] pass left within after is p = absurd (other (cc))
      by (x ∷ run) pass left within after is p = record {
        run = run;
        pass = All-tail (λ v. test v ≡ true) x run pass;
        left = left;
        within = omega arith;
        after = after;
        is = cc;
        follows = p;
      }

  pub run_bad : (b most : ℕ) (text : List ℕ) → b ≢ stop → test b ≡ false → Run test stop P most (b ∷ text) → ⊥
  run_bad b most text other fails r = by r.run r.pass r.after r.is
    where
      by : (run : List ℕ) → AllPass test run → (after : List ℕ) → b ∷ text ≡ run ++ stop ∷ after → ⊥
      by [] pass after is = other (cc)
      by (x ∷ run) pass after is =
          let same : b ≡ x = cc in
          let holds : test x ≡ true = All-head (λ v. test v ≡ true) x run pass in
          let also : test b ≡ test x = ap test same in
          cc

  pub run_full : (b : ℕ) (text : List ℕ) → b ≢ stop → Run test stop P 0 (b ∷ text) → ⊥
  run_full b text other r = by r.run r.left r.within r.after r.is
    where
      by : (run : List ℕ) (left : ℕ) → 0 ≡ length run + left → (after : List ℕ) → b ∷ text ≡ run ++ stop ∷ after → ⊥
      by [] left within after is = other (cc)
      by (x ∷ run) left within after is = omega arith

-- a run that nothing may end
pub run_none : (test : ℕ → Bool) (stop : ℕ) (P : ℕ → List ℕ → Type 0) (text : List ℕ) → Run test stop (Counted P) 0 text → ⊥
run_none test stop P text r = by r.run r.left r.within r.after r.follows
  where
    by : (run : List ℕ) (left : ℕ) → 0 ≡ length run + left → (after : List ℕ) → Counted P left after → ⊥
    by run zero within after p = p
    by run (suc left) within after p = omega arith
