-- The tests of the two numbers, taken one after the other, are that both are there.
use Rattle.std.proofs.lemmas.Bool.{le-ltb}
use Rattle.lb_world.proofs.Words.{◌<◌, ◌≡◌, ◌≤◌, ◌&&◌, arith, lt-ltb, nat_lt, refl, ℕ}
use Rattle.lb_world.proofs.world.Tables.has.Goals as goal

-- two numbers are in their tables: the second test is taken where the first one holds
second-test :
    (r n m g k l : ℕ) → m ≡ n → l ≡ k → r < m → nat_lt g l ≡ (nat_lt r n && nat_lt g k)
second-test r n m g k l same_n same_k within = rw (← same_n, ← same_k, lt-ltb r m within) refl

first-test : (r n m g k : ℕ) → m ≡ n → m ≤ r → nat_lt r m ≡ (nat_lt r n && nat_lt g k)
first-test r n m g k same_n past = rw (← same_n, le-ltb r m past) refl

pub returns-then-registry-len : goal.returns-then-registry-len
returns-then-registry-len g c =
    second-test c.args.registry _ c.len.result c.args.gate _ c.len-then-registry-len.result (omega arith) (omega arith)
    c.if-registry-len.true

pub returns-else-registry-len : goal.returns-else-registry-len
returns-else-registry-len g c =
    first-test c.args.registry _ c.len.result c.args.gate _ (omega arith) c.if-registry-len.false
