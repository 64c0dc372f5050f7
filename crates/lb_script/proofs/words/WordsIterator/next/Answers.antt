use Rattle.std.proofs.Common.{rules, ℕ, ◌≡◌, ◌<◌, ◌==◌, length, [], ◌∷◌, ◌∙◌, subst, arith}
use Rattle.std.specs.Str.{IsUtf8}
use Rattle.std.proofs.lemmas.List.Sums.{position_or_len_is}
use Rattle.lb_script.specs.Words.{words_of}
use Rattle.lb_script.proofs.WordsLemmas.{space_place, words_cut, words_whole, words_seen, after_space}
use Rattle.lb_script.proofs.words.WordsIterator.next.Goals as goal

pub split_at-requires-in-Some : goal.split_at-requires-in-Some
split_at-requires-in-Some c =
    let bytes = c.as_bytes.result.now in
    let within : c.in-Some.place < length bytes = search rules in
    let first : space_place bytes ≡ c.in-Some.place =
    position_or_len_is (λ (b : ℕ). b == 32) bytes c.in-Some.place 0 (search rules) (search rules) (search rules) in
    after_space c.in_ok-line.line.now c.in-Some.place (subst IsUtf8 c.as_bytes.ensures.value c.as_bytes.ensures.utf8)
    (subst (λ line. c.in-Some.place < length line) c.as_bytes.ensures.value within)
    (subst (λ line. space_place line ≡ c.in-Some.place) c.as_bytes.ensures.value first)

pub returns-in-Some-clause-steps : goal.returns-in-Some-clause-steps
returns-in-Some-clause-steps c =
    let bytes = c.as_bytes.result.now in
    let within : c.in-Some.place < length bytes = search rules in
    let first : space_place bytes ≡ c.in-Some.place =
    position_or_len_is (λ (b : ℕ). b == 32) bytes c.in-Some.place 0 (search rules) (search rules) (search rules) in
    rw (c.split_at.ensures.front, c.split_at-in-Some.ensures.back)
    (words_seen c.self.inside.rest c.in_ok-line.line c.args.self.now c.self.view_is c.in_ok-line.was
    ∙ words_cut c.in_ok-line.line.now c.in-Some.place
    (subst (λ line. c.in-Some.place < length line) c.as_bytes.ensures.value within)
    (subst (λ line. space_place line ≡ c.in-Some.place) c.as_bytes.ensures.value first))

pub returns-in-Some-clause-goes : goal.returns-in-Some-clause-goes
returns-in-Some-clause-goes c =
    let steps : c.args.self.now ≡ c.split_at.result.0.now ∷ words_of c.split_at-in-Some.result.1.now = returns-in-Some-clause-steps c in
    rw steps (search rules)

pub returns-in-None-clause-steps : goal.returns-in-None-clause-steps
returns-in-None-clause-steps c =
    let bytes = c.as_bytes.result.now in
    let none : space_place bytes ≡ length bytes =
    position_or_len_is (λ (b : ℕ). b == 32) bytes (length bytes) 0 (omega arith) (search rules) (search rules) in
    words_seen c.self.inside.rest c.in_ok-line.line c.args.self.now c.self.view_is c.in_ok-line.was
    ∙ words_whole c.in_ok-line.line.now (subst (λ line. space_place line ≡ length line) c.as_bytes.ensures.value none)

pub returns-in-None-clause-goes : goal.returns-in-None-clause-goes
returns-in-None-clause-goes c =
    let steps : c.args.self.now ≡ c.in_ok-line.line.now ∷ [] = returns-in-None-clause-steps c in
    rw steps (search rules)
