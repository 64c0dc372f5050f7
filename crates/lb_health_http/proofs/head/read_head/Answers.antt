use Rattle.std.proofs.Common.{◌≡◌, ℕ, ◌+◌, ◌<◌, ◌≤◌, inl, inr, List}
use Rattle.std.proofs.Common.{[], ◌∷◌, ◌++◌, Some, Ok, length-append, subst, arith, rules, refl, ap, ◌∙◌, sym}
use Rattle.httparse.specs.Grammar.{ResponseHead, HasNoResponse, MayBecomeResponse}
use Rattle.lb_health_http.specs.declared.head.Seen.TheVariants.{Whole, Bad}
use Rattle.lb_health_http.specs.Head.{MayBecomeHead, Sees, IsBlankLine, IsWholeHead, AfterBlank, HasBadHead, HasLargeHead, EndsInHead}
use Rattle.lb_health_http.proofs.HeadLemmas.{no_response-push, no_response-nil, open_nil, open_push, open_feed}
use Rattle.lb_health_http.proofs.HeadLemmas.{head_ended, head_too_large, head_pushed, head_blank, head_refused, head_is_bad, head_is_low}
use Rattle.lb_health_http.proofs.HeadLemmas.{head_is_whole}
use Rattle.lb_health_http.proofs.RoomLemmas.{BeginsWithText, feeds, text_nil, text_push, text_feed}
use Rattle.lb_health_http.proofs.RoomLemmas.{feeds_push, feeds_feed, feeds_blank, has_room, has_many}
use Rattle.lb_health_http.proofs.Streams.{OnBytes-then, OnBytes-map, OnBytes-here, gave_byte, gave_none}
use Rattle.lb_health_http.proofs.head.read_head.Goals as goal
use Rattle.lb_health_http.proofs.head.read_head.Goals.{else-byte-eq10-via-then-byte-eq10+else-is_blank}
use Rattle.lb_health_http.proofs.head.read_head.Goals.{else-byte-eq10-via-else-byte-eq10}

pub loop-init : goal.loop-init
loop-init g c =
    let P : List ℕ → List ℕ → Type 0 = AfterBlank 0 [] in
    rw c.new-bytes.ensures.items (record {
      read = OnBytes-here P _ (λ x. record { ends = []; is = refl; counted = refl });
      so_far = record { none = no_response-nil; may_go_on = open_nil; within = omega arith };
      text = text_nil;
      counted = refl;
      room = omega arith;
      kept = refl;
    })

pub returns-in-Ok-None-clause-outcome : goal.returns-in-Ok-None-clause-outcome
returns-in-Ok-None-clause-outcome g c =
    let bytes = c.loop.bytes.items in
    let P : List ℕ → List ℕ → Type 0 = AfterBlank c.loop.counter bytes in
    let Q : List ℕ → List ℕ → Type 0 = λ s t. (s ≡ []) × (t ≡ []) in
    let S : List ℕ → List ℕ → Type 0 = λ s t. (t ≡ []) × EndsInHead s in
    let small : c.loop.counter < 65536 = c.loop-test.true in
    OnBytes-then P Q S _ _ _ c.loop.invariant.read (gave_none _ _ _ c.next_byte.ensures.byte (cc))
    (λ x y z p q. (q.1, head_ended c.loop.counter bytes x y p c.loop.invariant.so_far small q.0))

pub loop-preserved-then-is_blank : goal.loop-preserved-then-is_blank
loop-preserved-then-is_blank g c =
    let bytes = c.loop.bytes.items in
    let blank : IsBlankLine bytes = subst IsBlankLine c.deref.ensures.value c.if-is_blank.ensures in
    let feed : c.in-Ok-Some.byte ≡ 10 = c.if-byte-eq10.true in
    let gave : c.next_byte.result ≡ Ok (Some c.in-Ok-Some.byte) = cc in
    let P : List ℕ → List ℕ → Type 0 = AfterBlank c.loop.counter bytes in
    let Q : List ℕ → List ℕ → Type 0 = λ s t. s ≡ c.in-Ok-Some.byte ∷ t in
    let S : List ℕ → List ℕ → Type 0 = AfterBlank (c.loop.counter + 1) [] in
    rw c.clear.ensures.items (record {
      read = OnBytes-then P Q S _ _ _ c.loop.invariant.read (gave_byte _ _ _ c.next_byte.ensures.byte c.in-Ok-Some.byte gave)
          (λ x y z p q. head_blank c.loop.counter bytes x y z p (q ∙ ap (λ (b : ℕ). b ∷ z) feed) blank);
      so_far = record { none = no_response-nil; may_go_on = open_nil; within = omega arith };
      text = text_nil;
      counted = c.loop.invariant.counted ∙ feeds_blank bytes blank;
      room = c.loop.invariant.room;
      kept = search rules;
    })

pub loop-preserved-then-byte-ne10 : goal.loop-preserved-then-byte-ne10
loop-preserved-then-byte-ne10 g c =
    let bytes = c.loop.bytes.items in
    let b = c.in-Ok-Some.byte in
    let gave : c.next_byte.result ≡ Ok (Some b) = cc in
    let grown : c.push.new.self.items ≡ bytes ++ b ∷ [] = search rules in
    let P : List ℕ → List ℕ → Type 0 = AfterBlank c.loop.counter bytes in
    let Q : List ℕ → List ℕ → Type 0 = λ s t. s ≡ b ∷ t in
    let S : List ℕ → List ℕ → Type 0 = AfterBlank (c.loop.counter + 1) (bytes ++ b ∷ []) in
    let within = c.loop.invariant.so_far.within in
    rw grown (record {
      read = OnBytes-then P Q S _ _ _ c.loop.invariant.read (gave_byte _ _ _ c.next_byte.ensures.byte b gave)
          (λ x y z p q. head_pushed c.loop.counter b bytes x y z p q);
      so_far = record {
        none = no_response-push bytes b c.loop.invariant.so_far.none c.if-byte-ne10.true;
        may_go_on = open_push bytes b c.loop.invariant.so_far.may_go_on c.if-byte-ne10.true;
        within = omega (arith, length-append bytes (b ∷ []));
      };
      text = text_push bytes b c.loop.invariant.text c.if-byte-ne10.true;
      counted = c.loop.invariant.counted ∙ sym (feeds_push bytes b c.if-byte-ne10.true);
      room = c.loop.invariant.room;
      kept = search rules;
    })

pub returns-in-Whole-clause-outcome : goal.returns-in-Whole-clause-outcome
returns-in-Whole-clause-outcome g c =
    let bytes = c.loop.bytes.items in
    let b = c.in-Ok-Some.byte in
    let gave : c.next_byte.result ≡ Ok (Some b) = cc in
    let grown : c.push.new.self.items ≡ bytes ++ b ∷ [] = search rules in
    let small : c.loop.counter < 65536 = c.loop-test.true in
    let P : List ℕ → List ℕ → Type 0 = AfterBlank c.loop.counter bytes in
    let Q : List ℕ → List ℕ → Type 0 = λ s t. s ≡ b ∷ t in
    let S : List ℕ → List ℕ → Type 0 = λ s t. (n : ℕ) × (n ≤ 65536) × AfterBlank n c.push.new.self.items s t in
    OnBytes-then P Q S _ _ _ c.loop.invariant.read (gave_byte _ _ _ c.next_byte.ensures.byte b gave)
    (λ x y z p q. (
      c.loop.counter + 1,
      omega arith,
      subst (λ (l : List ℕ). AfterBlank (c.loop.counter + 1) l x z) (sym grown) (head_pushed c.loop.counter b bytes x y z p q),
    ))

pub returns-in-Whole-clause-whole : goal.returns-in-Whole-clause-whole
returns-in-Whole-clause-whole g c =
    let bytes = c.loop.bytes.items in
    let parts = c.in-Whole.parts in
    let grown : c.push.new.self.items ≡ bytes ++ c.in-Ok-Some.byte ∷ [] = search rules in
    let feed : c.in-Ok-Some.byte ≡ 10 = c.if-byte-ne10.false in
    let ended : c.push.new.self.items ≡ bytes ++ 10 ∷ [] = grown ∙ ap (λ (b : ℕ). bytes ++ b ∷ []) feed in
    let SeesWhole : List ℕ → Type 0 = λ l. Sees l (Whole parts) in
    let seen : Sees (bytes ++ 10 ∷ []) (Whole parts) = subst SeesWhole (c.deref-in-loop.ensures.value ∙ ended) c.in-Whole.ensures in
    let within = c.loop.invariant.so_far.within in
    let small : c.loop.counter < 65536 = c.loop-test.true in
    subst (λ (l : List ℕ). (h : ResponseHead) × IsWholeHead l parts h) (sym ended)
    (head_is_whole bytes parts c.loop.invariant.so_far.none seen c.if-look_at-ge100.true (omega arith))

pub returns-in-Whole-2-clause-outcome : goal.returns-in-Whole-2-clause-outcome
returns-in-Whole-2-clause-outcome g c =
    let bytes = c.loop.bytes.items in
    let parts = c.in-Whole.parts in
    let b = c.in-Ok-Some.byte in
    let gave : c.next_byte.result ≡ Ok (Some b) = cc in
    let grown : c.push.new.self.items ≡ bytes ++ b ∷ [] = search rules in
    let feed : b ≡ 10 = c.if-byte-ne10.false in
    let ended : c.push.new.self.items ≡ bytes ++ 10 ∷ [] = grown ∙ ap (λ (x : ℕ). bytes ++ x ∷ []) feed in
    let SeesWhole : List ℕ → Type 0 = λ l. Sees l (Whole parts) in
    let seen : Sees (bytes ++ 10 ∷ []) (Whole parts) = subst SeesWhole (c.deref-in-loop.ensures.value ∙ ended) c.in-Whole.ensures in
    let small : c.loop.counter < 65536 = c.loop-test.true in
    let P : List ℕ → List ℕ → Type 0 = AfterBlank c.loop.counter bytes in
    let Q : List ℕ → List ℕ → Type 0 = λ s t. s ≡ b ∷ t in
    let S : List ℕ → List ℕ → Type 0 = HasBadHead in
    OnBytes-then P Q S _ _ _ c.loop.invariant.read (gave_byte _ _ _ c.next_byte.ensures.byte b gave)
    (λ x y z p q. head_refused c.loop.counter bytes x y z small p c.loop.invariant.so_far (q ∙ ap (λ (n : ℕ). n ∷ z) feed)
    (head_is_low bytes parts c.loop.invariant.so_far.none seen c.if-look_at-ge100.false))

pub returns-in-Bad-clause-outcome : goal.returns-in-Bad-clause-outcome
returns-in-Bad-clause-outcome g c =
    let bytes = c.loop.bytes.items in
    let b = c.in-Ok-Some.byte in
    let gave : c.next_byte.result ≡ Ok (Some b) = cc in
    let grown : c.push.new.self.items ≡ bytes ++ b ∷ [] = search rules in
    let feed : b ≡ 10 = c.if-byte-ne10.false in
    let ended : c.push.new.self.items ≡ bytes ++ 10 ∷ [] = grown ∙ ap (λ (x : ℕ). bytes ++ x ∷ []) feed in
    let SeesBad : List ℕ → Type 0 = λ l. Sees l Bad in
    let seen : Sees (bytes ++ 10 ∷ []) Bad = subst SeesBad (c.deref-in-loop.ensures.value ∙ ended) c.in-Bad.ensures in
    let small : c.loop.counter < 65536 = c.loop-test.true in
    let P : List ℕ → List ℕ → Type 0 = AfterBlank c.loop.counter bytes in
    let Q : List ℕ → List ℕ → Type 0 = λ s t. s ≡ b ∷ t in
    let S : List ℕ → List ℕ → Type 0 = HasBadHead in
    OnBytes-then P Q S _ _ _ c.loop.invariant.read (gave_byte _ _ _ c.next_byte.ensures.byte b gave)
    (λ x y z p q. head_refused c.loop.counter bytes x y z small p c.loop.invariant.so_far (q ∙ ap (λ (n : ℕ). n ∷ z) feed)
    (head_is_bad (bytes ++ 10 ∷ []) seen))

pub loop-preserved : goal.loop-preserved
loop-preserved g c =
    let bytes = c.loop.bytes.items in
    let b = c.in-Ok-Some.byte in
    let gave : c.next_byte.result ≡ Ok (Some b) = cc in
    let grown : c.push.new.self.items ≡ bytes ++ b ∷ [] = search rules in
    let feed : b ≡ 10 = c.if-byte-ne10.false in
    let ended : c.deref-in-loop.result.now ≡ bytes ++ 10 ∷ [] =
    c.deref-in-loop.ensures.value ∙ grown ∙ ap (λ (x : ℕ). bytes ++ x ∷ []) feed in
    let unread : HasNoResponse (bytes ++ 10 ∷ []) = subst HasNoResponse ended c.in-Open.ensures.0 in
    let goes_on : MayBecomeResponse (bytes ++ 10 ∷ []) = subst MayBecomeResponse ended c.in-Open.ensures.1 in
    let text : BeginsWithText (bytes ++ 10 ∷ []) =
    elim c.else-byte-eq10.branch [
      | else-byte-eq10-via-then-byte-eq10+else-is_blank w ↦ text_feed bytes c.loop.invariant.text
          (λ blank. w.if-is_blank.ensures (subst IsBlankLine (sym w.deref.ensures.value) blank))
      | else-byte-eq10-via-else-byte-eq10 w ↦ absurd (w.if-byte-eq10.false feed)
    ] in
    let counted : c.loop.lines + 1 ≡ feeds (bytes ++ b ∷ []) = omega (arith, c.loop.invariant.counted, feeds_feed bytes b feed) in
    let few : feeds (bytes ++ 10 ∷ []) ≤ 65 =
    omega (arith, c.loop.invariant.counted, feeds_feed bytes 10 refl, c.if-lines-le-LINE_LIMIT.true) in
    let P : List ℕ → List ℕ → Type 0 = AfterBlank c.loop.counter bytes in
    let Q : List ℕ → List ℕ → Type 0 = λ s t. s ≡ b ∷ t in
    let S : List ℕ → List ℕ → Type 0 = AfterBlank (c.loop.counter + 1) (bytes ++ b ∷ []) in
    let within = c.loop.invariant.so_far.within in
    let again : bytes ++ 10 ∷ [] ≡ bytes ++ b ∷ [] = ap (λ (x : ℕ). bytes ++ x ∷ []) (sym feed) in
    rw grown (record {
      read = OnBytes-then P Q S _ _ _ c.loop.invariant.read (gave_byte _ _ _ c.next_byte.ensures.byte b gave)
          (λ x y z p q. head_pushed c.loop.counter b bytes x y z p q);
      so_far = record {
        none = subst HasNoResponse again unread;
        may_go_on = open_feed (bytes ++ b ∷ []) (subst MayBecomeHead again (has_room bytes text unread goes_on few));
        within = omega (arith, length-append bytes (b ∷ []));
      };
      text = subst BeginsWithText again text;
      counted = counted;
      room = c.if-lines-le-LINE_LIMIT.true;
      kept = search rules;
    })

pub returns-in-Open-2-clause-outcome : goal.returns-in-Open-2-clause-outcome
returns-in-Open-2-clause-outcome g c =
    let bytes = c.loop.bytes.items in
    let b = c.in-Ok-Some.byte in
    let gave : c.next_byte.result ≡ Ok (Some b) = cc in
    let grown : c.push.new.self.items ≡ bytes ++ b ∷ [] = search rules in
    let feed : b ≡ 10 = c.if-byte-ne10.false in
    let ended : c.deref-in-loop.result.now ≡ bytes ++ 10 ∷ [] =
    c.deref-in-loop.ensures.value ∙ grown ∙ ap (λ (x : ℕ). bytes ++ x ∷ []) feed in
    let unread : HasNoResponse (bytes ++ 10 ∷ []) = subst HasNoResponse ended c.in-Open.ensures.0 in
    let goes_on : MayBecomeResponse (bytes ++ 10 ∷ []) = subst MayBecomeResponse ended c.in-Open.ensures.1 in
    let text : BeginsWithText (bytes ++ 10 ∷ []) =
    elim c.else-byte-eq10.branch [
      | else-byte-eq10-via-then-byte-eq10+else-is_blank w ↦ text_feed bytes c.loop.invariant.text
          (λ blank. w.if-is_blank.ensures (subst IsBlankLine (sym w.deref.ensures.value) blank))
      | else-byte-eq10-via-else-byte-eq10 w ↦ absurd (w.if-byte-eq10.false feed)
    ] in
    let many : 65 < feeds (bytes ++ 10 ∷ []) =
    omega (arith, c.loop.invariant.counted, feeds_feed bytes 10 refl, c.if-lines-le-LINE_LIMIT.false) in
    let small : c.loop.counter < 65536 = c.loop-test.true in
    let P : List ℕ → List ℕ → Type 0 = AfterBlank c.loop.counter bytes in
    let Q : List ℕ → List ℕ → Type 0 = λ s t. s ≡ b ∷ t in
    let S : List ℕ → List ℕ → Type 0 = HasBadHead in
    OnBytes-then P Q S _ _ _ c.loop.invariant.read (gave_byte _ _ _ c.next_byte.ensures.byte b gave)
    (λ x y z p q. head_refused c.loop.counter bytes x y z small p c.loop.invariant.so_far (q ∙ ap (λ (n : ℕ). n ∷ z) feed)
    (inr (inl (has_many bytes text unread goes_on many))))

pub returns-clause-outcome : goal.returns-clause-outcome
returns-clause-outcome g c =
    let P : List ℕ → List ℕ → Type 0 = AfterBlank c.loop.counter c.loop.bytes.items in
    let S : List ℕ → List ℕ → Type 0 = HasLargeHead in
    let full : c.loop.counter ≡ 65536 = omega arith in
    OnBytes-map P S _ _ c.loop.invariant.read
    (λ x y p. head_too_large c.loop.counter c.loop.bytes.items x y (subst (λ (n : ℕ). AfterBlank n c.loop.bytes.items x y) full p)
    c.loop.invariant.so_far)
