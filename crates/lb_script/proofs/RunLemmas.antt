-- Lemmas on the text of a script's run: how it goes on from line to line, and how it ends.
use Rattle.std.proofs.Common.{◌≡◌, ◌≢◌, inl, inr, ℕ, ◌+◌, Bool, true, false, List, [], ◌∷◌, ◌++◌, codes, Option, Some, None, IfSome}
use Rattle.std.proofs.Common.{refl, sym, ap, ◌∙◌, subst, append_assoc, append-nil, arith}
use Rattle.std.specs.Io.KnownBytes.{Appends, prepend_known}
use Rattle.std.proofs.KnownBytes.{Appends-nil, Appends-trans}
use Rattle.lb_world.specs.History.{History}
use Rattle.lb_world.specs.Meanings.{Meaning}
use Rattle.lb_world.specs.Stands.{Stands}
use Rattle.lb_world.specs.Views.{WorldValue}
use Rattle.lb_script.specs.declared.error.ScriptError.{ScriptError}
use Rattle.lb_script.specs.declared.error.ScriptError.TheVariants.{BadLine, LineTooLong, Read, OutOfMemory}
use Rattle.lb_script.specs.declared.session.LineTurn.{LineTurn}
use Rattle.lb_script.specs.declared.session.LineTurn.TheVariants.{Answered, LastAnswered, Ended, Failed}
use Rattle.lb_script.specs.declared.kinds.Kind.{Kind}
use Rattle.lb_stream.specs.Lines.{lines_of, whole_lines, first_line, IsLine}
use Rattle.lb_script.specs.Output.{IsOutput, ends, answered, bad_line, too_long, no_memory, read_fails, IsToAnswer, Wrote, WroteFront}
use Rattle.lb_script.specs.Internal.Session.{AnsweredLine, AnsweredRest, FailsFor, TakesTurn, Joins}
use Rattle.lb_stream.specs.Stream.{OnBytes, AppendsFront}
use Rattle.lb_script.specs.Texts.{answer_text, error_text}
use Rattle.lb_stream.proofs.LinesLemmas.{lines_first, lines_feed, lines_last, whole_feed, whole_none, first_of_none}
use Rattle.lb_stream.proofs.StreamLemmas.{front_more, front_after}

-- the bytes that are known after a call
known_after : (left now : Option (List ℕ)) (rest : List ℕ) (P : List ℕ → List ℕ → Type 0) → left ≡ Some rest → OnBytes left now P
    → (more : List ℕ) × (now ≡ Some more) × P rest more
known_after left None rest P is p = absurd (subst (λ l. OnBytes l None P) is p)
known_after left (Some more) rest P is p = (more, refl, subst (λ l. OnBytes l (Some more) P) is p)

-- what the reader has left, where nothing was read ahead
none_ahead : (left : Option (List ℕ)) (more : List ℕ) → prepend_known [] left ≡ Some more → left ≡ Some more
none_ahead None more is = is
none_ahead (Some xs) more is = is

-- what holds at the end by the status, where all was written
pub on_status : (r : Option ℕ) (status : ℕ) (P : Type 0) (Q : ℕ → Type 0) → IfSome r (λ s. (s ≡ status) × P) → (P → Q status) → IfSome r Q
on_status None status P Q is f = tt
on_status (Some s) status P Q is f = subst Q (sym is.0) (f is.1)

on_script : (o : Option (List ℕ)) (P Q : List ℕ → Type 0) → IfSome o P → ((script : List ℕ) → P script → Q script) → IfSome o Q
on_script None P Q p f = tt
on_script (Some script) P Q p f = f script p

-- all text so far: what went to the writer, and what waits
sent_more : (sent waiting text front after : List ℕ) → waiting ++ text ≡ front ++ after
    → (sent ++ waiting) ++ text ≡ (sent ++ front) ++ after
sent_more sent waiting text front after is =
    append_assoc sent waiting text ∙ ap (λ l. sent ++ l) is ∙ sym (append_assoc sent front after)

-- what waited after a text joined it was written, and more
joined_put : (old new mid newer : Option (List ℕ)) (sent waiting after text more : List ℕ) → Appends old new sent
    → Joins new mid waiting after text
    → Appends mid newer (after ++ more) → Appends old newer (((sent ++ waiting) ++ text) ++ more)
joined_put old new mid newer sent waiting after text more before joins put =
    let so = Appends-trans old new mid sent joins.0 before joins.1 in
    subst (Appends old newer)
    (sym (append_assoc (sent ++ joins.0) after more) ∙ ap (λ l. l ++ more) (sym (sent_more sent waiting text joins.0 after joins.2)))
    (Appends-trans old mid newer (sent ++ joins.0) (after ++ more) so put)

-- the same where a front of that was written
joined_part : (old new mid newer : Option (List ℕ)) (sent waiting after text more : List ℕ) → Appends old new sent
    → Joins new mid waiting after text
    → AppendsFront mid newer (after ++ more) → AppendsFront old newer (((sent ++ waiting) ++ text) ++ more)
joined_part old new mid newer sent waiting after text more before joins put =
    let so = Appends-trans old new mid sent joins.0 before joins.1 in
    subst (AppendsFront old newer)
    (sym (append_assoc (sent ++ joins.0) after more) ∙ ap (λ l. l ++ more) (sym (sent_more sent waiting text joins.0 after joins.2)))
    (front_after old mid newer (sent ++ joins.0) (after ++ more) so put)

module _ (M : Meaning Kind) where
  -- where a run is before line k: whole lines were consumed and answered, what waits is the end of the answers, and the text for the
  -- lines that are left completes them, for all of them and for a part of them after which a read fails
  pub record SoFar (script : List ℕ) (left old new : Option (List ℕ)) (waiting : List ℕ) (w : WorldValue Kind) (k : ℕ) : Type 0 where
    pub rest : List ℕ
    pub left_is : left ≡ Some rest
    pub consumed : List ℕ
    pub split : script ≡ consumed ++ rest
    pub sent : List ℕ
    pub written : Appends old new sent
    pub done : List ℕ
    pub done_is : done ≡ sent ++ waiting
    pub history : History Kind
    pub stands : Stands M w history
    pub on_all : (text : List ℕ) (status : ℕ) → IsOutput M false history k (lines_of rest) text status
        → IsOutput M false [] 1 (lines_of script) (done ++ text) status
    pub on_part : (part text : List ℕ) (status : ℕ) → IsOutput M true history k (whole_lines part) text status
        → IsOutput M true [] 1 (whole_lines (consumed ++ part)) (done ++ text) status

  -- some bytes complete what was answered before
  record Completes (failed : Bool) (script : List ℕ) (left : Option (List ℕ)) (done text : List ℕ) (status : ℕ) : Type 0 where
    lines : List (List ℕ)
    to_answer : IsToAnswer failed script left lines
    output : IsOutput M failed [] 1 lines (done ++ text) status

  -- what a turn gives, after each history that explains the world
  abbrev pub Gives : Option (List ℕ) → Option (List ℕ) → WorldValue Kind → WorldValue Kind → (List ℕ → Type 0) → LineTurn → Type 0
  Gives left now w v P r =
      (h : History Kind) → Stands M w h → OnBytes left now (TakesTurn M h v P r)

  -- what a turn took from the bytes that were left
  taken : {script : List ℕ} {left old new : Option (List ℕ)} {waiting : List ℕ} {w : WorldValue Kind} {k : ℕ}
      (s : SoFar script left old new waiting w k)
      (now : Option (List ℕ)) (v : WorldValue Kind) (P : List ℕ → Type 0) (r t : LineTurn) → r ≡ t → Gives left now w v P r
      → (more : List ℕ) × (now ≡ Some more) × TakesTurn M s.history v P t s.rest more
  taken {left = left} s now v P r t is next =
      known_after left now s.rest (TakesTurn M s.history v P t) s.left_is
      (subst (λ x. OnBytes left now (TakesTurn M s.history v P x)) is (next s.history s.stands))

  -- at first
  pub begins : (o : Option (List ℕ)) (ahead : List ℕ) (old : Option (List ℕ)) (waiting : List ℕ) (w : WorldValue Kind) → ahead ≡ []
      → waiting ≡ []
      → Stands M w [] → IfSome o (λ script. SoFar script (prepend_known ahead o) old old waiting w 1)
  begins None ahead old waiting w empty none stands = tt
  begins (Some script) ahead old waiting w empty none stands = record {
    rest = script;
    left_is = ap (λ a. Some (a ++ script)) empty;
    consumed = [];
    split = refl;
    sent = [];
    written = Appends-nil old;
    done = [];
    done_is = sym none;
    history = [];
    stands = stands;
    on_all = λ text status out. out;
    on_part = λ part text status out. out;
  }

  -- the text after a line that was answered
  line_output : (failed : Bool) (h : History Kind) (k : ℕ) (line : List ℕ) (lines : List (List ℕ)) (w : WorldValue Kind) (P : List ℕ
      → Type 0)
      → IsLine line → (is : AnsweredLine M h line w P)
      → (text : List ℕ) (status : ℕ) → IsOutput M failed ((is.st, is.a) ∷ h) (k + 1) lines text status
      → IsOutput M failed h k (line ∷ lines) ((answer_text is.a ++ codes "\n") ++ text) status
  line_output failed h k line lines w P fit is text status out =
      answered h k line lines is.st is.a text status fit.short is.is is.right out

  -- the text for all lines, where no read failed
  all_lines : {script : List ℕ} {left old new : Option (List ℕ)} {waiting : List ℕ} {w : WorldValue Kind} {k : ℕ}
      (s : SoFar script left old new waiting w k)
      (failed : Bool) (now : Option (List ℕ)) (text : List ℕ) (status : ℕ) → failed ≡ false
      → IsOutput M false s.history k (lines_of s.rest) text status → Completes failed script now s.done text status
  all_lines {script = script} s failed now text status fine out =
      subst (λ f. Completes f script now s.done text status) (sym fine)
      (record { lines = lines_of script; to_answer = refl; output = s.on_all text status out })

  -- some text for the lines that are left
  some_output : (h : History Kind) (k : ℕ) (lines : List (List ℕ)) → (text : List ℕ) × (status : ℕ) × IsOutput M false h k lines text status
  some_output h k [] = ([], 0, ends h k refl)
  some_output h k (line ∷ lines) =
      (error_text k OutOfMemory ++ codes "\n", 1, no_memory h k (line ∷ lines) refl (inl (λ none. cc)))

  -- all was written: what waited once a text had joined it, and more
  wrote : {script : List ℕ} {left old new : Option (List ℕ)} {waiting : List ℕ} {w : WorldValue Kind} {k : ℕ}
      (s : SoFar script left old new waiting w k)
      (failed : Bool) (unread mid newer : Option (List ℕ)) (after text more : List ℕ) (status : ℕ) → Joins new mid waiting after text
      → Appends mid newer (after ++ more) → Completes failed script unread s.done (text ++ more) status
      → Wrote M failed script unread old newer status
  wrote {old = old} {new = new} {waiting = waiting} s failed unread mid newer after text more status joins put all = record {
    lines = all.lines;
    to_answer = all.to_answer;
    text = s.done ++ (text ++ more);
    output = all.output;
    written = subst (Appends old newer) (append_assoc (s.sent ++ waiting) text more ∙ ap (λ l. l ++ (text ++ more)) (sym s.done_is))
        (joined_put old new mid newer s.sent waiting after text more s.written joins put);
  }

  -- a front of that was written
  wrote_front : {script : List ℕ} {left old new : Option (List ℕ)} {waiting : List ℕ} {w : WorldValue Kind} {k : ℕ}
      (s : SoFar script left old new waiting w k)
      (failed : Bool) (unread mid newer : Option (List ℕ)) (after text more : List ℕ) (status : ℕ) → Joins new mid waiting after text
      → AppendsFront mid newer (after ++ more) → Completes failed script unread s.done (text ++ more) status
      → WroteFront M failed script unread old newer
  wrote_front {old = old} {new = new} {waiting = waiting} s failed unread mid newer after text more status joins put all = record {
    lines = all.lines;
    to_answer = all.to_answer;
    text = s.done ++ (text ++ more);
    status = status;
    output = all.output;
    written = subst (AppendsFront old newer) (append_assoc (s.sent ++ waiting) text more ∙ ap (λ l. l ++ (text ++ more)) (sym s.done_is))
        (joined_part old new mid newer s.sent waiting after text more s.written joins put);
  }

  -- after a line that was answered
  one_more : {script : List ℕ} {left old new : Option (List ℕ)} {waiting : List ℕ} {w : WorldValue Kind} {k : ℕ}
      (s : SoFar script left old new waiting w k)
      (now newer : Option (List ℕ)) (after : List ℕ) (v : WorldValue Kind) (r : LineTurn) → r ≡ Answered
      → Gives left now w v (Joins new newer waiting after) r
      → SoFar script now old newer after v (k + 1)
  one_more {script = script} {old = old} {new = new} {waiting = waiting} {k = k} s now newer after v r given next =
      let n = taken s now v (Joins new newer waiting after) r Answered given next in
      let first = n.2 in
      let fed : List ℕ = first.line ++ 10 ∷ [] in
      let is = first.answered in
      let text : List ℕ = answer_text is.a ++ codes "\n" in
      let joins : Joins new newer waiting after text = is.printed in
      let fed_then : (xs : List ℕ) → fed ++ xs ≡ first.line ++ 10 ∷ xs = λ xs. append_assoc first.line (10 ∷ []) xs in
      record {
        rest = n.0;
        left_is = n.1;
        consumed = s.consumed ++ fed;
        split = s.split ∙ ap (λ l. s.consumed ++ l) (first.is ∙ sym (fed_then n.0)) ∙ sym (append_assoc s.consumed fed n.0);
        sent = s.sent ++ joins.0;
        written = Appends-trans old new newer s.sent joins.0 s.written joins.1;
        done = s.done ++ text;
        done_is = ap (λ l. l ++ text) s.done_is ∙ sent_more s.sent waiting text joins.0 after joins.2;
        history = (is.st, is.a) ∷ s.history;
        stands = is.stands;
        on_all = λ t status out.
            let cut : lines_of s.rest ≡ first.line ∷ lines_of n.0 = ap lines_of first.is
            ∙ lines_feed first.line n.0 first.is_line.no_feed in
            subst (λ l. IsOutput M false [] 1 (lines_of script) l status) (sym (append_assoc s.done text t))
            (s.on_all (text ++ t) status
            (subst (λ lines. IsOutput M false s.history k lines (text ++ t) status) (sym cut)
            (line_output false s.history k first.line (lines_of n.0) v (Joins new newer waiting after) first.is_line is t status out)));
        on_part = λ part t status out.
            let cut : whole_lines (fed ++ part) ≡ first.line ∷ whole_lines part = ap whole_lines (fed_then part)
            ∙ whole_feed first.line part first.is_line.no_feed in
            subst (λ l. IsOutput M true [] 1 (whole_lines l) ((s.done ++ text) ++ t) status) (sym (append_assoc s.consumed fed part))
            (subst (λ l. IsOutput M true [] 1 (whole_lines (s.consumed ++ (fed ++ part))) l status) (sym (append_assoc s.done text t))
            (s.on_part (fed ++ part) (text ++ t) status
            (subst (λ lines. IsOutput M true s.history k lines (text ++ t) status) (sym cut)
            (line_output true s.history k first.line (whole_lines part) v (Joins new newer waiting after) first.is_line is t status out))));
      }

  pub goes_on : (o left now old new newer : Option (List ℕ)) (waiting after : List ℕ) (w v : WorldValue Kind) (k : ℕ)
      → IfSome o (λ script. SoFar script left old new waiting w k)
      → (r : LineTurn) → r ≡ Answered → Gives left now w v (Joins new newer waiting after) r
      → IfSome o (λ script. SoFar script now old newer after v (k + 1))
  goes_on o left now old new newer waiting after w v k so r given next =
      on_script o (λ script. SoFar script left old new waiting w k) (λ script. SoFar script now old newer after v (k + 1)) so
      (λ script s. one_more s now newer after v r given next)

  -- the last line was answered
  last_line : {script : List ℕ} {left old new : Option (List ℕ)} {waiting : List ℕ} {w : WorldValue Kind} {k : ℕ}
      (s : SoFar script left old new waiting w k)
      (unread : Option (List ℕ)) (v : WorldValue Kind) (P : List ℕ → Type 0) (failed : Bool) → failed ≡ false
      → (last : AnsweredRest M s.history v P s.rest)
      → Completes failed script unread s.done ((answer_text last.answered.a ++ codes "\n") ++ []) 0
  last_line {k = k} s unread v P failed fine last =
      let is = last.answered in
      let text : List ℕ = (answer_text is.a ++ codes "\n") ++ [] in
      let cut : lines_of s.rest ≡ s.rest ∷ [] = lines_last s.rest last.some last.is_line.no_feed in
      all_lines s failed unread text 0 fine
      (subst (λ lines. IsOutput M false s.history k lines text 0) (sym cut)
      (line_output false s.history k s.rest [] v P last.is_line is [] 0 (ends ((is.st, is.a) ∷ s.history) (k + 1) refl)))

  pub ends_with_line : (o left now unread old new mid newer : Option (List ℕ)) (waiting after : List ℕ) (w v : WorldValue Kind) (k : ℕ)
      (failed : Bool)
      → IfSome o (λ script. SoFar script left old new waiting w k)
      → (r : LineTurn) → r ≡ LastAnswered → Gives left now w v (Joins new mid waiting after) r
      → failed ≡ false → Appends mid newer (after ++ []) → IfSome o (λ script. Wrote M failed script unread old newer 0)
  ends_with_line o left now unread old new mid newer waiting after w v k failed so r given next fine put =
      on_script o (λ script. SoFar script left old new waiting w k) (λ script. Wrote M failed script unread old newer 0) so
      (λ script s.
      let last = (taken s now v (Joins new mid waiting after) r LastAnswered given next).2 in
      wrote s failed unread mid newer after (answer_text last.answered.a ++ codes "\n") [] 0 last.answered.printed
      put (last_line s unread v (Joins new mid waiting after) failed fine last))

  pub stops_in_last : (o left now unread old new mid newer : Option (List ℕ)) (waiting after : List ℕ) (w v : WorldValue Kind) (k : ℕ)
      (failed : Bool)
      → IfSome o (λ script. SoFar script left old new waiting w k)
      → (r : LineTurn) → r ≡ LastAnswered → Gives left now w v (Joins new mid waiting after) r
      → failed ≡ false → AppendsFront mid newer (after ++ []) → IfSome o (λ script. WroteFront M failed script unread old newer)
  stops_in_last o left now unread old new mid newer waiting after w v k failed so r given next fine put =
      on_script o (λ script. SoFar script left old new waiting w k) (λ script. WroteFront M failed script unread old newer) so
      (λ script s.
      let last = (taken s now v (Joins new mid waiting after) r LastAnswered given next).2 in
      wrote_front s failed unread mid newer after (answer_text last.answered.a ++ codes "\n") [] 0 last.answered.printed
      put (last_line s unread v (Joins new mid waiting after) failed fine last))

  -- at the end of the stream
  over : {script : List ℕ} {left old new : Option (List ℕ)} {waiting : List ℕ} {w : WorldValue Kind} {k : ℕ}
      (s : SoFar script left old new waiting w k)
      (unread : Option (List ℕ)) (failed : Bool) → failed ≡ false → s.rest ≡ [] → Completes failed script unread s.done ([] ++ []) 0
  over {k = k} s unread failed fine is =
      all_lines s failed unread [] 0 fine
      (subst (λ l. IsOutput M false s.history k (lines_of l) [] 0) (sym is) (ends s.history k refl))

  pub is_over : (o left now unread old new mid newer : Option (List ℕ)) (waiting after : List ℕ) (w v : WorldValue Kind) (k : ℕ)
      (failed : Bool)
      → IfSome o (λ script. SoFar script left old new waiting w k)
      → (r : LineTurn) → r ≡ Ended → Gives left now w v (Joins new mid waiting after) r
      → failed ≡ false → Appends mid newer (after ++ []) → IfSome o (λ script. Wrote M failed script unread old newer 0)
  is_over o left now unread old new mid newer waiting after w v k failed so r given next fine put =
      on_script o (λ script. SoFar script left old new waiting w k) (λ script. Wrote M failed script unread old newer 0) so
      (λ script s.
      let n = taken s now v (Joins new mid waiting after) r Ended given next in
      wrote s failed unread mid newer after [] [] 0 n.2.1 put
      (over s unread failed fine n.2.0))

  pub stops_at_end : (o left now unread old new mid newer : Option (List ℕ)) (waiting after : List ℕ) (w v : WorldValue Kind) (k : ℕ)
      (failed : Bool)
      → IfSome o (λ script. SoFar script left old new waiting w k)
      → (r : LineTurn) → r ≡ Ended → Gives left now w v (Joins new mid waiting after) r
      → failed ≡ false → AppendsFront mid newer (after ++ []) → IfSome o (λ script. WroteFront M failed script unread old newer)
  stops_at_end o left now unread old new mid newer waiting after w v k failed so r given next fine put =
      on_script o (λ script. SoFar script left old new waiting w k) (λ script. WroteFront M failed script unread old newer) so
      (λ script s.
      let n = taken s now v (Joins new mid waiting after) r Ended given next in
      wrote_front s failed unread mid newer after [] [] 0 n.2.1 put
      (over s unread failed fine n.2.0))

  -- the writer failed with a front of what waited
  pub stops_waiting : (o left unread old new newer : Option (List ℕ)) (waiting : List ℕ) (w : WorldValue Kind) (k : ℕ) (failed : Bool)
      → IfSome o (λ script. SoFar script left old new waiting w k)
      → failed ≡ false → AppendsFront new newer waiting → IfSome o (λ script. WroteFront M failed script unread old newer)
  stops_waiting o left unread old new newer waiting w k failed so fine put =
      on_script o (λ script. SoFar script left old new waiting w k) (λ script. WroteFront M failed script unread old newer) so
      (λ script s.
      let more = some_output s.history k (lines_of s.rest) in
      wrote_front s failed unread new newer waiting [] more.0 more.1 ([], Appends-nil new, append-nil waiting)
      (front_more new newer waiting more.0 put) (all_lines s failed unread more.0 more.1 fine more.2))

  -- the last line, by its error
  error_output : {script : List ℕ} {left old new : Option (List ℕ)} {waiting : List ℕ} {w : WorldValue Kind} {k : ℕ}
      (s : SoFar script left old new waiting w k)
      (failed : Bool) (more : List ℕ) (unread : Option (List ℕ)) (e : ScriptError)
      → FailsFor e s.rest more → (e ≡ Read → failed ≡ true) → (e ≢ Read → failed ≡ false)
      → (e ≡ Read → unread ≡ Some more)
      → Completes failed script unread s.done (error_text k e ++ codes "\n") 1
  error_output {k = k} s failed more unread BadLine is read fine left =
      let cut = lines_first s.rest is.0 in
      all_lines s failed unread (error_text k BadLine ++ codes "\n") 1 (fine (λ e. cc))
      (subst (λ lines. IsOutput M false s.history k lines (error_text k BadLine ++ codes "\n") 1) (sym cut.1)
      (bad_line s.history k (first_line s.rest) cut.0 refl is.1 is.2))
  error_output {k = k} s failed more unread LineTooLong is read fine left =
      let cut = lines_first s.rest (λ none. first_of_none s.rest none is) in
      all_lines s failed unread (error_text k LineTooLong ++ codes "\n") 1 (fine (λ e. cc))
      (subst (λ lines. IsOutput M false s.history k lines (error_text k LineTooLong ++ codes "\n") 1) (sym cut.1)
      (too_long s.history k (first_line s.rest) cut.0 refl is))
  error_output {script = script} {k = k} s failed more unread Read is read fine left =
      let out : IsOutput M true [] 1 (whole_lines (s.consumed ++ is.0)) (s.done ++ (error_text k Read ++ codes "\n")) 1 =
      s.on_part is.0 (error_text k Read ++ codes "\n") 1
      (subst (λ lines. IsOutput M true s.history k lines (error_text k Read ++ codes "\n") 1) (sym (whole_none is.0 is.1))
      (read_fails s.history k refl)) in
      let cut : script ≡ (s.consumed ++ is.0) ++ more = s.split ∙ ap (λ l. s.consumed ++ l) is.2
      ∙ sym (append_assoc s.consumed is.0 more) in
      subst (λ f. Completes f script unread s.done (error_text k Read ++ codes "\n") 1) (sym (read refl))
      (subst (λ u. Completes true script u s.done (error_text k Read ++ codes "\n") 1) (sym (left refl))
      (record { lines = whole_lines (s.consumed ++ is.0); to_answer = (s.consumed ++ is.0, cut, refl); output = out }))
  error_output {k = k} s failed more unread OutOfMemory is read fine left =
      all_lines s failed unread (error_text k OutOfMemory ++ codes "\n") 1 (fine (λ e. cc))
      (no_memory s.history k (lines_of s.rest) refl
      (inl (λ none. let cut = lines_first s.rest is in cc (cut.1, none))))

  -- a turn that ended the script
  record EndsFor (failed : Bool) (script : List ℕ) (unread : Option (List ℕ)) (done : List ℕ) (P : List ℕ → Type 0) (k : ℕ)
      (e : ScriptError) : Type 0 where
    joins : P []
    completes : Completes failed script unread done (error_text k e ++ codes "\n") 1

  failed_turn : {script : List ℕ} {left old new : Option (List ℕ)} {waiting : List ℕ} {w : WorldValue Kind} {k : ℕ}
      (s : SoFar script left old new waiting w k)
      (ahead : List ℕ) (unread : Option (List ℕ)) (v : WorldValue Kind) (P : List ℕ → Type 0) (e : ScriptError) (failed : Bool)
      (r : LineTurn) → r ≡ Failed e
      → Gives left (prepend_known ahead unread) w v P r
      → (e ≡ Read → failed ≡ true) → (e ≢ Read → failed ≡ false) → (e ≡ Read → ahead ≡ [])
      → EndsFor failed script unread s.done P k e
  failed_turn s ahead unread v P e failed r given next read fine none =
      let n = taken s (prepend_known ahead unread) v P r (Failed e) given next in
      record {
        joins = n.2.1;
        completes = error_output s failed n.0 unread e n.2.0 read fine
            (λ is. none_ahead unread n.0 (subst (λ a. prepend_known a unread ≡ Some n.0) (none is) n.1));
      }

  -- after a line that ended the script, with all that waited and the error written
  pub ends_early : (o left unread old new mid newer : Option (List ℕ)) (ahead waiting after : List ℕ) (w v : WorldValue Kind) (k : ℕ)
      (e : ScriptError) (failed : Bool)
      → IfSome o (λ script. SoFar script left old new waiting w k)
      → (r : LineTurn) → r ≡ Failed e → Gives left (prepend_known ahead unread) w v (Joins new mid waiting after) r
      → (e ≡ Read → failed ≡ true) → (e ≢ Read → failed ≡ false) → (e ≡ Read → ahead ≡ [])
      → Appends mid newer (after ++ (error_text k e ++ codes "\n")) → IfSome o (λ script. Wrote M failed script unread old newer 1)
  ends_early o left unread old new mid newer ahead waiting after w v k e failed so r given next read fine none put =
      on_script o (λ script. SoFar script left old new waiting w k) (λ script. Wrote M failed script unread old newer 1) so
      (λ script s.
      let t = failed_turn s ahead unread v (Joins new mid waiting after) e failed r given next read fine none in
      wrote s failed unread mid newer after [] (error_text k e ++ codes "\n") 1 t.joins put t.completes)

  -- the same where a front of that was written
  pub ends_in_part : (o left unread old new mid newer : Option (List ℕ)) (ahead waiting after : List ℕ) (w v : WorldValue Kind) (k : ℕ)
      (e : ScriptError) (failed : Bool)
      → IfSome o (λ script. SoFar script left old new waiting w k)
      → (r : LineTurn) → r ≡ Failed e → Gives left (prepend_known ahead unread) w v (Joins new mid waiting after) r
      → (e ≡ Read → failed ≡ true) → (e ≢ Read → failed ≡ false) → (e ≡ Read → ahead ≡ [])
      → AppendsFront mid newer (after ++ (error_text k e ++ codes "\n")) → IfSome o (λ script. WroteFront M failed script unread old newer)
  ends_in_part o left unread old new mid newer ahead waiting after w v k e failed so r given next read fine none put =
      on_script o (λ script. SoFar script left old new waiting w k) (λ script. WroteFront M failed script unread old newer) so
      (λ script s.
      let t = failed_turn s ahead unread v (Joins new mid waiting after) e failed r given next read fine none in
      wrote_front s failed unread mid newer after [] (error_text k e ++ codes "\n") 1 t.joins put t.completes)

  -- a script with more lines than there are numbers
  past_numbers : {script : List ℕ} {left old new : Option (List ℕ)} {waiting : List ℕ} {w : WorldValue Kind} {k : ℕ}
      (s : SoFar script left old new waiting w k)
      (unread : Option (List ℕ)) (failed : Bool) → k ≡ 18446744073709551615 → failed ≡ false
      → Completes failed script unread s.done (error_text 18446744073709551615 OutOfMemory ++ codes "\n") 1
  past_numbers {k = k} s unread failed last fine =
      all_lines s failed unread (error_text 18446744073709551615 OutOfMemory ++ codes "\n") 1 fine
      (subst (λ n. IsOutput M false s.history k (lines_of s.rest) (error_text n OutOfMemory ++ codes "\n") 1) last
      (no_memory s.history k (lines_of s.rest) refl (inr (omega arith))))

  pub runs_out : (o left unread old new newer : Option (List ℕ)) (waiting : List ℕ) (w : WorldValue Kind) (k : ℕ) (failed : Bool)
      → IfSome o (λ script. SoFar script left old new waiting w k) → k ≡ 18446744073709551615 → failed ≡ false
      → Appends new newer (waiting ++ (error_text 18446744073709551615 OutOfMemory ++ codes "\n"))
      → IfSome o (λ script. Wrote M failed script unread old newer 1)
  runs_out o left unread old new newer waiting w k failed so last fine put =
      on_script o (λ script. SoFar script left old new waiting w k) (λ script. Wrote M failed script unread old newer 1) so
      (λ script s. wrote s failed unread new newer waiting [] (error_text 18446744073709551615 OutOfMemory ++ codes "\n") 1
      ([], Appends-nil new, append-nil waiting) put (past_numbers s unread failed last fine))

  pub runs_out_in_part : (o left unread old new newer : Option (List ℕ)) (waiting : List ℕ) (w : WorldValue Kind) (k : ℕ) (failed : Bool)
      → IfSome o (λ script. SoFar script left old new waiting w k) → k ≡ 18446744073709551615 → failed ≡ false
      → AppendsFront new newer (waiting ++ (error_text 18446744073709551615 OutOfMemory ++ codes "\n"))
      → IfSome o (λ script. WroteFront M failed script unread old newer)
  runs_out_in_part o left unread old new newer waiting w k failed so last fine put =
      on_script o (λ script. SoFar script left old new waiting w k) (λ script. WroteFront M failed script unread old newer) so
      (λ script s. wrote_front s failed unread new newer waiting [] (error_text 18446744073709551615 OutOfMemory ++ codes "\n") 1
      ([], Appends-nil new, append-nil waiting) put (past_numbers s unread failed last fine))
