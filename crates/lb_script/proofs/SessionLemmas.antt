-- Lemmas on what a script's run does for one line.
use Rattle.std.proofs.Common.{◌≡◌, ℕ, ◌+◌, List, [], ◌∷◌, ◌++◌, drop, length, ◌≤◌, Option, Some, None, Result, Ok, Err, refl, ap, ◌∙◌, sym}
use Rattle.std.proofs.Common.{subst, append_assoc}
use Rattle.std.specs.Io.KnownBytes.{Appends, Keeps, prepend_known}
use Rattle.std.proofs.KnownBytes.{Appends-nil, Appends-kept}
use Rattle.lb_world.specs.History.{History}
use Rattle.lb_world.specs.Meanings.{Meaning}
use Rattle.lb_world.specs.Views.{WorldValue}
use Rattle.lb_script.specs.declared.error.ScriptError.{ScriptError}
use Rattle.lb_script.specs.declared.error.ScriptError.TheVariants.{BadLine, LineTooLong, Read, OutOfMemory}
use Rattle.lb_stream.specs.declared.lines.LineRead.TheVariants.{Line, LastLine}
use Rattle.lb_script.specs.declared.session.LineTurn.{LineTurn}
use Rattle.lb_script.specs.declared.session.LineTurn.TheVariants.{Answered, LastAnswered, Ended, Failed, WriteFailed}
use Rattle.lb_script.specs.declared.kinds.Kind.{Kind}
use Rattle.lb_stream.specs.Stream.{OnBytes}
use Rattle.lb_stream.specs.Lines.{Finds, IsLine}
use Rattle.lb_script.specs.StepLines.{step_of}
use Rattle.lb_script.specs.Internal.Session.{AnsweredLine, AnsweredRest, AnswersLine, TakesTurn, Joins}
use Rattle.lb_stream.proofs.LinesLemmas.{first_of_stream}

-- a line that was read, and that has no answer
pub failed_line : (M : Meaning Kind) (h : History Kind) (old new : Option (List ℕ)) (line : List ℕ) (w : WorldValue Kind) (P : List ℕ
    → Type 0) (e : ScriptError)
    → OnBytes old new (Finds Line line) → AnswersLine M h line w P (Err e) → OnBytes old new (TakesTurn M h w P (Failed e))
failed_line M h None new line w P e found is = tt
failed_line M h (Some s) None line w P e found is = absurd found
failed_line M h (Some s) (Some rest) line w P BadLine found is =
    let at = first_of_stream s line rest found.0.no_feed found.1 in
    ((at.0, subst (λ l. length l ≤ 16777216) (sym at.1) found.0.short, ap step_of at.1 ∙ is.0), is.1)
failed_line M h (Some s) (Some rest) line w P LineTooLong found is = absurd is
failed_line M h (Some s) (Some rest) line w P Read found is = absurd is
failed_line M h (Some s) (Some rest) line w P OutOfMemory found is = ((first_of_stream s line rest found.0.no_feed found.1).0, is)

-- a line that was read ahead is the first of the stream
pub held_found : (ahead now line : List ℕ) (o : Option (List ℕ)) → IsLine line
    → ahead ≡ line ++ 10 ∷ drop (length line + 1) ahead → now ≡ drop (length line + 1) ahead
    → OnBytes (prepend_known ahead o) (prepend_known now o) (Finds Line line)
held_found ahead now line None is held left = tt
held_found ahead now line (Some more) is held left = (
  is,
  ap (λ l. l ++ more) held ∙ append_assoc line (10 ∷ drop (length line + 1) ahead) more
      ∙ ap (λ l. line ++ 10 ∷ (l ++ more)) (sym left),
)

-- a line that was found, and that was answered
pub answered_line : (M : Meaning Kind) (h : History Kind) (old new : Option (List ℕ)) (line : List ℕ) (w : WorldValue Kind) (P : List ℕ
    → Type 0)
    → OnBytes old new (Finds Line line) → AnsweredLine M h line w P → OnBytes old new (TakesTurn M h w P Answered)
answered_line M h None new line w P found is = tt
answered_line M h (Some s) None line w P found is = absurd found
answered_line M h (Some s) (Some rest) line w P found is = record { line = line; is_line = found.0; is = found.1; answered = is }

-- a line that the stream's end ended, and that was answered
pub answered_rest : (M : Meaning Kind) (h : History Kind) (old new : Option (List ℕ)) (line : List ℕ) (w : WorldValue Kind) (P : List ℕ
    → Type 0)
    → OnBytes old new (Finds LastLine line) → AnsweredLine M h line w P → OnBytes old new (TakesTurn M h w P LastAnswered)
answered_rest M h None new line w P found is = tt
answered_rest M h (Some s) None line w P found is = absurd found
answered_rest M h (Some s) (Some rest) line w P found is =
    subst (AnsweredRest M h w P) (sym found.2) (record { is_line = found.0; some = found.1; answered = is })

-- what holds of the text of an answer, in other words
pub line_told : (M : Meaning Kind) (h : History Kind) (line : List ℕ) (w : WorldValue Kind) (P Q : List ℕ → Type 0)
    → ((text : List ℕ) → P text → Q text)
    → AnsweredLine M h line w P → AnsweredLine M h line w Q
line_told M h line w P Q f is = record { st = is.st; a = is.a; is = is.is; right = is.right; stands = is.stands; printed = f _ is.printed }

pub answers_told : (M : Meaning Kind) (h : History Kind) (line : List ℕ) (w : WorldValue Kind) (P Q : List ℕ → Type 0)
    → ((text : List ℕ) → P text → Q text)
    → (r : Result (Unit {0}) ScriptError) → AnswersLine M h line w P r → AnswersLine M h line w Q r
answers_told M h line w P Q f (Ok u) is = line_told M h line w P Q f is
answers_told M h line w P Q f (Err BadLine) is = (is.0, f [] is.1)
answers_told M h line w P Q f (Err LineTooLong) is = is
answers_told M h line w P Q f (Err Read) is = is
answers_told M h line w P Q f (Err OutOfMemory) is = f [] is

turn_on : (M : Meaning Kind) (h : History Kind) (w : WorldValue Kind) (P Q : List ℕ → Type 0) → ((text : List ℕ) → P text → Q text)
    → (t : LineTurn) (stream rest : List ℕ) → TakesTurn M h w P t stream rest → TakesTurn M h w Q t stream rest
turn_on M h w P Q f Answered stream rest is =
    record { line = is.line; is_line = is.is_line; is = is.is; answered = line_told M h is.line w P Q f is.answered }
turn_on M h w P Q f LastAnswered stream rest is =
    record { is_line = is.is_line; some = is.some; answered = line_told M h stream w P Q f is.answered }
turn_on M h w P Q f Ended stream rest is = (is.0, f [] is.1)
turn_on M h w P Q f (Failed e) stream rest is = (is.0, f [] is.1)
turn_on M h w P Q f WriteFailed stream rest is = tt

pub turn_told : (M : Meaning Kind) (h : History Kind) (w : WorldValue Kind) (P Q : List ℕ → Type 0) → ((text : List ℕ) → P text → Q text)
    → (t : LineTurn) (old new : Option (List ℕ)) → OnBytes old new (TakesTurn M h w P t) → OnBytes old new (TakesTurn M h w Q t)
turn_told M h w P Q f t None new is = tt
turn_told M h w P Q f t (Some s) None is = absurd is
turn_told M h w P Q f t (Some s) (Some rest) is = turn_on M h w P Q f t s rest is

-- a text that was appended to what waits, with nothing written
pub joins_unwritten : (o : Option (List ℕ)) (before after text : List ℕ) → after ≡ before ++ text → Joins o o before after text
joins_unwritten o before after text is = ([], Appends-nil o, sym is)

-- a text that waits, after all before it was written
pub joins_written : (a b c : Option (List ℕ)) (before after text : List ℕ) → Appends a b before → Keeps b c → after ≡ text
    → Joins a c before after text
joins_written a b c before after text put kept is = (before, Appends-kept a b c before put kept, ap (λ l. before ++ l) (sym is))
