-- What a script's run does for one line.
use Rattle.std.specs.Prelude.{◌≡◌, ◌≢◌, ℕ, ◌<◌, ◌≤◌, List, [], ◌∷◌, ◌++◌, codes, length, Option, Some, None, Result, Ok, Err, ⊤}
use Rattle.std.specs.Io.KnownBytes.{Appends}
use Rattle.lb_world.specs.Answers.{Answers}
use Rattle.lb_world.specs.History.{History}
use Rattle.lb_world.specs.Meanings.{Meaning}
use Rattle.lb_world.specs.Steps.{Step}
use Rattle.lb_world.specs.declared.answer.Answer.{Answer}
use Rattle.lb_world.specs.Stands.{Stands}
use Rattle.lb_world.specs.Views.{WorldValue}
use Rattle.lb_script.specs.declared.error.ScriptError.{ScriptError}
use Rattle.lb_script.specs.declared.error.ScriptError.TheVariants.{BadLine, LineTooLong, Read, OutOfMemory}
use Rattle.lb_script.specs.declared.session.LineTurn.{LineTurn}
use Rattle.lb_script.specs.declared.session.LineTurn.TheVariants.{Answered, LastAnswered, Ended, Failed, WriteFailed}
use Rattle.lb_script.specs.declared.kinds.Kind.{Kind}
use Rattle.lb_stream.specs.Lines.{first_line, HasNoFeed, IsLine}
use Rattle.lb_script.specs.StepLines.{step_of}
use Rattle.lb_script.specs.Texts.{answer_text, error_text}

-- a text joined what waited to be written: the front of both went to the writer, and the rest waits now
abbrev pub Joins : (old new : Option (List ℕ)) (before after text : List ℕ) → Type 0
Joins old new before after text = (front : List ℕ) × Appends old new front × (before ++ text ≡ front ++ after)

-- why a turn has no answer
abbrev pub FailsFor : ScriptError → List ℕ → List ℕ → Type 0
FailsFor BadLine stream rest = (stream ≢ []) × (length (first_line stream) ≤ 16777216) × (step_of (first_line stream) ≡ None)
FailsFor LineTooLong stream rest = 16777216 < length (first_line stream)
FailsFor Read stream rest = (part : List ℕ) × HasNoFeed part × (stream ≡ part ++ rest)
FailsFor OutOfMemory stream rest = stream ≢ []

-- what a run writes after the last answer, at that line, and its status: nothing and 0 where no error ended the script
abbrev pub end_text : ℕ → Option ScriptError → List ℕ
end_text line None = []
end_text line (Some e) = error_text line e ++ codes "\n"

abbrev pub end_status : Option ScriptError → ℕ
end_status None = 0
end_status (Some e) = 1

-- `P text` says what became of the text of an answer, and `P []` that there was none
module _ (M : Meaning Kind) where
  -- a line was answered: its step, the answer, and its text
  pub record AnsweredLine (h : History Kind) (line : List ℕ) (w : WorldValue Kind) (P : List ℕ → Type 0) : Type 0 where
    pub st : Step Kind
    pub a : Answer
    pub is : step_of line ≡ Some st
    pub right : Answers M h st a
    pub stands : Stands M w ((st, a) ∷ h)
    pub printed : P (answer_text a ++ codes "\n")

  -- what answering a line does
  abbrev pub AnswersLine : History Kind → List ℕ → WorldValue Kind → (List ℕ → Type 0) → Result (Unit {0}) ScriptError → Type 0
  AnswersLine h line w P (Ok u) = AnsweredLine h line w P
  AnswersLine h line w P (Err BadLine) = (step_of line ≡ None) × P []
  AnswersLine h line w P (Err LineTooLong) = ⊥
  AnswersLine h line w P (Err Read) = ⊥
  AnswersLine h line w P (Err OutOfMemory) = P []

  -- the first line of the stream was answered, and the rest of the stream is left
  pub record AnsweredFirst (h : History Kind) (w : WorldValue Kind) (P : List ℕ → Type 0) (stream rest : List ℕ) : Type 0 where
    pub line : List ℕ
    pub is_line : IsLine line
    pub is : stream ≡ line ++ 10 ∷ rest
    pub answered : AnsweredLine h line w P

  -- all that was left was answered as the last line
  pub record AnsweredRest (h : History Kind) (w : WorldValue Kind) (P : List ℕ → Type 0) (stream : List ℕ) : Type 0 where
    pub is_line : IsLine stream
    pub some : stream ≢ []
    pub answered : AnsweredLine h stream w P

  -- what a turn does, by what came of it
  abbrev pub TakesTurn : History Kind → WorldValue Kind → (List ℕ → Type 0) → LineTurn → List ℕ → List ℕ → Type 0
  TakesTurn h w P Answered stream rest = AnsweredFirst h w P stream rest
  TakesTurn h w P LastAnswered stream rest = AnsweredRest h w P stream
  TakesTurn h w P Ended stream rest = (stream ≡ []) × P []
  TakesTurn h w P (Failed e) stream rest = FailsFor e stream rest × P []
  TakesTurn h w P WriteFailed stream rest = ⊤
