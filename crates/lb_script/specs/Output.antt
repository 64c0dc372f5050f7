-- What a script's run writes: an answer for each line, each right after what came before it, and at an early end one more line
-- that names the error. There may be several such texts, since memory may be refused at any line.
use Rattle.std.specs.Prelude.{◌≡◌, ◌≢◌, ◌⊎◌, ℕ, ◌+◌, ◌<◌, ◌≤◌, Bool, true, false, List}
use Rattle.std.specs.Prelude.{[], ◌∷◌, ◌++◌, codes, length, Option, Some, None}
use Rattle.std.specs.Io.KnownBytes.{Appends}
use Rattle.lb_world.specs.Answers.{Answers}
use Rattle.lb_world.specs.History.{History}
use Rattle.lb_world.specs.Meanings.{Meaning}
use Rattle.lb_world.specs.Steps.{Step}
use Rattle.lb_world.specs.declared.answer.Answer.{Answer}
use Rattle.lb_script.specs.declared.error.ScriptError.TheVariants as error
use Rattle.lb_script.specs.declared.kinds.Kind.{Kind}
use Rattle.lb_stream.specs.Lines.{lines_of, whole_lines}
use Rattle.lb_script.specs.StepLines.{step_of}
use Rattle.lb_stream.specs.Stream.{AppendsFront}
use Rattle.lb_script.specs.Texts.{answer_text, error_text}

-- a line is there, or its number is past the largest
abbrev pub HasLine : ℕ → List (List ℕ) → Type 0
HasLine k lines = (lines ≢ []) ⊎ (18446744073709551615 ≤ k)

-- the text for these lines, of which the first has number k, after a history, and the status at the end: 0, or 1 after an
-- error. `failed` says whether a read failed: then each of the lines is answered, and the text ends with that error.
pub data IsOutput (M : Meaning Kind) (failed : Bool) : History Kind → ℕ → List (List ℕ) → List ℕ → ℕ → Type 0 where
  ends : (h : History Kind) (k : ℕ) → failed ≡ false → IsOutput M failed h k [] [] 0
  read_fails : (h : History Kind) (k : ℕ) → failed ≡ true → IsOutput M failed h k [] (error_text k error.Read ++ codes "\n") 1
  answered : (h : History Kind) (k : ℕ) (line : List ℕ) (lines : List (List ℕ)) (st : Step Kind) (a : Answer)
      (text : List ℕ) (status : ℕ) → length line ≤ 16777216 → step_of line ≡ Some st → Answers M h st a
      → IsOutput M failed ((st, a) ∷ h) (k + 1) lines text status
      → IsOutput M failed h k (line ∷ lines) ((answer_text a ++ codes "\n") ++ text) status
  bad_line : (h : History Kind) (k : ℕ) (line : List ℕ) (lines : List (List ℕ)) → failed ≡ false
      → length line ≤ 16777216 → step_of line ≡ None
      → IsOutput M failed h k (line ∷ lines) (error_text k error.BadLine ++ codes "\n") 1
  too_long : (h : History Kind) (k : ℕ) (line : List ℕ) (lines : List (List ℕ)) → failed ≡ false
      → 16777216 < length line
      → IsOutput M failed h k (line ∷ lines) (error_text k error.LineTooLong ++ codes "\n") 1
  no_memory : (h : History Kind) (k : ℕ) (lines : List (List ℕ)) → failed ≡ false → HasLine k lines
      → IsOutput M failed h k lines (error_text k error.OutOfMemory ++ codes "\n") 1

-- the lines that a run has to answer: those of the whole script; where a read failed, just the whole lines of the bytes that the
-- reader gave before, which are the script without what the reader has left
abbrev pub IsToAnswer : Bool → List ℕ → Option (List ℕ) → List (List ℕ) → Type 0
IsToAnswer false script left lines = lines ≡ lines_of script
IsToAnswer true script None lines = ⊥
IsToAnswer true script (Some left) lines = (given : List ℕ) × (script ≡ given ++ left) × (lines ≡ whole_lines given)

-- the whole text for a script was written, and this is its status
pub record Wrote (M : Meaning Kind) (failed : Bool) (script : List ℕ) (left old new : Option (List ℕ)) (status : ℕ) : Type 0 where
  pub lines : List (List ℕ)
  pub to_answer : IsToAnswer failed script left lines
  pub text : List ℕ
  pub output : IsOutput M failed [] 1 lines text status
  pub written : Appends old new text

-- a beginning of such a text was written
pub record WroteFront (M : Meaning Kind) (failed : Bool) (script : List ℕ) (left old new : Option (List ℕ)) : Type 0 where
  pub lines : List (List ℕ)
  pub to_answer : IsToAnswer failed script left lines
  pub text : List ℕ
  pub status : ℕ
  pub output : IsOutput M failed [] 1 lines text status
  pub written : AppendsFront old new text
