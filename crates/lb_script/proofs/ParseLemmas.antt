-- Lemmas on what a line asks for.
use Rattle.std.proofs.Common.{◌≡◌, ◌∙◌, ◌++◌, List, ℕ, None, ap, codes, sym, subst, refl, false, bytes_eq}
use Rattle.std.proofs.lemmas.Slice.Eq.{bytes_eq-Decides}
use Rattle.std.specs.Str.{IsUtf8}
use Rattle.std.proofs.lemmas.Bool.{false_from_ne_true}
use Rattle.std.proofs.lemmas.Str.{is_utf8-from_IsUtf8, IsUtf8-from_is_utf8}
use Rattle.std.specs.Str.{is_utf8}
use Rattle.lb_world.specs.Steps.{Step, step_seen}
use Rattle.std.specs.Prelude.{Option, Result, Err}
use Rattle.lb_script.specs.declared.error.ScriptError.{ScriptError}
use Rattle.lb_script.specs.declared.error.ScriptError.TheVariants.{BadLine, LineTooLong, Read, OutOfMemory}
use Rattle.lb_script.specs.declared.parse.LineStep.{LineStep}
use Rattle.lb_script.specs.LineSteps.{line_step_seen}
use Rattle.lb_script.specs.declared.kinds.Kind.{Kind}
use Rattle.lb_script.specs.StepLines.{Reads, step_of, step_of_words}
use Rattle.lb_script.specs.Words.{words_of}

-- a text asks for what its words ask for
pub step_of-words : (line text : List ℕ) (words : List (List ℕ)) → IsUtf8 line → text ≡ line → words ≡ words_of text
    → step_of_words words ≡ step_of line
step_of-words line text words h same cut =
    rw (is_utf8-from_IsUtf8 line h) (ap step_of_words (cut ∙ ap words_of same))

pub step_of-read : (line text : List ℕ) (words : List (List ℕ)) (r : Result LineStep ScriptError) → IsUtf8 line → text ≡ line
    → words ≡ words_of text → Reads line_step_seen (step_of_words words) r → Reads line_step_seen (step_of line) r
step_of-read line text words r h same cut read =
    subst (λ meaning. Reads line_step_seen meaning r) (step_of-words line text words h same cut) read

-- an error tells the same of a line's step as of a step by itself
pub read_error : (meaning : Option (Step Kind)) (e : ScriptError) → Reads step_seen meaning (Err e) → Reads line_step_seen meaning (Err e)
read_error meaning BadLine h = h
read_error meaning LineTooLong h = h
read_error meaning Read h = h
read_error meaning OutOfMemory h = h

-- what is no text asks for nothing
pub step_of-no_text : (line : List ℕ) → ¬ (IsUtf8 line) → step_of line ≡ None
step_of-no_text line h = rw (false_from_ne_true (is_utf8 line) (λ is. h (IsUtf8-from_is_utf8 line is))) refl

-- a word that is not another one
pub other_word : (word other : List ℕ) → ¬ (word ≡ other) → bytes_eq word other ≡ false
other_word word other h = false_from_ne_true (bytes_eq word other) (λ is. h ((bytes_eq-Decides word other).0 is))
