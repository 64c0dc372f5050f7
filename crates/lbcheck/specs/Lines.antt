-- The lines that say what a check came to.
use Rattle.std.specs.Prelude.{ℕ, List, ◌++◌, Result, Ok, Err, codes, decimal}
use Rattle.lb_health_core.specs.Faults.{fault_name}
use Rattle.lb_health_core.specs.declared.error.CheckError.{CheckError}
use Rattle.lb_health_core.specs.declared.error.CheckError.TheVariants.{Connect, Write, Read, BadHead, HeadTooLarge, Interim, Status}
use Rattle.lb_health_core.specs.declared.error.CheckError.TheVariants.{Rejected, BadFraming, EndInMessage, BodyTooLarge, OutOfMemory}

-- the name of a fault, with the status that it carries
abbrev pub fault_text : CheckError → List ℕ
fault_text (Status code) = codes "Status " ++ decimal code
fault_text e = fault_name e

-- what a fault means
abbrev pub meaning_text : CheckError → List ℕ
meaning_text Connect = codes "no connection could be made within the limit"
meaning_text Write = codes "the request could not be sent within the limit"
meaning_text Read = codes "nothing more could be read within the limit"
meaning_text BadHead = codes "what came is no head of an answer, or has more than 64 fields"
meaning_text HeadTooLarge = codes "65536 bytes came and the head of the answer was not whole"
meaning_text Interim = codes "the status is below 200, so another answer is to follow"
meaning_text (Status code) = codes "the status is not 200"
meaning_text Rejected = codes "the status is not the one that is accepted"
meaning_text BadFraming = codes "where the body ends is told wrongly, or two ways"
meaning_text EndInMessage = codes "the stream ended before the answer did"
meaning_text BodyTooLarge = codes "the body is larger than the limit"
meaning_text OutOfMemory = codes "there was no memory for the check"

-- the line of a check
abbrev pub check_text : Result Unit CheckError → List ℕ
check_text (Ok _) = codes "ok"
check_text (Err e) = fault_text e ++ codes ": " ++ meaning_text e

-- the line of a check of bytes that lie somewhere, so many of them not read
abbrev pub replay_text : Result Unit CheckError → ℕ → List ℕ
replay_text (Ok _) unread = codes "ok unread " ++ decimal unread
replay_text (Err e) unread = fault_text e ++ codes " unread " ++ decimal unread

-- the exit status
abbrev pub outcome_status : Result Unit CheckError → ℕ
outcome_status (Ok _) = 0
outcome_status (Err e) = 1
