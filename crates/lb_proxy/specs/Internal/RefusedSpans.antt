-- Why a head is refused that the parser found at these spans: what `Refuses` and `RefusesAnswer` say of it, for the private functions that
-- look at it after the parser.
use Rattle.std.specs.Prelude.{◌≡◌, ℕ, ◌<◌, ◌≤◌, Bool, true, false, List, map, take, ⊤}
use Rattle.httparse.specs.Spans.{header_bytes, span_bytes}
use Rattle.httparse.specs.declared.spans.HeaderSpan.{HeaderSpan}
use Rattle.httparse.specs.declared.spans.RequestSpans.{RequestSpans}
use Rattle.httparse.specs.declared.spans.ResponseSpans.{ResponseSpans}
use Rattle.lb_proxy.specs.declared.http.fault.Fault.{Fault}
use Rattle.lb_proxy.specs.Http.Heads.{HasStrictFeeds, version_of}
use Rattle.lb_proxy.specs.Http.Refusals.{asks_more, stated_in}

-- the spans are those of a head that is no longer than the limit, with strict line ends
abbrev pub AreStrict : List ℕ → ℕ → Type 0
AreStrict bytes len = (len ≤ 65536) × HasStrictFeeds (take len bytes)

abbrev pub spans_ask_more : List ℕ → List HeaderSpan → RequestSpans → Bool
spans_ask_more bytes spans found =
    asks_more (stated_in (version_of found.version) (map (header_bytes bytes) (take found.headers spans))) (span_bytes bytes found.method)

-- the head at those spans gives that fault
abbrev pub RefusesAt : List ℕ → List HeaderSpan → RequestSpans → Fault → Type 0
RefusesAt bytes spans found Fault.VersionNotSupported = ⊥
RefusesAt bytes spans found Fault.HeadTooLarge = 65536 < found.len
RefusesAt bytes spans found Fault.NotImplemented = AreStrict bytes found.len × (spans_ask_more bytes spans found ≡ true)
RefusesAt bytes spans found Fault.Unavailable = AreStrict bytes found.len × (0 < found.headers)
RefusesAt bytes spans found Fault.BadRequest = (found.len ≤ 65536) × (AreStrict bytes found.len → spans_ask_more bytes spans found ≡ false)
RefusesAt bytes spans found Fault.RequestTimeout = ⊥
RefusesAt bytes spans found Fault.BadGateway = ⊥
RefusesAt bytes spans found Fault.GatewayTimeout = ⊥

-- the answer at those spans gives that fault
abbrev pub RefusesAnswerAt : List ℕ → ResponseSpans → Fault → Type 0
RefusesAnswerAt bytes found Fault.VersionNotSupported = ⊥
RefusesAnswerAt bytes found Fault.HeadTooLarge = ⊥
RefusesAnswerAt bytes found Fault.NotImplemented = ⊥
RefusesAnswerAt bytes found Fault.Unavailable =
    AreStrict bytes found.len × (0 < found.headers) × (100 ≤ found.code) × ¬ (found.code ≡ 101)
RefusesAnswerAt bytes found Fault.BadRequest = ⊥
RefusesAnswerAt bytes found Fault.RequestTimeout = ⊥
RefusesAnswerAt bytes found Fault.BadGateway = ⊤
RefusesAnswerAt bytes found Fault.GatewayTimeout = ⊥
