-- How far a body has come: what is left of it.
use Rattle.std.specs.Prelude.{◌≡◌, ◌↔◌, ℕ, ◌<◌, ◌≤◌, List, [], ◌∷◌, ◌++◌, length, take, ⊤}
use Rattle.lb_proxy.specs.declared.http.body.Frame.{Frame}
use Rattle.lb_proxy.specs.declared.http.body.Frame.TheVariants as F
use Rattle.lb_proxy.specs.declared.http.body.Place.{Place}
use Rattle.lb_proxy.specs.declared.http.body.Place.TheVariants as P
use Rattle.lb_proxy.specs.declared.http.body.Body.{Body}
use Rattle.lb_proxy.specs.Http.Chunked.{Trailers, AfterLine, Chunks, Feed, InName, InValue, AfterValue, InExtension, Size, Content}

-- the text is what is left of a body in chunks, at that place in the frame
abbrev pub FrameRemains : Frame → List ℕ → Type 0
FrameRemains (F.Size count value) text = (n : ℕ) × Size (λ size after. AfterLine n size after) count value text
FrameRemains (F.Extension size room) text = (n : ℕ) × InExtension (λ after. AfterLine n size after) room text
FrameRemains (F.SizeFeed size) text = (n : ℕ) × Feed (λ after. AfterLine n size after) text
FrameRemains F.ContentReturn text = (n : ℕ) × ((after : List ℕ) × (text ≡ 13 ∷ after) × Feed (λ t. Chunks n t) after)
FrameRemains F.ContentFeed text = (n : ℕ) × Feed (λ t. Chunks n t) text
FrameRemains (F.Trailer room) text = (n : ℕ) × Trailers n room text
FrameRemains (F.Name room) text = (n : ℕ) × InName (λ left after. Trailers n left after) room text
FrameRemains (F.Value room) text = (n : ℕ) × InValue (λ left after. Trailers n left after) room text
FrameRemains (F.ValueFeed room) text = (n : ℕ) × AfterValue (λ left after. Trailers n left after) room text
FrameRemains F.LastFeed text = text ≡ 10 ∷ []

-- the text is what is left of a body, at that place in it
abbrev pub Remains : Place → List ℕ → Type 0
Remains P.Done text = text ≡ []
Remains (P.Sized left) text = (0 < left) × (length text ≡ left)
Remains P.UntilClose text = ⊤
Remains (P.Content left) text = (0 < left) × ((n : ℕ) × Content (λ t. Chunks n t) left text)
Remains (P.Framed frame) text = FrameRemains frame text

-- the byte brings what is left from the frame's place to the next one
abbrev pub Follows : Frame → ℕ → Place → Type 0
Follows frame byte next = (text : List ℕ) → Remains next text ↔ FrameRemains frame (byte ∷ text)

-- nothing that begins with the byte is left there
abbrev pub Blocks : Frame → ℕ → Type 0
Blocks frame byte = (text : List ℕ) → ¬ (FrameRemains frame (byte ∷ text))

-- so many of the bytes, at least one, bring what is left from a place to the next one
pub record Passes (place : Place) (bytes : List ℕ) (count : ℕ) (next : Place) : Type 0 where
  pub some : 0 < count
  pub within : count ≤ length bytes
  pub follows : (text : List ℕ) → Remains next text ↔ Remains place (take count bytes ++ text)

-- nothing that begins with the bytes is left there
abbrev pub BlocksAll : Place → List ℕ → Type 0
BlocksAll place bytes = (text : List ℕ) → ¬ (Remains place (bytes ++ text))

-- the text, and no more, would complete the body
abbrev pub Completes : Body → List ℕ → Type 0
Completes body text = Remains body.place text

-- nothing is left of the body
pub record IsEnded (body : Body) : Type 0 where
  pub whole : Completes body []
  pub none : (text : List ℕ) → Completes body text → text ≡ []
