-- What sinks accept and shelves return. The model of an object is optional: a real file has none.
use Rattle.std.specs.Prelude.{◌≡◌, ℕ, ◌≤◌, List, [], ◌∷◌, ◌++◌, length, take, Option, Some, None, if◌then◌else◌}
use Rattle.std.specs.Str.{bytes_eq}
use Rattle.sso_base.specs.Words.{Text}

-- a sink in memory: the bytes that it accepted, and how often it failed
pub record SinkMemory : Type 0 where
  pub bytes : List ℕ
  pub faults : ℕ

-- a name and its content
abbrev pub Content : Type 0
Content = Text × List ℕ

-- a shelf in memory: its contents, and how often it failed
pub record ShelfMemory : Type 0 where
  pub contents : List Content
  pub faults : ℕ

-- a sink whose calls with some numbers fail, counted from 1: the sink behind it, those numbers, and the number of calls so far
pub record FaultySinkMemory : Type 0 where
  pub sink : SinkMemory
  pub failing : List ℕ
  pub calls : ℕ

-- the same for a shelf
pub record FaultyShelfMemory : Type 0 where
  pub shelf : ShelfMemory
  pub failing : List ℕ
  pub calls : ℕ

-- the accepted bytes grow by this piece
abbrev pub Takes : Option (List ℕ) → Option (List ℕ) → List ℕ → Type 0
Takes None new piece = Unit {0}
Takes (Some held) new piece = new ≡ Some (held ++ piece)

-- the accepted bytes grow by a prefix of this piece
abbrev pub TakesFront : Option (List ℕ) → Option (List ℕ) → List ℕ → Type 0
TakesFront old new piece = (count : ℕ) × (count ≤ length piece) × Takes old new (take count piece)

-- the content of the first file with this name
abbrev pub content_of : List Content → Text → Option (List ℕ)
content_of [] name = None
content_of (content ∷ contents) name = if bytes_eq content.0 name then Some content.1 else content_of contents name

-- the fetched bytes are the first `most` bytes of the named content, or all of them if there are fewer
abbrev pub Fetches : Option (List Content) → Text → ℕ → List ℕ → Type 0
Fetches None name most bytes = Unit {0}
Fetches (Some contents) name most bytes = (content : List ℕ) × (content_of contents name ≡ Some content) × (bytes ≡ take most content)
