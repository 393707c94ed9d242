-- Values that are preserved by writing and reading JSON: integers of 64 bits, texts in UTF-8, and each name once, in order.
use Rattle.std.specs.Prelude.{◌≡◌, ◌<◌, ◌≤◌, ◌^◌, ℕ, pos, negsuc, List, [], ◌∷◌, IfSome, ⊤}
use Rattle.std.specs.Str.{IsUtf8}
use Rattle.std.specs.Ordering.{nat_cmp}
use Rattle.std.specs.declared.cmp.Ordering.TheVariants.{Less}
use Rattle.std.specs.Cmp.Lexicographic.{slice_cmp}
use Rattle.claim_set.specs.Building.{Entry}
use Rattle.claim_set.specs.Claims.{claims_depth}
use Rattle.serde_json.specs.Data.{Num, unsigned, negative, float, Data, null, boolean, number, string, array, object, Items, no_items, item, Members}
use Rattle.serde_json.specs.Data.{no_members, member, depth}

-- an integer that has 64 bits
abbrev pub NumFits : Num → Type 0
NumFits (unsigned n) = n < 2 ^ 64
NumFits (negative (pos n)) = ⊥
NumFits (negative (negsuc n)) = n < 2 ^ 63
NumFits (float x) = ⊥

-- the name is before each of the members
abbrev pub IsBefore : List ℕ → Members → Type 0
IsBefore k no_members = ⊤
IsBefore k (member l d ms) = (slice_cmp nat_cmp k l ≡ Less) × IsBefore k ms

-- each name occurs once, in order
abbrev pub InOrder : Members → Type 0
InOrder no_members = ⊤
InOrder (member k d ms) = IsBefore k ms × InOrder ms

abbrev mutual
  pub Fits : Data → Type 0
  Fits null = ⊤
  Fits (boolean b) = ⊤
  Fits (number n) = NumFits n
  Fits (string s) = IsUtf8 s
  Fits (array ds) = ItemsFit ds
  Fits (object ms) = MembersFit ms

  pub ItemsFit : Items → Type 0
  ItemsFit no_items = ⊤
  ItemsFit (item d ds) = Fits d × ItemsFit ds

  pub MembersFit : Members → Type 0
  MembersFit no_members = ⊤
  MembersFit (member k d ms) = IsUtf8 k × Fits d × IsBefore k ms × MembersFit ms

-- claims that fit: names and texts in UTF-8, numbers of 64 bits, names in order, nested at most 127 deep
pub record ClaimsFit (ms : Members) : Type 0 where
  pub members : MembersFit ms
  pub nests : claims_depth ms ≤ 127

-- entries whose names are in UTF-8 and whose values fit, nested at most 126 deep
abbrev pub EntriesFit : List Entry → Type 0
EntriesFit [] = ⊤
EntriesFit (e ∷ es) = IsUtf8 e.0 × IfSome e.1 (λ d. Fits d × (depth d ≤ 126)) × EntriesFit es
