-- A form that was written of pairs is read as these pairs.
use Rattle.std.proofs.Common.{◌≡◌, List, [], ◌∷◌, map, refl, sym, ◌∙◌, ap}
use Rattle.std.specs.Prelude.{⊤}
use Rattle.std.specs.List.{All}
use Rattle.std.specs.Str.{IsUtf8}
use Rattle.std.specs.Str.Lossy.{utf8_lossy}
use Rattle.std.proofs.lemmas.Str.{utf8_lossy-IsUtf8}
use Rattle.std.proofs.lemmas.Simd.{map-map}
use Rattle.std.proofs.lemmas.List.Elements.{All-nil, All-cons}
use Rattle.form_urlencoded.specs.Form.{raw_pairs, decode, extend_pairs}
use Rattle.form_urlencoded.proofs.FormLemmas.{IsBytePair, round_trip}
use Rattle.request_params.specs.Form.{Pair, form_pairs, form_text}
use Rattle.sso_base.proofs.Utf8Bytes.{bytes-IsUtf8}

-- both are UTF-8
abbrev pub IsTextPair : Pair → Type 0
IsTextPair p = IsUtf8 p.0 × IsUtf8 p.1

abbrev pub AreTextPairs : List Pair → Type 0
AreTextPairs [] = ⊤
AreTextPairs (p ∷ ps) = IsTextPair p × AreTextPairs ps

byte_pairs : (ps : List Pair) → AreTextPairs ps → All IsBytePair ps
byte_pairs [] h = All-nil IsBytePair
byte_pairs (p ∷ ps) h = All-cons IsBytePair p ps (bytes-IsUtf8 p.0 h.0.0, bytes-IsUtf8 p.1 h.0.1) (byte_pairs ps h.1)

abbrev lossy_pair : Pair → Pair
lossy_pair p = (utf8_lossy p.0, utf8_lossy p.1)

same_texts : (ps : List Pair) → AreTextPairs ps → map lossy_pair ps ≡ ps
same_texts [] h = refl
same_texts (p ∷ ps) h = λ i. (utf8_lossy-IsUtf8 p.0 h.0.0 i, utf8_lossy-IsUtf8 p.1 h.0.1 i) ∷ same_texts ps h.1 i

pub form_pairs-form_text : (ps : List Pair) → AreTextPairs ps → form_pairs (form_text ps) ≡ ps
unfolding form_pairs form_text
form_pairs-form_text ps h =
    sym (map-map lossy_pair (λ p. (decode p.0, decode p.1)) (raw_pairs (extend_pairs [] ps)))
    ∙ ap (map lossy_pair) (round_trip ps (byte_pairs ps h))
    ∙ same_texts ps h
