-- The tokens that were written for clients: a list of texts for each client, by its number.
use Rattle.std.specs.Prelude.{ℕ, Bool, List, [], slice_index_or, ◌&&◌, ◌==◌, ◌||◌, ◌≡◌}
use Rattle.std.specs.Str.{bytes_eq}
use Rattle.sso_base.specs.Texts.{has_text}
use Rattle.sso_base.specs.Words.{Text}

-- the token was written for the client
abbrev pub is_written_for : List (List Text) → Text → ℕ → Bool
is_written_for written t client = has_text t (slice_index_or written client [])

-- the token is noted as written for the client, and nothing else
abbrev pub IsTextNoted : List (List Text) → List (List Text) → Text → ℕ → Type 0
IsTextNoted before after text client =
    (t : Text) (other : ℕ)
    → is_written_for after t other ≡ ((client == other && bytes_eq text t) || is_written_for before t other)
