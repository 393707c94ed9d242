-- Laws about the traces of storms. Each is a clause of a function of `law.rt`, which says it in words.
use Rattle.std.specs.Prelude.{◌≡◌, ◌≤◌, ℕ, Ok}
use Rattle.client_registry.specs.Configuration.{Configuration}
use Rattle.trace_lines.specs.Lines.{places_after}
use Rattle.trace_lines.specs.Trace.{Told, trace_told}
use Rattle.storm_texts.specs.Parties.{KnowsParties}
use Rattle.storm_texts.specs.Trace.{seed_of, trace_text, places_before}

-- ---- traces

abbrev pub StormsAreAccepted : Type 0
StormsAreAccepted =
    (c : Configuration) (number count : ℕ) → KnowsParties c → count ≤ 10000
    → (told : Told) × (trace_told c (trace_text number count) ≡ Ok told) × (told.seed ≡ seed_of number)
    × (places_after told.lines ≡ places_before count)
