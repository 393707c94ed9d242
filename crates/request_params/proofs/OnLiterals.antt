use Rattle.std.specs.Prelude.{⊤}
use Rattle.std.specs.Str.{is_utf8, chars}
use Rattle.std.specs.Str.Lossy.{utf8_lossy, utf8_valid_len, utf8_error_len}
use Rattle.form_urlencoded.proofs.OnLiterals.{form_urlencoded_on_literals}
use Rattle.request_params.specs.Form.{form_pairs, form_text}
use Rattle.request_params.specs.Reading.{request_read}
use Rattle.request_params.specs.Merging.{request_merged}
use Rattle.request_params.specs.Location.{with_query, with_fragment}
use Rattle.request_params.specs.Printing.{request_location}
use lib.Utf8.{encode}

-- what an answer unfolds to compute forms, requests and locations on literals
unfoldable pub request_params_on_literals : ⊤
unfolding form_urlencoded_on_literals utf8_lossy utf8_valid_len utf8_error_len is_utf8 chars encode form_pairs form_text request_read request_merged with_query with_fragment request_location
request_params_on_literals = tt
