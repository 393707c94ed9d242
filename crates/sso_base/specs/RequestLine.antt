-- The line that begins a request: its method, and the path and the query in its target (RFC 9112, 3).
use Rattle.std.specs.Prelude.{ℕ, ◌==◌, Bool, List, codes, if◌then◌else◌}
use Rattle.std.specs.Str.{bytes_eq}
use Rattle.sso_base.specs.declared.http.Method.{Method}
use Rattle.sso_base.specs.declared.http.Method.TheVariants.{Get, Post, Other}

-- the method, whose name is in upper case (RFC 9110, 9.1)
abbrev pub method_of : List ℕ → Method
method_of name = if bytes_eq name (codes "GET") then Get else if bytes_eq name (codes "POST") then Post else Other

-- the mark before a query (RFC 3986, 3.4): the path is the target up to the first one, and the query is what follows it
abbrev pub is_question : ℕ → Bool
is_question b = b == 63
