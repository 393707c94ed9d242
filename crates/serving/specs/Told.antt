-- What is sent to a connection in place of a reply of a core, and how its serving ends then.
use Rattle.std.specs.Prelude.{ℕ, List, ◌++◌, codes, Option, Some, Result, Ok, Err}
use Rattle.http_reply.specs.Replies.{plain}
use Rattle.sso_http.specs.Replies.{reply_bytes}
use Rattle.sso_http.specs.Refusals.{refusal_bytes}
use Rattle.serving.specs.declared.ends.ServedEnd.{ServedEnd}
use Rattle.serving.specs.declared.ends.ServedEnd.TheVariants as end
use Rattle.serving.specs.declared.no_reply.NoReply.{NoReply}
use Rattle.serving.specs.declared.no_reply.NoReply.TheVariants.{NoMemory, Http, Link, Peer, TooLarge, Busy, Full}

abbrev pub end_without : NoReply → ServedEnd
end_without NoMemory = end.NoMemory
end_without (Http why) = end.Http why
end_without Link = end.Link
end_without Peer = end.Peer
end_without TooLarge = end.TooLarge
end_without Busy = end.Busy
end_without Full = end.Full

-- the reply if memory ran out
unfoldable pub memory_bytes : List ℕ
memory_bytes = reply_bytes (plain 503 (codes "memory"))

-- the reply if the workers that may prove passwords do: come again in a second (RFC 9110, 10.2.3)
unfoldable pub busy_bytes : List ℕ
busy_bytes =
    codes "HTTP/1.1 503 Service Unavailable\r\nRetry-After: 1\r\nCache-Control: no-store\r\n"
    ++ codes "Content-Type: text/plain; charset=utf-8\r\nContent-Length: 5\r\nConnection: close\r\n\r\nbusy\n"

-- one line of text with a status; none if the request's source failed or ended, since nobody would receive it
unfoldable pub bytes_without : NoReply → Option (List ℕ)
bytes_without NoMemory = Some memory_bytes
bytes_without (Http why) = refusal_bytes why
bytes_without Link = Some (reply_bytes (plain 502 (codes "link")))
bytes_without Peer = Some (reply_bytes (plain 502 (codes "peer")))
bytes_without TooLarge = Some (reply_bytes (plain 413 (codes "size")))
bytes_without Busy = Some busy_bytes
bytes_without Full = Some (reply_bytes (plain 503 (codes "journal")))

-- how the serving ends, with a reply or without one
abbrev pub end_of : {R : Type 0} → Result R NoReply → ServedEnd
end_of (Ok reply) = end.Written
end_of (Err why) = end_without why

-- the bytes that are written at the end: the reply, or what is sent in its place
abbrev pub bytes_of : {R : Type 0} → (R → List ℕ) → Result R NoReply → Option (List ℕ)
bytes_of bytes (Ok reply) = Some (bytes reply)
bytes_of bytes (Err why) = bytes_without why
