-- The reply if memory ran out is a constant.
use Rattle.std.proofs.Common.{◌≡◌, codes, Some, refl, ap, sym}
use Rattle.std.specs.Fmt.{digits}
use Rattle.sso_http.specs.Writing.{no_store, field, last_lines}
use Rattle.sso_http.specs.Replies.{reply_bytes, status_line, reason}
use Rattle.serving.specs.declared.no_reply.NoReply.TheVariants.{NoMemory}
use Rattle.serving.specs.Told.{memory_bytes, bytes_without}

memory_line : codes "HTTP/1.1 503 Service Unavailable\r\nCache-Control: no-store\r\nContent-Type: text/plain; charset=utf-8\r\nContent-Length: 7\r\nConnection: close\r\n\r\nmemory\n" ≡ memory_bytes
unfolding memory_bytes reply_bytes status_line reason no_store field last_lines digits
memory_line = refl

pub told_of_memory : bytes_without NoMemory ≡ Some (codes "HTTP/1.1 503 Service Unavailable\r\nCache-Control: no-store\r\nContent-Type: text/plain; charset=utf-8\r\nContent-Length: 7\r\nConnection: close\r\n\r\nmemory\n")
unfolding bytes_without
told_of_memory = ap Some (sym memory_line)
