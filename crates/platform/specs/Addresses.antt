-- Addresses at which only this machine is reached.
use Rattle.std.specs.declared.net.socket_addr.SocketAddr.{SocketAddr}
use Rattle.std.specs.Net.Addr.{MatchIp, IsLoopbackV4, IsLoopbackV6}
use Rattle.std.specs.Net.Socket.{socket_ip}

-- the address is a loopback one: in 127.0.0.0/8 (RFC 1122, 3.2.1.3), or ::1 (RFC 4291, 2.5.3)
abbrev pub IsLoopback : SocketAddr → Type 0
IsLoopback address = MatchIp (socket_ip address) IsLoopbackV4 IsLoopbackV6
