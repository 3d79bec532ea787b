-- Addresses and peers, as words of a command line.
use Rattle.std.specs.Prelude.{◌≡◌, ◌≢◌, ◌⊎◌, ℕ, ◌<◌, List, [], ◌∷◌, ◌++◌, length, get_or}
use Rattle.std.specs.declared.net.ip_addr.IpAddr.TheVariants as Ip
use Rattle.std.specs.declared.net.ipv4_addr.Ipv4Addr.{Ipv4Addr}
use Rattle.std.specs.declared.net.socket_addr.SocketAddr.{SocketAddr}
use Rattle.std.specs.Net.Addr.{ipv4_octets}
use Rattle.std.specs.Net.Grammar.{IsSocketText}
use Rattle.std.specs.Net.Socket.{socket_ip, socket_port}
use Rattle.am_peers.specs.Peers.{IsNumberWithin, decimal_of}

-- the address is this port of 127.0.0.1
pub record IsHere (port : ℕ) (address : SocketAddr) : Type 0 where
  pub ip : Ipv4Addr
  pub octets : ipv4_octets ip ≡ 127 ∷ 0 ∷ 0 ∷ 1 ∷ []
  pub at : socket_ip address ≡ Ip.V4 ip
  pub port_is : socket_port address ≡ port

-- the word is an address and a port, as the standard library reads them, and the port isn't 0
abbrev pub IsWritten : List ℕ → SocketAddr → Type 0
IsWritten word address = IsSocketText word address × (0 < socket_port address)

-- the word is a port, which is one of 127.0.0.1, or an address and a port
abbrev pub IsAddressWord : List ℕ → SocketAddr → Type 0
IsAddressWord word address =
    (IsNumberWithin 1 65535 word × IsHere (decimal_of word) address) ⊎ ((¬ IsNumberWithin 1 65535 word) × IsWritten word address)

-- the word is a name, the sign = and an address, cut at its last sign =
pub record IsPeerWord (word name : List ℕ) (address : SocketAddr) : Type 0 where
  pub text : List ℕ
  pub parts : word ≡ name ++ (61 ∷ text)
  pub last : (i : ℕ) → i < length text → get_or text i 0 ≢ 61
  pub is : IsAddressWord text address
