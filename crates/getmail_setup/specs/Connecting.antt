-- How a server is connected to: which of its addresses takes the connection, and how long is waited.
use Rattle.std.specs.{
  Prelude.{◌≡◌, ◌⊎◌, ◌<◌, ◌*◌, ℕ, List, length},
  List.{AllWithin, HoldsAt},
  Net.Addr.{IsCanonicalOf, IsLoopbackV4, IsLoopbackV6, MatchIp},
  declared.net.ip_addr.IpAddr.IpAddr,
}
use Rattle.getmail_setup.specs.declared.failure.Failure.{Failure, TheVariants.NoMemory}

-- an address has a minute to take the connection, in nanoseconds
abbrev pub connect_limit : ℕ
connect_limit = 60 * 1_000_000_000

-- a read or a write waits for three minutes at most
abbrev pub wait_limit : ℕ
wait_limit = 180 * 1_000_000_000

-- the waits of a stream, for reads and for writes, have that limit
abbrev pub HasLimits : {S : Type 0} → (S → ℕ → Type 0) → (S → ℕ → Type 0) → S → Type 0
HasLimits limits_reads limits_writes stream = limits_reads stream wait_limit × limits_writes stream wait_limit

-- an address refused the connection within its time, or took one whose waits can't be limited
abbrev pub Refuses : {A S : Type 0} → (A → ℕ → Type 0) → (A → ℕ → S → Type 0) → (S → Type 0) → A → Type 0
Refuses {A} {S} refused took is_refused address = refused address connect_limit
    ⊎ ((stream : S) × took address connect_limit stream × is_refused stream)

-- of these addresses one took a connection, and each before it refused
pub record TakesFirst {A S : Type 0} (takes : A → S → Type 0) (refuses : A → Type 0) (addresses : List A) (stream : S)
    (address : A) : Type 0 where
  pub place : ℕ
  pub within : place < length addresses
  pub there : HoldsAt (λ one. one ≡ address) addresses place
  pub takes_it : takes address stream
  pub before : AllWithin refuses addresses 0 place

-- no connection was made: memory ran out; or, which is told so, no address is known, or each one refused
abbrev pub IsUnconnected : {A : Type 0} → (List A → Type 0) → Type 0 → (A → Type 0) → Failure → Failure → Type 0
IsUnconnected {A} named unnamed refuses told failure = (failure ≡ NoMemory) ⊎ ((failure ≡ told)
    × (unnamed ⊎ ((addresses : List A) × named addresses × AllWithin refuses addresses 0 (length addresses))))

-- an IPv4 address that is written as an IPv6 one stands for itself
abbrev pub IsCanonical : IpAddr → IpAddr → Type 0
IsCanonical ip canonical = MatchIp ip (λ _. canonical ≡ ip) (λ v6. IsCanonicalOf v6 canonical)

-- it is an address of this machine
abbrev pub IsLoopback : IpAddr → Type 0
IsLoopback ip = MatchIp ip IsLoopbackV4 IsLoopbackV6
