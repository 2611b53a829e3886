-- The arguments that USER and PASS take (RFC 1939, section 7).
use Rattle.std.specs.{Prelude.{ℕ, Bool, not, ◌==◌, ◌&&◌, nat_lt, nat_le, List, length}, List.list_all}

-- a byte other than CR, LF and NUL
abbrev pub is_plain : ℕ → Bool
is_plain byte = not (byte == 13) && not (byte == 10) && not (byte == 0)

-- a user name or a password: 1 to 500 bytes, all of them plain
abbrev pub is_credential : List ℕ → Bool
is_credential bytes = nat_lt 0 (length bytes) && nat_le (length bytes) 500 && list_all is_plain bytes
