-- Which warnings are given of an account, and of an address.
use Rattle.std.specs.{
  Prelude.{◌≡◌, ◌++◌, ◌∷◌, ◌==◌, if◌then◌else◌, ℕ, Bool, not, List, [], bit_and, codes, unwrap_or},
  Net.Addr.{IsCanonicalOf, IsLoopbackV4, IsLoopbackV6, MatchIp},
  declared.net.ip_addr.IpAddr.{IpAddr},
}
use Rattle.mail_terms.specs.Credential.{is_credential}
use Rattle.popd_program.specs.{
  Texts.{no_folder, no_password, no_user, open_passfile},
  declared.warning.Findings.Findings,
}

-- others than a file's owner may read or write it, by its mode
abbrev pub is_open_to_others : ℕ → Bool
is_open_to_others mode = not (bit_and mode 0o066 == 0)

abbrev pub given_if : Bool → List ℕ → List (List ℕ)
given_if holds text = if holds then text ∷ [] else []

-- all that are given of an account, in order
abbrev pub warnings_of : List ℕ → List ℕ → List ℕ → List ℕ → Findings → List (List ℕ)
warnings_of user password maildir passfile found =
    given_if (not (is_credential user)) no_user ++ given_if (not (is_credential password)) no_password
    ++ given_if (is_open_to_others (unwrap_or found.passfile 0)) (open_passfile passfile)
    ++ given_if (not found.has_new) (no_folder maildir (codes "new"))
    ++ given_if (not found.has_cur) (no_folder maildir (codes "cur"))

-- an IPv4 address that is written as an IPv6 one stands for itself
abbrev pub IsUnmapped : IpAddr → IpAddr → Type 0
IsUnmapped ip canonical = MatchIp ip (λ _. canonical ≡ ip) (λ v6. IsCanonicalOf v6 canonical)

-- it is an address of this machine
abbrev pub IsOfMachine : IpAddr → Type 0
IsOfMachine ip = MatchIp ip IsLoopbackV4 IsLoopbackV6
