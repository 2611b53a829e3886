-- The names of an account's files in a Maildir, and which ids they hold.
use Rattle.std.specs.{
  Prelude.{◌≡◌, ◌≤◌, ◌+◌, ◌==◌, ℕ, List, [], ◌∷◌, ◌++◌, length, Bool, nat_le, ◌&&◌, ◌||◌, bytes_eq, codes, decimal},
  Prelude.{String, string_len, string_capacity},
  List.{AllPass, before_first, list_any},
}
use Rattle.hex.specs.Hex.{encode_lower}
use Rattle.sha2.specs.Sha256.{sha256}
use Rattle.mail_terms.specs.{MaildirName.base, UniqueId.IsLegalId}
use Rattle.mail_store.specs.Maildir.{Maildir, File, mail}

-- the text by which accounts are told apart: the digest of server, NUL, port, NUL, user name, in small hexadecimal
abbrev pub account_text : List ℕ → ℕ → List ℕ → List ℕ
account_text server port username =
    encode_lower (sha256 (server ++ 0 ∷ [] ++ decimal port ++ 0 ∷ [] ++ username))

-- `0` to `9` or `a` to `f`
abbrev pub is_lower_hex_digit : ℕ → Bool
is_lower_hex_digit byte = (nat_le 48 byte && nat_le byte 57) || (nat_le 97 byte && nat_le byte 102)

-- a text that can tell accounts apart: 64 hexadecimal digits in lower case
abbrev pub IsAccountText : List ℕ → Type 0
IsAccountText text = (length text ≡ 64) × AllPass is_lower_hex_digit text

abbrev pub is_comma : ℕ → Bool
is_comma byte = byte == 44

-- the part of a name's base before its first comma; what follows describes the file, as `,S=` does (Maildir++)
abbrev pub stem : List ℕ → List ℕ
stem name = before_first is_comma (base name)

-- the stem of the files that hold an id: the account's text, a full stop, the id in lower-case hexadecimal
abbrev pub stem_of : List ℕ → List ℕ → List ℕ
stem_of account uid = account ++ 46 ∷ encode_lower uid

-- a stem, `,S=` and a size in decimal
abbrev pub sized : List ℕ → ℕ → List ℕ
sized front size = front ++ codes ",S=" ++ decimal size

-- the name of a file that holds an id and has `size` bytes. Earlier versions named it by its stem alone
abbrev pub name_of : List ℕ → List ℕ → ℕ → List ℕ
name_of account uid size = sized (stem_of account uid) size

-- a text in a file whose name is this stem and the text's length, and the file of an id's text
abbrev pub sized_file : List ℕ → List ℕ → File
sized_file front text = mail (sized front (length text)) text

abbrev pub mail_file : List ℕ → List ℕ → List ℕ → File
mail_file account uid text = sized_file (stem_of account uid) text

-- two ids of one account have different stems
abbrev pub StemsDiffer : Type 0
StemsDiffer = (account a b : List ℕ) → IsLegalId a → IsLegalId b → stem_of account a ≡ stem_of account b → a ≡ b

-- an id's stem holds no comma and no colon
abbrev pub StemsAreStems : Type 0
StemsAreStems = (account uid : List ℕ) → IsAccountText account → stem (stem_of account uid) ≡ stem_of account uid

-- the stem of an id's name is the id's, whatever the size
abbrev pub NamesHaveStems : Type 0
NamesHaveStems = (account uid : List ℕ) (size : ℕ) → IsAccountText account
    → stem (name_of account uid size) ≡ stem_of account uid

-- the base of an id's name is the name: it holds no colon
abbrev pub NamesAreBases : Type 0
NamesAreBases = (account uid : List ℕ) (size : ℕ) → IsAccountText account
    → base (name_of account uid size) ≡ name_of account uid size

-- the length in bytes of the longest stem: 64 digits, a full stop, and two digits for each of 70 characters; and of the
-- longest name: a stem, `,S=` and 20 digits
abbrev pub longest_stem : ℕ
longest_stem = 205

abbrev pub longest_name : ℕ
longest_name = 228

-- `,S=` and any size fit after it without more memory
abbrev pub HasRoomForSize : {A : Type 0} → String A → Type 0
HasRoomForSize text = string_len text + 23 ≤ string_capacity text

-- whether the name's stem is that of the id's files
abbrev pub names_id : List ℕ → List ℕ → List ℕ → Bool
names_id account uid name = bytes_eq (stem_of account uid) (stem name)

-- whether a file of `new` or `cur` holds the id
abbrev pub is_held : List ℕ → Maildir → List ℕ → Bool
is_held account maildir uid = list_any (λ (f : File). names_id account uid f.name) maildir.files

-- whether what can't be opened bears a name of the id's files
abbrev pub is_odd : List ℕ → Maildir → List ℕ → Bool
is_odd account maildir uid = list_any (names_id account uid) maildir.odd
