-- A link with prepared replies.
use Rattle.std.specs.Prelude.{◌≡◌, ◌<◌, ℕ, true, List, ◌++◌}
use Rattle.mail_terms.specs.FailureCount.{greatest_count}
use Rattle.pop3_wire.specs.Link.{Link}

-- all that it gives, how many octets at most at once, and what is known of it
pub record Script : Type 0 where
  pub replies : List ℕ
  pub cut : ℕ
  pub link : Link

abbrev pub is_script_sound : Script → Type 0
is_script_sound script = script.link.failures < greatest_count

-- what was got begins the replies, and if a `recv` has answered 0, all of them were got
pub record TellsReplies (script : Script) : Type 0 where
  pub begins : (rest : List ℕ) × (script.replies ≡ script.link.got ++ rest)
  pub whole : script.link.ended ≡ true → script.link.got ≡ script.replies

-- the script stays, and what was got still begins it
abbrev pub gives_on : Script → Script → Type 0
gives_on old new = (new.replies ≡ old.replies) × (new.cut ≡ old.cut) × (TellsReplies old → TellsReplies new)
