use Rattle.std.proofs.Common.{◌≡◌, IfSome, rules}
use Rattle.folder_drop.proofs.maildir_drop.texts.read_at.Goals as goal

pub returns-clause-own : goal.returns-clause-own
returns-clause-own g c = λ s d known.
    let read : IfSome (g.D.File.Read.remaining c.in_ok-file.file) (λ octets. c.read_to_end.new.buf.items ≡ octets) = (search rules) in
    let own = c.in_ok-file.ensures.own s d known in
    (own.0, own.1, rw own.2 at read)
