use Rattle.std.proofs.{Common.{◌++◌, string_bytes, codes, decimal, length-append, arith}, lemmas.Fmt.length-decimal-le}
use Rattle.mail_store.proofs.maildir.names.file_name.Goals as goal

pub returns-clause-short : goal.returns-clause-short
returns-clause-short c =
    let name = string_bytes c.in_ok-name.name in
    let digits = length-decimal-le 20 c.args.size (omega arith) (omega arith) c.ranges.size.fits in
    rw c.add_size.ensures (omega (
      arith,
      length-append (name ++ codes ",S=") (decimal c.args.size),
      length-append name (codes ",S="),
      digits,
      c.in_ok-name.ensures.short,
    ))
