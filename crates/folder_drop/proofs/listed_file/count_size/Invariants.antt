use Rattle.std.{proofs.Common.{ℕ, List}, specs.Io.KnownBytes.Consumes}
use Rattle.pop3_server.specs.Size.{CountsText}
use Rattle.folder_drop.proofs.listed_file.count_size.Given as goal

abbrev pub invariant-loop : goal.invariant-loop
invariant-loop g l = (before : List ℕ) × CountsText l.count before
    × Consumes (g.F.Read.remaining l.initial.file) (g.F.Read.remaining l.file) before
