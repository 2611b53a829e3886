use Rattle.std.proofs.Common.{rules, ◌∙◌}
use Rattle.folder_store.proofs.Reading.{edges_small}
use Rattle.folder_store.proofs.opened_file.small_edges.Goals as goal

pub returns : goal.returns
returns g c = λ s. let (before, stays, (_, read)) = c.in_ok-fill_whole.ensures s in (
  before,
  stays,
  λ b leads begins is. c.edges_of.ensures
      ∙ edges_small b.content c.fill_whole.new.buf c.args.size _ begins is (search rules) (read b leads),
)
