use Rattle.folder_store.proofs.Searching.{octets_step}
use Rattle.folder_store.proofs.wanted.octets_of.Goals as goal

pub loop-text-preserved : goal.loop-text-preserved
loop-text-preserved c = λ text. rw c.in_ok-push.ensures.items (octets_step c.loop-text.all.items c.args.texts.now c.loop-text.text-index
    c.text-item.result c.as_bytes.result c.loop-text-test.true c.text-item.is c.as_bytes.ensures.value text (c.loop-text.invariant text))
